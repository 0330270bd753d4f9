use Rattle.std.proofs.Common.{rules, ℕ, ◌<◌, ◌≤◌, List, subst, [], ◌∷◌, ◌++◌, inl, inr, take, get_or, length, Contains}
use Rattle.std.proofs.lemmas.List.{take_all}
use Rattle.std.proofs.lemmas.List.Elements.{Contains-push_cases}
use Rattle.kp_signature.specs.Edges.{edges_of}
use Rattle.kp_signature.proofs.EdgeLemmas.{first_ones, is_found, is_read}
use Rattle.kp_heads.specs.Rows.{Woken}
use Rattle.kp_heads.proofs.Rows.{Spreading, spreading_start, spreading_more, all_spread, in_taken}
use Rattle.kp_heads.proofs.spread.spread.Goals as goal

pub loop-next-init : goal.loop-next-init
loop-next-init c needed = spreading_start c.args.rows.now c.args.found.now.keys c.begin.new.found.keys c.in_ok-begin.ensures

pub loop-next-preserved : goal.loop-next-preserved
loop-next-preserved c needed =
    let all = c.args.rows.now in
    let users = c.args.users.now in
    let starts = c.args.found.now.keys in
    let n = c.loop-next.next in
    let found = c.loop-next.found.keys in
    let after = c.wake.new.found.keys in
    let long : n < length found = search rules in
    let i = get_or found n 0 in
    let w : Woken all (get_or (edges_of users) i []) found after = subst (λ (l : List ℕ). Woken all (get_or (edges_of users) (get_or l n 0) []) found after) c.as_slice.ensures.keys c.in_ok-wake.ensures in
    let is = is_read found n 0 long in
    let in_found : (m : ℕ) → Contains (take n found ++ i ∷ []) m → Contains found m = λ m h. elim (Contains-push_cases (take n found) i m h) [
      | inl old ↦ in_taken found n m old
      | inr same ↦ subst (Contains found) same (is_found found n i long is)
    ] in
    subst (λ l. Spreading all starts l after) (first_ones found w.grown.more after n i long is w.grown.is)
    (spreading_more all users needed starts (take n found) found after i (c.loop-next.invariant needed) in_found w)

pub returns : goal.returns
returns c needed =
    let past : length c.loop-next.found.keys ≤ c.loop-next.next = search rules in
    all_spread c.args.rows.now c.args.found.now.keys (take c.loop-next.next c.loop-next.found.keys) c.loop-next.found.keys (take_all c.loop-next.next c.loop-next.found.keys past) (c.loop-next.invariant needed)
