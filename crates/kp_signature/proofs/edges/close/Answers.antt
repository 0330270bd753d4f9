use Rattle.std.proofs.Common.{rules, ℕ, ◌<◌, ◌≤◌, List, subst, [], take, get_or, length}
use Rattle.std.proofs.lemmas.List.{take_all}
use Rattle.kp_signature.specs.Edges.{Extended, edges_of}
use Rattle.kp_signature.proofs.EdgeLemmas.{Closing, closing_start, closing_more, all_closed, first_ones, is_found, is_read}
use Rattle.kp_signature.proofs.edges.close.Goals as goal

pub loop-next-init : goal.loop-next-init
loop-next-init c = closing_start (edges_of c.args.edges.now) c.args.found.now.keys

pub loop-next-preserved : goal.loop-next-preserved
loop-next-preserved c =
    let edges = edges_of c.args.edges.now in
    let n = c.loop-next.next in
    let found = c.loop-next.found.keys in
    let after = c.add_next.new.found.keys in
    let long : n < length found = search rules in
    let i = get_or found n 0 in
    let e : Extended found (get_or edges i []) after = subst (λ (l : List ℕ). Extended found (get_or edges (get_or l n 0) []) after) c.as_slice.ensures.keys c.in_ok-add_next.ensures in
    subst (λ l. Closing edges c.args.found.now.keys l after) (first_ones found e.more after n i long (is_read found n 0 long) e.is)
    (closing_more edges c.args.found.now.keys (take n found) found after i c.loop-next.invariant (is_found found n i long (is_read found n 0 long)) e)

pub returns : goal.returns
returns c =
    let past : length c.loop-next.found.keys ≤ c.loop-next.next = search rules in
    all_closed (edges_of c.args.edges.now) c.args.found.now.keys (take c.loop-next.next c.loop-next.found.keys) c.loop-next.found.keys (take_all c.loop-next.next c.loop-next.found.keys past) c.loop-next.invariant
