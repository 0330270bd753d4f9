use Rattle.std.proofs.Common.{rules, ◌≤◌, sym, ap, subst, ◌∙◌, [], ◌∷◌, ◌++◌, map, take, length}
use Rattle.std.proofs.lemmas.List.{map_more, map-append, take_all}
use Rattle.kp_signature.specs.Pairs.{subsort_view}
use Rattle.kp_heads.specs.Steps.{pair_step}
use Rattle.kp_heads.specs.Made.{IsMade}
use Rattle.kp_heads.proofs.made.Made.add_pairs.Goals as goal

pub loop-pair-preserved : goal.loop-pair-preserved
loop-pair-preserved c start =
    let ps = c.subsorts-pair-items.result.now in
    let i = c.loop-pair.pair-index in
    let done = map subsort_view (take i ps) in
    let all = ap (λ p. done ++ subsort_view p ∷ []) c.pair-item.is ∙ sym (map_more subsort_view ps i c.pair-item.result c.loop-pair-test.true) in
    subst (λ l. IsMade l c.add_pair.new.self) (sym (map-append pair_step done (subsort_view c.pair-item.result ∷ [])) ∙ ap (map pair_step) all)
    (c.in_ok-add_pair.ensures (map pair_step done) (c.loop-pair.invariant start))

pub returns : goal.returns
returns c start =
    let ps = c.subsorts-pair-items.result.now in
    let past : length ps ≤ c.loop-pair.pair-index = search rules in
    subst (λ l. IsMade (map pair_step l) c.loop-pair.self) (ap (map subsort_view) (take_all c.loop-pair.pair-index ps past) ∙ c.subsorts-pair-items.ensures) (c.loop-pair.invariant start)
