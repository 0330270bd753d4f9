use Rattle.std.proofs.Common.{rules, ◌≤◌, sym, ap, subst, ◌∙◌, [], ◌∷◌, ◌++◌, map, take, length}
use Rattle.std.proofs.lemmas.List.{map_more, take_all}
use Rattle.kp_signature.specs.Order.{IsGraphOf}
use Rattle.kp_signature.specs.Pairs.{subsort_view}
use Rattle.kp_signature.proofs.graph.SortGraph.add_pairs.Goals as goal

pub loop-pair-init : goal.loop-pair-init
loop-pair-init c start = start

pub loop-pair-preserved : goal.loop-pair-preserved
loop-pair-preserved c start =
    let ps = c.args.pairs.now in
    let i = c.loop-pair.pair-index in
    subst (λ l. IsGraphOf l c.add_pair.new.self) (ap (λ p. map subsort_view (take i ps) ++ subsort_view p ∷ []) c.pair-item.is ∙ sym (map_more subsort_view ps i c.pair-item.result c.loop-pair-test.true))
    (c.in_ok-add_pair.ensures (map subsort_view (take i ps)) (c.loop-pair.invariant start))

pub returns : goal.returns
returns c start =
    let ps = c.args.pairs.now in
    let past : length ps ≤ c.loop-pair.pair-index = search rules in
    subst (λ l. IsGraphOf (map subsort_view l) c.loop-pair.self) (take_all c.loop-pair.pair-index ps past) (c.loop-pair.invariant start)
