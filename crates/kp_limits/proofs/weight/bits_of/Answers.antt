use Rattle.std.proofs.Common.{rules, ◌≡◌, ap, ◌∙◌, subst, map, length, string_bytes}
use Rattle.kp_symbolic.specs.Weights.{IsBitLength, largest, each_once, all_bounds}
use Rattle.kp_literals.specs.Bounds.{difference_view}
use Rattle.kp_literals.specs.Readings.{clauses_view}
use Rattle.kp_limits.specs.Told.{names_in_bounds}
use Rattle.kp_limits.proofs.OverLemmas.{bits_told}
use Rattle.kp_limits.proofs.weight.bits_of.Goals as goal

pub returns : goal.returns
returns c =
    let cs = clauses_view c.args.clauses.now in
    let k = c.largest_length.result in
    let bounds : map difference_view c.deref-3.result.now ≡ all_bounds cs = search rules in
    let named : map (λ n. string_bytes n.now) c.deref-2.result.now ≡ names_in_bounds (all_bounds cs) = search rules in
    let long : IsBitLength (largest (all_bounds cs)) k = subst (λ bs. IsBitLength (largest bs) k) bounds c.largest_length.ensures in
    bits_told cs k c.in_ok-count.count c.saturating_add.result long
    (c.in_ok-count.ensures ∙ ap (λ ns. length (each_once ns)) named)
    c.saturating_add.ensures
