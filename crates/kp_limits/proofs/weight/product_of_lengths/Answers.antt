use Rattle.std.proofs.Common.{rules, ◌≡◌, ap, ◌∙◌, map, length, ◌≤◌}
use Rattle.kp_symbolic.specs.Weights.{clause_length}
use Rattle.kp_literals.specs.Readings.{read_view}
use Rattle.kp_limits.specs.Told.{told}
use Rattle.kp_limits.proofs.WeightLemmas.{choices_none, choices_more, choices_end}
use Rattle.kp_limits.proofs.weight.product_of_lengths.Goals as goal

pub loop-clause-init : goal.loop-clause-init
loop-clause-init c = choices_none c.args.clauses.now

pub loop-clause-preserved : goal.loop-clause-preserved
loop-clause-preserved c =
    let same : c.deref.result.now ≡ c.clause-item.result.items = search rules in
    choices_more c.args.clauses.now c.loop-clause.clause-index c.loop-clause.product c.clause_length.result c.saturating_mul-product.result c.clause-item.result c.loop-clause-test.true c.clause-item.is (c.clause_length.ensures ∙ ap (λ ms. told (clause_length (map read_view ms))) same) c.saturating_mul-product.ensures c.loop-clause.invariant

pub returns : goal.returns
returns c =
    let past : length c.args.clauses.now ≤ c.loop-clause.clause-index = search rules in
    choices_end c.args.clauses.now c.loop-clause.clause-index c.loop-clause.product past c.loop-clause.invariant
