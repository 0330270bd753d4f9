use Rattle.std.proofs.Common.{rules, ◌≡◌, ap, ◌∙◌, map, length, ◌≤◌}
use Rattle.kp_symbolic.specs.Weights.{clause_length}
use Rattle.kp_literals.specs.Readings.{read_view}
use Rattle.kp_limits.specs.Told.{told}
use Rattle.kp_limits.proofs.WeightLemmas.{clauses_more, clauses_end}
use Rattle.kp_limits.proofs.weight.all_literals.Goals as goal

pub loop-clause-preserved : goal.loop-clause-preserved
loop-clause-preserved c =
    let same : c.deref.result.now ≡ c.clause-item.result.items = search rules in
    clauses_more c.args.clauses.now c.loop-clause.clause-index c.loop-clause.literals c.clause_length.result c.saturating_add-literals.result c.clause-item.result c.loop-clause-test.true c.clause-item.is (c.clause_length.ensures ∙ ap (λ ms. told (clause_length (map read_view ms))) same) c.saturating_add-literals.ensures c.loop-clause.invariant

pub returns : goal.returns
returns c =
    let past : length c.args.clauses.now ≤ c.loop-clause.clause-index = search rules in
    clauses_end c.args.clauses.now c.loop-clause.clause-index c.loop-clause.literals past c.loop-clause.invariant
