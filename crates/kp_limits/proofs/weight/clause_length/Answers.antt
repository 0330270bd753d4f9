use Rattle.std.proofs.Common.{rules, length, ◌≤◌}
use Rattle.kp_limits.proofs.WeightLemmas.{literals_more, literals_end}
use Rattle.kp_limits.proofs.weight.clause_length.Goals as goal

pub loop-literal-preserved : goal.loop-literal-preserved
loop-literal-preserved c = literals_more c.args.clause.now c.loop-literal.literal-index c.loop-literal.length c.form_length.result c.saturating_add-length.result c.literal-item.result c.loop-literal-test.true c.literal-item.is c.form_length.ensures c.saturating_add-length.ensures c.loop-literal.invariant

pub returns : goal.returns
returns c =
    let past : length c.args.clause.now ≤ c.loop-literal.literal-index = search rules in
    literals_end c.args.clause.now c.loop-literal.literal-index c.loop-literal.length past c.loop-literal.invariant
