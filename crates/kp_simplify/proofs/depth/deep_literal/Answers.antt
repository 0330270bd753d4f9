use Rattle.std.proofs.Common.{rules, ◌≤◌, length}
use Rattle.kp_symbolic.specs.Languages.{language_view}
use Rattle.kp_simplify.proofs.FirstDeep.{literals_here, literals_later, literals_none}
use Rattle.kp_simplify.proofs.depth.deep_literal.Goals as goal

pub returns-in-Some : goal.returns-in-Some
returns-in-Some c =
    literals_here (language_view c.args.language.now) c.args.literals.now c.loop-literal.literal-index c.literal-item.result _ c.loop-literal-test.true c.literal-item.is (search rules) c.loop-literal.invariant

pub loop-literal-preserved : goal.loop-literal-preserved
loop-literal-preserved c =
    literals_later (language_view c.args.language.now) c.args.literals.now c.loop-literal.literal-index c.literal-item.result c.loop-literal-test.true c.literal-item.is (search rules) c.loop-literal.invariant

pub returns : goal.returns
returns c =
    let past : length c.args.literals.now ≤ c.loop-literal.literal-index = search rules in
    literals_none (language_view c.args.language.now) c.args.literals.now c.loop-literal.literal-index past c.loop-literal.invariant
