use Rattle.std.proofs.Common.{rules, ◌≤◌, length}
use Rattle.kp_signature.specs.View.{signature_view}
use Rattle.kp_limits.proofs.WideLemmas.{literals_here, literals_later, literals_none}
use Rattle.kp_limits.proofs.wide.wide_in_literals.Goals as goal

pub returns-in-Some : goal.returns-in-Some
returns-in-Some c =
    literals_here (signature_view c.args.signature.now) c.args.literals.now c.loop-literal.literal-index c.literal-item.result _ c.loop-literal-test.true c.literal-item.is (search rules) c.loop-literal.invariant

pub loop-literal-preserved : goal.loop-literal-preserved
loop-literal-preserved c =
    literals_later (signature_view c.args.signature.now) c.args.literals.now c.loop-literal.literal-index c.literal-item.result c.loop-literal-test.true c.literal-item.is (search rules) c.loop-literal.invariant

pub returns : goal.returns
returns c =
    let past : length c.args.literals.now ≤ c.loop-literal.literal-index = search rules in
    literals_none (signature_view c.args.signature.now) c.args.literals.now c.loop-literal.literal-index past c.loop-literal.invariant
