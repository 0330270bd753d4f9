use Rattle.std.proofs.Common.{rules, ◌≤◌, length}
use Rattle.kp_signature.specs.View.{signature_view}
use Rattle.kp_limits.proofs.WideLemmas.{replaced_here, replaced_later, replaced_none}
use Rattle.kp_limits.proofs.wide.wide_in_replaced.Goals as goal

pub returns-in-Some : goal.returns-in-Some
returns-in-Some c =
    replaced_here (signature_view c.args.signature.now) c.args.replaced.now c.loop-one.one-index c.one-item.result _ c.loop-one-test.true c.one-item.is (search rules) c.loop-one.invariant

pub loop-one-preserved : goal.loop-one-preserved
loop-one-preserved c =
    replaced_later (signature_view c.args.signature.now) c.args.replaced.now c.loop-one.one-index c.one-item.result c.loop-one-test.true c.one-item.is (search rules) c.loop-one.invariant

pub returns : goal.returns
returns c =
    let past : length c.args.replaced.now ≤ c.loop-one.one-index = search rules in
    replaced_none (signature_view c.args.signature.now) c.args.replaced.now c.loop-one.one-index past c.loop-one.invariant
