use Rattle.std.proofs.Common.{rules, ◌≤◌, length}
use Rattle.kp_signature.specs.View.{signature_view}
use Rattle.kp_limits.proofs.WideLemmas.{clauses_here, clauses_later, clauses_none}
use Rattle.kp_limits.proofs.wide.wide_in_clauses.Goals as goal

pub returns-in-Some : goal.returns-in-Some
returns-in-Some c =
    clauses_here (signature_view c.args.signature.now) c.args.clauses.now c.loop-clause.clause-index c.clause-item.result _ c.loop-clause-test.true c.clause-item.is (search rules) c.loop-clause.invariant

pub loop-clause-preserved : goal.loop-clause-preserved
loop-clause-preserved c =
    clauses_later (signature_view c.args.signature.now) c.args.clauses.now c.loop-clause.clause-index c.clause-item.result c.loop-clause-test.true c.clause-item.is (search rules) c.loop-clause.invariant

pub returns : goal.returns
returns c =
    let past : length c.args.clauses.now ≤ c.loop-clause.clause-index = search rules in
    clauses_none (signature_view c.args.signature.now) c.args.clauses.now c.loop-clause.clause-index past c.loop-clause.invariant
