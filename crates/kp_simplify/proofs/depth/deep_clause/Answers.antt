use Rattle.std.proofs.Common.{rules, ◌≤◌, length}
use Rattle.kp_symbolic.specs.Languages.{language_view}
use Rattle.kp_simplify.proofs.FirstDeep.{clauses_here, clauses_later, clauses_none}
use Rattle.kp_simplify.proofs.depth.deep_clause.Goals as goal

pub returns-in-Some : goal.returns-in-Some
returns-in-Some c =
    clauses_here (language_view c.args.language.now) c.args.clauses.now c.loop-clause.clause-index c.clause-item.result _ c.loop-clause-test.true c.clause-item.is (search rules) c.loop-clause.invariant

pub loop-clause-preserved : goal.loop-clause-preserved
loop-clause-preserved c =
    clauses_later (language_view c.args.language.now) c.args.clauses.now c.loop-clause.clause-index c.clause-item.result c.loop-clause-test.true c.clause-item.is (search rules) c.loop-clause.invariant

pub returns : goal.returns
returns c =
    let past : length c.args.clauses.now ≤ c.loop-clause.clause-index = search rules in
    clauses_none (language_view c.args.language.now) c.args.clauses.now c.loop-clause.clause-index past c.loop-clause.invariant
