use Rattle.std.proofs.Common.{subst}
use Rattle.std.specs.Prelude.{IfSome}
use Rattle.kp_kore.specs.View.{sort_view}
use Rattle.kp_symbolic.specs.View.{term_view, clause_view}
use Rattle.kp_step.specs.Implied.{SaysEqual}
use Rattle.kp_step.proofs.LoopLemmas.{any_more, any_here}
use Rattle.kp_step.proofs.call_equalities.first_equal.Goals as goal

pub returns-in-Some : goal.returns-in-Some
returns-in-Some c =
    let s = sort_view c.args.sort.now in
    let t = term_view c.args.term.now in
    let x = c.clause-item.result in
    let u = term_view c.in-Some.other.now in
    let said = subst (λ o. IfSome o (λ y. SaysEqual s t (term_view y.now) (clause_view x))) c.in-Some.is c.equal_if.ensures in
    any_here (SaysEqual s t u) clause_view c.args.clauses.now c.loop-clause.clause-index x c.loop-clause-test.true c.clause-item.is said (c.loop-clause.invariant u)

pub loop-clause-preserved : goal.loop-clause-preserved
loop-clause-preserved c u =
    let s = sort_view c.args.sort.now in
    let t = term_view c.args.term.now in
    any_more (SaysEqual s t u) clause_view c.args.clauses.now c.loop-clause.clause-index c.clause-item.result c.loop-clause-test.true c.clause-item.is (c.loop-clause.invariant u)
