use Rattle.std.proofs.Common.{map, drop}
use Rattle.kp_kore.specs.View.{sort_view}
use Rattle.kp_kore.specs.Steps.{AnyByRecursion}
use Rattle.kp_symbolic.specs.Terms.{SymbolicTerm}
use Rattle.kp_symbolic.specs.View.{term_view, clause_view}
use Rattle.kp_step.specs.Implied.{SaysEqual}
use Rattle.kp_step.proofs.call_equalities.first_equal.Given as goal

-- what one of those to come says one of all says
abbrev pub invariant-loop-clause : goal.invariant-loop-clause
invariant-loop-clause l =
    (u : SymbolicTerm) → let Says = SaysEqual (sort_view l.sort) (term_view l.term) u in
    AnyByRecursion Says (map clause_view (drop l.clause-index l.clauses)) → AnyByRecursion Says (map clause_view l.clauses)
