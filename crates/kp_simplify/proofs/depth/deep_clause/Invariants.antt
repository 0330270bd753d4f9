use Rattle.kp_symbolic.specs.Languages.{language_view}
use Rattle.kp_simplify.proofs.FirstDeep.{ClausesLeft}
use Rattle.kp_simplify.proofs.depth.deep_clause.Given as goal

abbrev pub invariant-loop-clause : goal.invariant-loop-clause
invariant-loop-clause l = ClausesLeft (language_view l.language) l.clauses l.clause-index
