use Rattle.std.proofs.Common.{◌≡◌, map, take}
use Rattle.kp_symbolic.specs.View.{clause_view}
use Rattle.kp_symbolic.proofs.clause.Clause.share_all.Given as goal

abbrev pub invariant-loop-clause : goal.invariant-loop-clause
invariant-loop-clause l = map clause_view l.shared.items ≡ map clause_view (take l.clause-index l.clauses)
