use Rattle.std.proofs.Common.{take}
use Rattle.std.specs.List.{AllByRecursion}
use Rattle.kp_symbolic.specs.Languages.{language_view}
use Rattle.kp_symbolic.specs.View.{clauses_view}
use Rattle.kp_execute.specs.Checks.{AreSound}
use Rattle.kp_execute.proofs.part_tests.are_added_right.Given as goal

abbrev pub invariant-loop-clause : goal.invariant-loop-clause
invariant-loop-clause l = AllByRecursion (AreSound (language_view l.language)) (clauses_view (take l.clause-index l.clauses))
