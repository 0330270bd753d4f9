use Rattle.std.proofs.Common.{drop}
use Rattle.std.specs.List.{AllByRecursion}
use Rattle.kp_step.specs.declared.outcome.Next.{Next}
use Rattle.kp_symbolic.specs.Languages.{language_view}
use Rattle.kp_unify.specs.Views.{part_view}
use Rattle.kp_execute.specs.Told.{IsAddedRight}
use Rattle.kp_execute.proofs.end_tests.are_nexts_right.Given as goal

abbrev pub invariant-loop-next : goal.invariant-loop-next
invariant-loop-next l = let P = λ (n : Next). IsAddedRight (language_view l.language) (part_view n.part) in AllByRecursion P (drop l.next-index l.nexts) → AllByRecursion P l.nexts
