use Rattle.std.proofs.Common.{drop}
use Rattle.std.specs.List.{AllByRecursion}
use Rattle.kp_symbolic.specs.Languages.{language_view}
use Rattle.kp_unify.specs.Views.{part_view}
use Rattle.kp_unify.specs.declared.part.Part.{Part}
use Rattle.kp_execute.specs.Told.{IsAddedRight}
use Rattle.kp_execute.proofs.end_tests.are_parts_right.Given as goal

abbrev pub invariant-loop-part : goal.invariant-loop-part
invariant-loop-part l = let P = λ (p : Part). IsAddedRight (language_view l.language) (part_view p) in AllByRecursion P (drop l.part-index l.parts) → AllByRecursion P l.parts
