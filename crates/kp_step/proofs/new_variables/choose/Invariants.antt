use Rattle.std.proofs.Common.{List, map, take}
use Rattle.kp_kore.specs.Syntax.{Text}
use Rattle.kp_kore.specs.View.{sorted_variable_view}
use Rattle.kp_unify.specs.Views.{IsSetting}
use Rattle.kp_step.specs.RightSides.{AreChosen}
use Rattle.kp_step.specs.Chosen.{chosen_view}
use Rattle.kp_step.proofs.new_variables.choose.Given as goal

abbrev pub invariant-loop-one : goal.invariant-loop-one
invariant-loop-one l = (used : List Text) → IsSetting used l.setting → AreChosen used (map sorted_variable_view (take l.one-index l.own)) l.next (chosen_view l.chosen)
