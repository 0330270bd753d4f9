use Rattle.std.proofs.Common.{List, ◌++◌, map, drop}
use Rattle.std.specs.List.{AllByRecursion}
use Rattle.kp_kore.specs.Syntax.{Text}
use Rattle.kp_kore.specs.Theory.{Theory}
use Rattle.kp_case_laws.specs.Parts.{StatePart}
use Rattle.kp_unify.specs.Views.{IsSetting}
use Rattle.kp_step.specs.Rules.{Steps}
use Rattle.kp_step.specs.Found.{IsTurnAt}
use Rattle.kp_step.specs.Follows.{PlacedNext, AreNextsOf}
use Rattle.kp_step.specs.Views.{turn_view, next_view}
use Rattle.kp_step.proofs.next_states.nexts_of.Given as goal

-- whatever follows in the turns to come, behind what was found it is what follows in all
abbrev pub invariant-loop-turn : goal.invariant-loop-turn
invariant-loop-turn l =
    (t : Theory) (used : List Text) (s : StatePart) → Steps t l.setting l.rules → IsSetting used l.setting → AllByRecursion (IsTurnAt t used s) (map turn_view l.turns) →
    (ys : List PlacedNext) → AreNextsOf t used s (map turn_view (drop l.turn-index l.turns)) ys → AreNextsOf t used s (map turn_view l.turns) (map next_view l.nexts.items ++ ys)
