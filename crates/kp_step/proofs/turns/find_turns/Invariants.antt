use Rattle.std.proofs.Common.{List, map, take}
use Rattle.kp_kore.specs.Syntax.{Text}
use Rattle.kp_kore.specs.Theory.{Theory}
use Rattle.kp_symbolic.specs.States.{SymbolicState}
use Rattle.kp_case_laws.specs.Parts.{whole}
use Rattle.kp_unify.specs.Views.{numbered_view}
use Rattle.kp_step.specs.Rules.{IsSearchFrom}
use Rattle.kp_step.specs.Found.{AreFound}
use Rattle.kp_step.specs.Views.{turn_view}
use Rattle.kp_step.proofs.turns.find_turns.Given as goal

-- the turns that are found among the rules tried so far
abbrev pub invariant-loop-place : goal.invariant-loop-place
invariant-loop-place l =
    (t : Theory) (used : List Text) (s : SymbolicState) → IsSearchFrom t used s l.setting l.rules (numbered_view l.whole) →
    AreFound t used (whole s) (take l.place-index l.place-items) (map turn_view l.turns.items)
