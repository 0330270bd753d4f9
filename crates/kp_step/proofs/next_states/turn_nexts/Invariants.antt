use Rattle.std.proofs.Common.{◌≡◌, List, map, take}
use Rattle.std.specs.List.{AllZip}
use Rattle.kp_kore.specs.Syntax.{Text}
use Rattle.kp_kore.specs.Theory.{Theory}
use Rattle.kp_case_laws.specs.Parts.{StatePart}
use Rattle.kp_unify.specs.Views.{signature_of, IsSetting}
use Rattle.kp_step.specs.Rules.{IsReadAt}
use Rattle.kp_step.specs.Found.{IsTurnAt}
use Rattle.kp_step.specs.Follows.{IsNextAt}
use Rattle.kp_step.specs.Views.{numbered_views, turn_view, next_view}
use Rattle.kp_step.proofs.next_states.turn_nexts.Given as goal

abbrev pub invariant-loop-part : goal.invariant-loop-part
invariant-loop-part l =
    (t : Theory) (used : List Text) (s : StatePart) → signature_of l.setting ≡ t.signature → IsSetting used l.setting → IsTurnAt t used s (turn_view l.turn) → IsReadAt t l.turn.place l.rewrite →
    AllZip (IsNextAt t used s (turn_view l.turn)) (numbered_views (take l.part-index l.turn.parts.items)) (map next_view l.nexts.items)
