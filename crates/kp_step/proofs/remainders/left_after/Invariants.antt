use Rattle.std.proofs.Common.{◌≡◌, List, [], Option, None, map, take}
use Rattle.std.specs.List.{AllZip}
use Rattle.kp_kore.specs.Syntax.{Text}
use Rattle.kp_kore.specs.Rules.{RewriteRule}
use Rattle.kp_kore.specs.Theory.{Theory}
use Rattle.kp_case_laws.specs.Parts.{StatePart}
use Rattle.kp_unify.specs.Views.{signature_of, IsSetting}
use Rattle.kp_step.specs.Rules.{Steps}
use Rattle.kp_step.specs.Remainders.{OneTakesAll, IsNumberOf, AreUntaken}
use Rattle.kp_step.specs.Found.{IsRuleAt}
use Rattle.kp_step.specs.Views.{numbered_views, turn_view}
use Rattle.kp_step.proofs.remainders.left_after.Given as goal

-- what the rules passed so far leave; while none is passed, all is left; where one takes alone and nothing is left, it fires on all
abbrev pub invariant-loop-turn : goal.invariant-loop-turn
invariant-loop-turn l =
    (t : Theory) (used : List Text) (found : List RewriteRule) (s p : StatePart) → let g = signature_of l.setting in
    Steps t l.setting l.rules → IsSetting used l.setting → AllZip (IsRuleAt t) (map turn_view l.turns) found →
    ((o : Option RewriteRule) → IsNumberOf l.priority o → AreUntaken g used o [] s p (numbered_views l.fn.parts.items) → AreUntaken g used o (take l.turn-index found) s p (numbered_views l.left.items))
    × (l.priority ≡ None → AreUntaken g used None [] s p (numbered_views l.fn.parts.items) →
    (take l.turn-index found ≡ [] → l.left.items ≡ l.fn.parts.items) × OneTakesAll g (take l.turn-index found) (numbered_views l.fn.parts.items) (numbered_views l.left.items))
