use Rattle.std.proofs.Common.{◌≡◌, List, Option, take, drop}
use Rattle.std.specs.List.{AllByRecursion}
use Rattle.kp_kore.specs.Syntax.{Text}
use Rattle.kp_kore.specs.Rules.{Rewrite, rewrite, RewriteRule}
use Rattle.kp_kore.specs.Steps.{Fires}
use Rattle.kp_rules.specs.Sides.{AreSidesOf}
use Rattle.kp_rules.specs.VerifiedSides.{AreVerifiedSides}
use Rattle.kp_case_laws.specs.Parts.{StatePart, OfEachInstance}
use Rattle.kp_case_laws.specs.Firing.{HasNoInstance}
use Rattle.kp_case_laws.specs.Turns.{TakesFrom}
use Rattle.kp_unify.specs.Views.{signature_of, IsSetting}
use Rattle.kp_step.specs.ReadyParts.{parts_of}
use Rattle.kp_step.specs.Remainders.{AreUntaken, RemainSoFar}
use Rattle.kp_step.specs.Views.{numbered_views}
use Rattle.kp_step.proofs.remainders.without.Given as goal

-- the parts that are done and those that wait; where nothing is left of those that are done, the rule fires on each
abbrev pub invariant-loop-part : goal.invariant-loop-part
invariant-loop-part l =
    (used : List Text) (o : Option RewriteRule) (turns : List RewriteRule) (q : RewriteRule) (m : Rewrite) (s p : StatePart) → let g = signature_of l.setting in
    IsSetting used l.setting → q.body ≡ rewrite m → AreSidesOf g m l.sides → AreVerifiedSides g m → TakesFrom q o → AreUntaken g used o turns s p (numbered_views l.parts) →
    RemainSoFar g used o turns q s p (numbered_views l.found.items) (numbered_views (drop l.part-index l.parts))
    × (AllByRecursion (HasNoInstance g) (parts_of (numbered_views l.found.items)) → AllByRecursion (λ r. OfEachInstance g r (λ w c. Fires g q.body c)) (parts_of (numbered_views (take l.part-index l.parts))))
