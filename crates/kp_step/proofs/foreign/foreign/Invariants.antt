use Rattle.std.proofs.Common.{List, take}
use Rattle.std.specs.List.{AllByRecursion}
use Rattle.kp_kore.specs.Syntax.{Text}
use Rattle.kp_kore.specs.Rules.{RewriteRule}
use Rattle.kp_kore.specs.Theory.{Theory}
use Rattle.kp_symbolic.specs.States.{SymbolicState}
use Rattle.kp_unify.specs.Views.{numbered_view}
use Rattle.kp_step.specs.Places.{IsAt}
use Rattle.kp_step.specs.Rules.{IsStepFrom}
use Rattle.kp_step.specs.Causes.{IsPassedBy}
use Rattle.kp_step.specs.Answers.{IsUndecidedAt, IsFirstLeftOpen}
use Rattle.kp_step.proofs.foreign.foreign.Given as goal

-- each rule asked so far is passed by; none of them might rewrite an instance, or none of those before the first that is left open
abbrev pub invariant-loop-place : goal.invariant-loop-place
invariant-loop-place l =
    (t : Theory) (used : List Text) (s : SymbolicState) → IsStepFrom t used s l.setting l.rules (numbered_view l.whole) →
    AllByRecursion (λ i. (r : RewriteRule) → IsAt t i r → IsPassedBy t s r) (take l.place-index l.place-items)
    × AllByRecursion (IsUndecidedAt t s) l.opened.items
    × IsFirstLeftOpen t s l.place-items l.place-index l.opened.items
