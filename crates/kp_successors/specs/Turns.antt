-- What the code's rules come to on a value.
use Rattle.std.specs.Prelude.{◌≡◌, ◌⊎◌, ◌≤◌, ℕ, false, List, [], ◌∷◌, ◌++◌, Option, Some, None, slice_get}
use Rattle.std.specs.List.{AllByRecursion}
use Rattle.kp_kore.specs.Syntax.{KorePattern}
use Rattle.kp_kore.specs.Signature.{KoreSignature}
use Rattle.kp_kore.specs.View.{view}
use Rattle.kp_kore.specs.declared.pattern.Pattern.{Pattern}
use Rattle.kp_kore.specs.Value.{Value}
use Rattle.kp_kore.specs.Instance.{Valuation}
use Rattle.kp_kore.specs.Steps.{AnyByRecursion}
use Rattle.kp_rules.specs.Heads.{FiresAs}
use Rattle.kp_rules.specs.declared.rule.Rule.{Rule}
use Rattle.kp_rules.specs.declared.rule.RuleBody.{RuleBody}
use Rattle.kp_rules.specs.declared.rule.RuleBody.TheVariants.{Rewrite, Foreign}
use Rattle.kp_rule_sets.specs.Turns.{with_first}
use Rattle.kp_run.specs.Turns.{BodyFires, FiresAt}
use Rattle.kp_successors.specs.Nexts.{IsNextOf, is_right_narrow}
use Rattle.kp_successors.specs.Successors.{FirstThen}

-- the rule fires, and its right term computes a number beyond 128 bits
abbrev pub RightIsWide : KoreSignature → Value → RuleBody → Type 0
RightIsWide g u (Rewrite r) = (v : Valuation) × FiresAs g r u v × (is_right_narrow r v ≡ false)
RightIsWide g u (Foreign k) = ⊥

-- the pattern that follows a rule
abbrev pub Follows : KoreSignature → Value → RuleBody → KorePattern → Type 0
Follows g u (Rewrite r) p = IsNextOf g r (FiresAs g r u) p
Follows g u (Foreign k) p = ⊥

-- and this is its priority number
abbrev pub IsWideAt : KoreSignature → Value → ℕ → Rule → Type 0
IsWideAt g u n r = (r.priority ≡ n) × RightIsWide g u r.body.value

-- the pattern, if there is one
abbrev pub next_list : Option Pattern → List KorePattern
next_list None = []
next_list (Some p) = view p ∷ []

-- no rule fires, or this is the least priority number of those that do
abbrev pub IsLeast : KoreSignature → Value → List Rule → Option ℕ → Type 0
IsLeast g u rules None = AllByRecursion (λ r. ¬ BodyFires g u r.body.value) rules
IsLeast g u rules (Some n) = AllByRecursion (λ r. BodyFires g u r.body.value → n ≤ r.priority) rules × AnyByRecursion (FiresAt g u n) rules

-- one pattern for each rule that fires and has this priority number
abbrev pub AreNexts : KoreSignature → Value → ℕ → List Rule → List KorePattern → Type 0
AreNexts g u n [] ps = ps ≡ []
AreNexts g u n (r ∷ rs) ps =
    ((¬ FiresAt g u n r) × AreNexts g u n rs ps) ⊎ (FiresAt g u n r × FirstThen (Follows g u r.body.value) (AreNexts g u n rs) ps)

-- behind the patterns of the rules before, the rule at the place, if there is one, has this pattern, or none
abbrev pub AddsNext : KoreSignature → Value → ℕ → List Rule → ℕ → Option Pattern → Type 0
AddsNext g u n rules place next = (before : List Rule) (ps : List KorePattern) → AreNexts g u n before ps →
    AreNexts g u n (before ++ with_first (slice_get rules place) []) (ps ++ next_list next)
