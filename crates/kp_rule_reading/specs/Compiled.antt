-- What is compiled of a rewrite beside its left term, whose variables have these names.
use Rattle.std.specs.Prelude.{◌≡◌, ◌↔◌, Bool, true, not, ◌&&◌, List, Option}
use Rattle.std.specs.Bool.{Decides}
use Rattle.std.specs.List.{list_all, list_any, AllByRecursion}
use Rattle.kp_kore.specs.Syntax.{Text, KorePattern}
use Rattle.kp_kore.specs.Parts.{SortedName, is_term, free_variables}
use Rattle.kp_kore.specs.Signature.{KoreSignature}
use Rattle.kp_kore.specs.Sorted.{IsSorted}
use Rattle.kp_kore.specs.Instance.{Valuation, instance, GivesSorts, IsTrueUnder}
use Rattle.kp_kore.specs.Rules as model
use Rattle.kp_kore.specs.Numbers.{computes_wide}
use Rattle.kp_ground.specs.Conditions.{condition_holds, condition_narrow}
use Rattle.kp_ground.specs.ConditionView.{condition_view}
use Rattle.kp_ground.specs.Slots.{term_reads, condition_reads}
use Rattle.kp_ground.specs.declared.term.CompiledTerm.{CompiledTerm}
use Rattle.kp_compile.specs.Exact.{IsTermOf, IsNarrowAs, ReadsAs, are_named}
use Rattle.kp_rules.specs.Bodies.{IsVerifiedLeft, IsChoiceOf}
use Rattle.kp_rules.specs.Bound.{tests_read, names_of_choice}
use Rattle.kp_rules.specs.Heads.{HasHead}
use Rattle.kp_rules.specs.Known.{are_known}
use Rattle.kp_rules.specs.WideParts.{holds_none, all_narrow}
use Rattle.kp_rules.specs.declared.right_side.RightSide.{RightSide}
use Rattle.kp_rule_reading.specs.declared.rewrite_parts.Parts.{Parts}

-- the right side is a term and predicates, with no variables but new ones and those of the left term
pub record IsKnownRight (m : model.Rewrite) : Type 0 where
  pub term : is_term m.right ≡ true
  pub known : are_known (free_variables m.left) m.new_variables m.right m.ensured ≡ true

-- where no new variable stands in the pattern, its variables have these names
abbrev pub IsOldNamed : List Text → List SortedName → KorePattern → Type 0
IsOldNamed xs new q = holds_none new q ≡ true → are_named xs (free_variables q) ≡ true

-- what is compiled of these patterns: those in which no new variable stands
pub record AreOldParts (g : KoreSignature) (xs : List Text) (new : List SortedName) (qs : List KorePattern) (ts : List CompiledTerm) : Type 0 where
  pub narrow : (v : Valuation) → all_narrow v ts ≡ not (list_any (λ q. holds_none new q && computes_wide g v q) qs)
  pub reads : AllByRecursion (IsOldNamed xs new) qs → list_all (term_reads xs) ts ≡ true

-- and one pattern more
pub record AddsOldPart (g : KoreSignature) (xs : List Text) (new : List SortedName) (q : KorePattern) (old now : List CompiledTerm) : Type 0 where
  pub narrow : (v : Valuation) → all_narrow v now ≡ all_narrow v old && not (holds_none new q && computes_wide g v q)
  pub reads : IsOldNamed xs new q → list_all (term_reads xs) old ≡ true → list_all (term_reads xs) now ≡ true

-- the right term, and what is kept of the right side
pub record IsRightOf (g : KoreSignature) (xs : List Text) (m : model.Rewrite) (chooses : Bool) (t : CompiledTerm) (o : Option RightSide) : Type 0 where
  pub term : IsTermOf g m.right t
  pub narrow : IsNarrowAs g m.right t
  pub reads : ReadsAs xs m.right t
  pub choice : IsChoiceOf g m chooses o
  pub names : names_of_choice xs o ≡ xs

-- the tests, the condition and the right side
pub record ArePartsOf (g : KoreSignature) (xs : List Text) (m : model.Rewrite) (chooses : Bool) (parts : Parts) : Type 0 where
  pub tests : IsVerifiedLeft g m.left → (v : Valuation) → IsSorted g (instance g v m.left) → AllByRecursion (HasHead g v) parts.tests.items ↔ GivesSorts g v (free_variables m.left)
  pub tests_named : are_named xs (free_variables m.left) ≡ true → tests_read xs parts.tests.items ≡ true
  pub condition : (v : Valuation) → Decides (condition_holds v (condition_view parts.condition)) (AllByRecursion (IsTrueUnder g v) m.condition)
  pub narrow : (v : Valuation) → condition_narrow v (condition_view parts.condition) ≡ not (list_any (computes_wide g v) m.condition)
  pub condition_named : AllByRecursion (λ p. are_named xs (free_variables p) ≡ true) m.condition → condition_reads xs parts.condition ≡ true
  pub right : IsRightOf g xs m chooses parts.right parts.choice
