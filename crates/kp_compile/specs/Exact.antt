-- What compiled terms, left terms and conditions have to do with their patterns.
use Rattle.std.specs.Prelude.{◌≡◌, ℕ, Bool, true, not, List, [], ◌∷◌, map}
use Rattle.std.specs.Bool.{Decides}
use Rattle.std.specs.List.{AllZip, list_all}
use Rattle.kp_kore.specs.Syntax.{Text, KoreSort, KorePattern, KorePatterns, conjunction, no_patterns, next_pattern}
use Rattle.kp_kore.specs.Parts.{is_term, SortedName, free_variables}
use Rattle.kp_kore.specs.Signature.{KoreSignature, meaning_of}
use Rattle.kp_kore.specs.View.{view}
use Rattle.kp_kore.specs.declared.pattern.Pattern.{Pattern}
use Rattle.kp_kore.specs.Value.{Value}
use Rattle.kp_kore.specs.Instance.{Valuation, applied, instance, instances, IsTrueUnder}
use Rattle.kp_kore.specs.Numbers.{computes_wide}
use Rattle.kp_ground.specs.Slots.{Place, is_one_of, stands_at, left_places, term_reads, condition_reads}
use Rattle.kp_ground.specs.Terms.{term_value, left_value, stays_narrow}
use Rattle.kp_ground.specs.TermView.{term_view}
use Rattle.kp_ground.specs.LeftView.{left_view}
use Rattle.kp_ground.specs.Conditions.{condition_holds, condition_narrow}
use Rattle.kp_ground.specs.ConditionView.{condition_view}
use Rattle.kp_ground.specs.declared.term.CompiledTerm.{CompiledTerm}
use Rattle.kp_ground.specs.declared.left_side.CompiledLeft.{CompiledLeft}
use Rattle.kp_ground.specs.declared.condition.Condition.{Condition}

-- what the symbol of this name makes of the instances of these patterns
abbrev pub applied_instance : KoreSignature → Valuation → Text → KorePatterns → Value
applied_instance g v f ps = applied (meaning_of g f) f (instances g v ps)

-- under every valuation the term has the pattern's instance
abbrev pub IsTermOf : KoreSignature → KorePattern → CompiledTerm → Type 0
IsTermOf g p t = (v : Valuation) → term_value v (term_view t) ≡ instance g v p

-- the numbers beyond 128 bits that the term computes are those of the pattern's calls
abbrev pub IsNarrowAs : KoreSignature → KorePattern → CompiledTerm → Type 0
IsNarrowAs g p t = (v : Valuation) → stays_narrow v (term_view t) ≡ not (computes_wide g v p)

-- each of the variables is one of these names
abbrev pub are_named : List Text → List SortedName → Bool
are_named xs vs = list_all (λ x. is_one_of x.name xs) vs

-- where the pattern's variables are among these names, the term tells the number of each
abbrev pub ReadsAs : List Text → KorePattern → CompiledTerm → Type 0
ReadsAs xs p t = are_named xs (free_variables p) ≡ true → term_reads xs t ≡ true

-- the same of a condition
abbrev pub ConditionReadsAs : List Text → KorePattern → Condition → Type 0
ConditionReadsAs xs p c = are_named xs (free_variables p) ≡ true → condition_reads xs c ≡ true

-- the numbers beyond 128 bits that the condition computes are those of the predicate's calls
abbrev pub IsConditionNarrowAs : KoreSignature → KorePattern → Condition → Type 0
IsConditionNarrowAs g p c = (v : Valuation) → condition_narrow v (condition_view c) ≡ not (computes_wide g v p)

-- under every valuation the left term has the pattern's instance
abbrev pub IsLeftOf : KoreSignature → KorePattern → CompiledLeft → Type 0
IsLeftOf g p l = (v : Valuation) → left_value v (left_view l) ≡ instance g v p

-- the left term's variables are the pattern's, place by place
abbrev pub HasPlacesOf : KorePattern → CompiledLeft → Type 0
HasPlacesOf p l = map (λ x. x.name) (left_places l) ≡ map (λ x. x.name) (free_variables p)

-- one place of this name, with its number among the names
abbrev pub IsPlaceOf : Text → List Text → List Place → Type 0
IsPlaceOf x xs places = (slot : ℕ) × (places ≡ record { name = x; slot = slot } ∷ []) × (stands_at xs x slot ≡ true)

-- the condition holds under exactly those valuations under which the predicate is true
abbrev pub IsConditionOf : KoreSignature → KorePattern → Condition → Type 0
IsConditionOf g p c = (v : Valuation) → Decides (condition_holds v (condition_view c)) (IsTrueUnder g v p)

-- the same of lists, one by one
abbrev pub AreTermsOf : KoreSignature → List Pattern → List CompiledTerm → Type 0
AreTermsOf g = AllZip (λ p t. IsTermOf g (view p) t)

abbrev pub AreLeftsOf : KoreSignature → List Pattern → List CompiledLeft → Type 0
AreLeftsOf g = AllZip (λ p l. IsLeftOf g (view p) l)

abbrev pub AreConditionsOf : KoreSignature → List Pattern → List Condition → Type 0
AreConditionsOf g = AllZip (λ p c. IsConditionOf g (view p) c)

abbrev pub AreTermsNarrowAs : KoreSignature → List Pattern → List CompiledTerm → Type 0
AreTermsNarrowAs g = AllZip (λ p t. IsNarrowAs g (view p) t)

abbrev pub ReadAllAs : List Text → List Pattern → List CompiledTerm → Type 0
ReadAllAs xs = AllZip (λ p t. ReadsAs xs (view p) t)

abbrev pub ConditionsReadAs : List Text → List Pattern → List Condition → Type 0
ConditionsReadAs xs = AllZip (λ p c. ConditionReadsAs xs (view p) c)

abbrev pub AreConditionsNarrowAs : KoreSignature → List Pattern → List Condition → Type 0
AreConditionsNarrowAs g = AllZip (λ p c. IsConditionNarrowAs g (view p) c)

-- the pattern is the conjunction of two terms
pub record IsPairOf (p first second : KorePattern) : Type 0 where
  pub sort : KoreSort
  pub pattern : p ≡ conjunction sort (next_pattern first (next_pattern second no_patterns))
  pub first_term : is_term first ≡ true
  pub second_term : is_term second ≡ true
