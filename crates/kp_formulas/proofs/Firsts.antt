-- The sort of both arguments, and the members of a value, as lists.
use Rattle.std.proofs.Common.{◌≡◌, refl, sym, ap, ◌∙◌, ◌<◌, Bool, true, false, List, [], ◌∷◌, length, get_or, map, arith}
use Rattle.std.specs.Prelude.{if◌then◌else◌}
use Rattle.kp_kore.specs.Syntax.{KoreSort, sort_variable}
use Rattle.kp_kore.specs.Attributes.{sorts_equal}
use Rattle.kp_kore.specs.View.{sort_view, sorts_view}
use Rattle.kp_kore.specs.declared.sort.Sort.{Sort}
use Rattle.kp_ground.specs.View.{value_view, values_of}
use Rattle.kp_ground.specs.declared.value.Value.{Value}
use Rattle.kp_symbolic.specs.Terms.{known}
use Rattle.kp_symbolic.specs.Opening.{common_sort}
use Rattle.kp_formulas.specs.Seen.{known_terms}

pub few_sorts : (ss : List Sort) → length ss < 2 → sort_variable [] ≡ common_sort (sorts_view ss)
few_sorts [] h = refl
few_sorts (s ∷ []) h = refl
few_sorts (s ∷ t ∷ ss) h = absurd (omega (arith, h))

pub first_of_same : (ss : List Sort) (a b : Sort) → (length ss < 2 → ⊥) → a ≡ get_or ss 0 a → b ≡ get_or ss 1 b → sorts_equal (sort_view a) (sort_view b) ≡ true → sort_view a ≡ common_sort (sorts_view ss)
first_of_same [] a b n p q e = absurd (n (omega arith))
first_of_same (s ∷ []) a b n p q e = absurd (n (omega arith))
first_of_same (s ∷ t ∷ ss) a b n p q e = let i : a ≡ s = p in let j : b ≡ t = q in cc

pub none_of_others : (ss : List Sort) (a b : Sort) → (length ss < 2 → ⊥) → a ≡ get_or ss 0 a → b ≡ get_or ss 1 b → sorts_equal (sort_view a) (sort_view b) ≡ false → sort_variable [] ≡ common_sort (sorts_view ss)
none_of_others [] a b n p q e = absurd (n (omega arith))
none_of_others (s ∷ []) a b n p q e = absurd (n (omega arith))
none_of_others (s ∷ t ∷ ss) a b n p q e = let i : a ≡ s = p in let j : b ≡ t = q in cc

pub known_are_members : (us : List Value) → map (λ u. known (value_view u)) us ≡ known_terms (values_of (map value_view us))
known_are_members [] = refl
known_are_members (u ∷ us) = ap (λ ts. known (value_view u) ∷ ts) (known_are_members us)
