-- The sorts that hooks are read over have whole numbers, or truth values, alone.
use Rattle.std.proofs.Common.{◌≡◌, refl, ℤ, Bool, true, false, List, [], ◌∷◌}
use Rattle.std.specs.List.{list_all}
use Rattle.kp_kore.specs.Syntax.{KoreSort}
use Rattle.kp_kore.specs.Signature.{KoreSignature, is_integer_sort, is_boolean_sort, Head, integers, booleans, tokens, constructor_of, heads_of, are_numbers, are_truths, has_only_numbers, has_only_truths, is_number_sort, is_truth_sort, IsHeadOf}
use Rattle.kp_kore.specs.Value.{Value, whole, truth, token, constructed, HasSort}
use Rattle.kp_kore.proofs.InstanceLemmas.{second_true}
use Rattle.kp_signature.proofs.HeadLemmas.{passed_by_heads}

abbrev is_number_head : Head → Bool
is_number_head integers = true
is_number_head h = false

abbrev is_truth_head : Head → Bool
is_truth_head booleans = true
is_truth_head h = false

numbers_all : (hs : List Head) → are_numbers hs ≡ true → list_all is_number_head hs ≡ true
numbers_all [] e = refl
numbers_all (integers ∷ hs) e = numbers_all hs e
numbers_all (booleans ∷ hs) e = absurd (cc)
numbers_all (tokens t ∷ hs) e = absurd (cc)
numbers_all (constructor_of c ∷ hs) e = absurd (cc)

truths_all : (hs : List Head) → are_truths hs ≡ true → list_all is_truth_head hs ≡ true
truths_all [] e = refl
truths_all (booleans ∷ hs) e = truths_all hs e
truths_all (integers ∷ hs) e = absurd (cc)
truths_all (tokens t ∷ hs) e = absurd (cc)
truths_all (constructor_of c ∷ hs) e = absurd (cc)

number_head : (g : KoreSignature) (s : KoreSort) (h : Head) → has_only_numbers g s ≡ true → IsHeadOf g s h → is_number_head h ≡ true
number_head g s h e i = passed_by_heads g s h is_number_head (numbers_all (heads_of g s) e) i

truth_head : (g : KoreSignature) (s : KoreSort) (h : Head) → has_only_truths g s ≡ true → IsHeadOf g s h → is_truth_head h ≡ true
truth_head g s h e i = passed_by_heads g s h is_truth_head (truths_all (heads_of g s) e) i

false_true : false ≡ true → ⊥
false_true e = cc

-- each value of a sort of numbers alone is a whole number
pub only_numbers : (g : KoreSignature) (s : KoreSort) (u : Value) → has_only_numbers g s ≡ true → HasSort g s u → (n : ℤ) × (u ≡ whole n)
only_numbers g s (whole n) e h = (n, refl)
only_numbers g s (truth b) e h = absurd (false_true (number_head g s booleans e h))
only_numbers g s (token t x) e h = absurd (false_true (number_head g s (tokens t) e h))
only_numbers g s (constructed c us) e h = absurd (false_true (number_head g s (constructor_of c) e h.0))

pub only_truths : (g : KoreSignature) (s : KoreSort) (u : Value) → has_only_truths g s ≡ true → HasSort g s u → (b : Bool) × (u ≡ truth b)
only_truths g s (truth b) e h = (b, refl)
only_truths g s (whole n) e h = absurd (false_true (truth_head g s integers e h))
only_truths g s (token t x) e h = absurd (false_true (truth_head g s (tokens t) e h))
only_truths g s (constructed c us) e h = absurd (false_true (truth_head g s (constructor_of c) e h.0))

pub number_value : (g : KoreSignature) (s : KoreSort) (u : Value) → is_number_sort g s ≡ true → HasSort g s u → (n : ℤ) × (u ≡ whole n)
number_value g s u e h = only_numbers g s u (second_true (is_integer_sort g s) (has_only_numbers g s) e) h

pub truth_value : (g : KoreSignature) (s : KoreSort) (u : Value) → is_truth_sort g s ≡ true → HasSort g s u → (b : Bool) × (u ≡ truth b)
truth_value g s u e h = only_truths g s u (second_true (is_boolean_sort g s) (has_only_truths g s) e) h
