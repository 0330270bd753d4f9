-- What examples of shown clauses need.
use Rattle.std.proofs.Common.{◌≡◌, List, [], ◌∷◌, map, Some, refl, ap, subst, arith, ℕ, zero, suc, min, ◌+◌, ◌^◌, ◌<◌}
use Rattle.std.specs.Prelude.{pos, codes}
use Rattle.std.specs.List.{Contains}
use Rattle.std.proofs.lemmas.List.Sorted.{IsPermutation-refl}
use Rattle.kp_kore.specs.Syntax.{KoreSort, KorePattern}
use Rattle.kp_kore.specs.Signature.{KoreSignature}
use Rattle.kp_kore.specs.Value.{constructed, no_values, whole, HasSort}
use Rattle.kp_toys.specs.Toys.{sort_int, sort_s}
use Rattle.kp_toys.specs.ToysTheory.{toys_signature}
use Rattle.kp_toys.proofs.Sorts.{int_values_exactly}
use Rattle.kp_symbolic.specs.Terms.{known}
use Rattle.kp_symbolic.specs.States.{Literal, SymbolicState}
use Rattle.kp_symbolic.specs.Writing.{written_clause}
use Rattle.kp_symbolic.specs.Solving.{IsReadAs, finished}
use Rattle.kp_symbolic.specs.Plain.{read_clauses}
use Rattle.kp_symbolic.specs.Weights.{bits, largest, all_bounds, IsBitLength}
use Rattle.kp_symbolic.specs.Shown.{weight_passed, most_told}
use Rattle.kp_symbolic.specs.Endings.{IsPredicateOf, IsShownAlone, IsShownOfState}
use Rattle.kp_examples.specs.Clauses.{x_name, alone}
use Rattle.kp_examples.specs.Weights.{square_below, square_predicate, wide_bound, wide_predicate, wide_shown, done_where}
use Rattle.kp_symbolic.proofs.ReadOnce.{read_once}

pub none_contained : {X : Type 0} (x : X) → Contains [] x → ⊥
none_contained x h = below_none h.0 h.1
  where
    below_none : (k : ℕ) → k < 0 → ⊥
    below_none k l = omega arith

pub zero_is_a_number : HasSort toys_signature sort_int (whole (pos 0))
zero_is_a_number = (int_values_exactly (whole (pos 0))).1 (pos 0, refl)

is_the_one : {X : Type 0} (x y : X) → Contains (x ∷ []) y → x ≡ y
is_the_one x y (zero, l, e) = e
is_the_one x y (suc k, l, e) = absurd (omega (arith, l))

-- what is written for one clause is its predicate
pub predicate_of_one : (g : KoreSignature) (sort : KoreSort) (c : List Literal) (p : KorePattern) → written_clause g sort c ≡ p → IsPredicateOf g sort (c ∷ []) p
predicate_of_one g sort c p is = record {
  ordered = c ∷ [];
  written = ap Some is;
  from_these = λ d h. (d, h, IsPermutation-refl d);
  all_of_these = λ d h. (d, IsPermutation-refl d, (0, omega arith, ap (written_clause g sort) (is_the_one c d h)));
  once = (none_contained _, tt);
}

-- done where X <= 2 ^ 126
abbrev pub wide_state : SymbolicState
wide_state = record { term = known (constructed (codes "Lbldone") no_values); sort = sort_s; clauses = alone wide_bound; variables = x_name ∷ [] }

pub is_wide : IsReadAs toys_signature (done_where wide_predicate) wide_state
is_wide = record { opened = wide_state; is_opened = refl; solving = finished wide_state refl }

-- done where X * X < 0
abbrev pub square_state : SymbolicState
square_state = record { term = known (constructed (codes "Lbldone") no_values); sort = sort_s; clauses = alone square_below; variables = x_name ∷ x_name ∷ [] }

pub is_square : IsReadAs toys_signature (done_where square_predicate) square_state
is_square = record { opened = square_state; is_opened = refl; solving = finished square_state refl }

one_less : (m k : ℕ) → 127 ≡ min m most_told → m ≡ 1 + k → k ≡ 126
one_less m k told is = omega (arith, told, is)

not_so_short : (k : ℕ) → k ≡ 126 → IsBitLength (largest (all_bounds (read_clauses toys_signature wide_state))) k → ⊥
not_so_short k e is = itself (2 ^ 126) (subst (λ n. 2 ^ 126 < 2 ^ n) e is.enough)
  where
    itself : (n : ℕ) → n < n → ⊥
    itself n l = omega (arith, l)

weighs_more : IsShownAlone toys_signature (done_where wide_predicate) wide_state (weight_passed wide_shown bits 127) → ⊥
weighs_more h = not_so_short h.1.weighs.0 (one_less h.0 h.1.weighs.0 h.2.0 h.1.weighs.2) h.1.weighs.1

pub not_less_shown : ¬ IsShownOfState toys_signature (done_where wide_predicate) (weight_passed wide_shown bits 127)
not_less_shown h = weighs_more (subst (λ s. IsShownAlone toys_signature (done_where wide_predicate) s (weight_passed wide_shown bits 127)) (read_once toys_signature (done_where wide_predicate) h.state wide_state h.read is_wide) h.shown)
