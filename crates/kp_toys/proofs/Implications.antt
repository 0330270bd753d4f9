-- Results of implies and simplify over the example.
use Rattle.std.proofs.Common.{List, inl, ◌≡◌, refl, sym, ◌∙◌, ap, subst, [], ◌∷◌, ℤ, pos, ◌+ℤ◌, ◌-ℤ◌, arith}
use Rattle.std.specs.Prelude.{codes}
use Rattle.std.proofs.lemmas.Int.{ints}
use Rattle.kp_kore.specs.Syntax.{top, bottom}
use Rattle.kp_kore.specs.Parts.{subpatterns}
use Rattle.kp_kore.specs.Hooks.{whole_arithmetic, addition, subtraction}
use Rattle.kp_kore.specs.Value.{Value, whole, no_values, next_value, HasSort}
use Rattle.kp_kore.specs.Interpretation.{interpreted}
use Rattle.kp_kore.specs.Instance.{Valuation, assigned, IsInstance}
use Rattle.kp_kore.specs.Sides.{IsSidesFault, unused_binder, other_terms, unclear_name}
use Rattle.kp_kore.specs.Implied.{IsWitness, IsCondition, witnessed, vacuous, IsRightImplied, not_valid, valid, IsRightSimplified, state, nothing}
use Rattle.kp_toys.specs.Toys.{sort_int, sort_s}
use Rattle.kp_toys.specs.ToysTheory.{toys_signature, done, count_of, y}
use Rattle.kp_toys.specs.ToysValues.{count, done_value, goal_value}
use Rattle.kp_toys.specs.SmallTheories.{goal_of_lone}
use Rattle.kp_toys.specs.ToysReplies.{one_less, some_count, done_above_x, y_is_one_less, y_is_x, done_for_nobody, count_of_none, two_more_slowly, two_more, three_more}
use Rattle.kp_toys.proofs.Choosing.{off_one}
use Rattle.kp_toys.proofs.CountReplies.{vacuous_count}
use Rattle.kp_toys.proofs.Counting.{everywhere}
use Rattle.kp_toys.proofs.Firing.{computed_by_test}
use Rattle.kp_toys.proofs.Matching.{counted, int_has_sort, differ}
use Rattle.kp_toys.proofs.Sorts.{int_values, undeclared_has_none}

-- the number that a call of a number and a whole number computes is one
minus : (m : ℤ) (u : Value) → HasSort toys_signature sort_int u → HasSort toys_signature sort_int (interpreted (whole_arithmetic subtraction) (next_value u (next_value (whole m) no_values)))
minus m u h =
    let k : (k : ℤ) × (u ≡ whole k) = int_values u h in
    subst (λ u. HasSort toys_signature sort_int (interpreted (whole_arithmetic subtraction) (next_value u (next_value (whole m) no_values)))) (sym k.1) (int_has_sort (k.0 -ℤ m))

-- ---- implies

abbrev less_by_one : Valuation → Value
less_by_one v = interpreted (whole_arithmetic subtraction) (next_value (v (codes "X")) (next_value (whole (pos 1)) no_values))

pub one_less_is_some_count : IsRightImplied toys_signature one_less some_count (valid (top sort_s) y_is_one_less)
one_less_is_some_count = (
  (λ v u given met. (less_by_one v, minus (pos 1) (v (codes "X")) given.0.0, record { term = met.term; predicates = tt })),
  witnessed sort_s (inl refl)
      (record { valuation = everywhere (pos 1); configuration = count (pos 0); given = ((int_has_sort (pos 1), tt), (tt, tt)); met = record { term = refl; predicates = tt }; such = tt })
      refl
      (record {
        chosen = λ v u given met. (
          assigned v (codes "Y") (less_by_one v),
          record { agrees = λ z h. off_one (codes "Y") z (less_by_one v) v h; sorts = (minus (pos 1) (v (codes "X")) given.0.0, tt) },
          refl,
        );
        met = λ v u given met w chooses holds.
            record { term = met.term ∙ ap (λ z. counted (interpreted (whole_arithmetic subtraction) (next_value z (next_value (whole (pos 1)) no_values)))) (sym (chooses.agrees (codes "X") refl)) ∙ ap counted (sym holds); predicates = tt };
      })
      (λ e. absurd (cc)),
)

-- another substitution doesn't give the instance: at X = 1, Y = 1 gives count(1)
pub other_substitution : ¬ IsRightImplied toys_signature one_less some_count (valid (top sort_s) y_is_x)
other_substitution r = by_condition r.1
  where
    by_witness : IsWitness toys_signature one_less some_count y_is_x → ⊥
    by_witness w =
        let i : IsInstance toys_signature (everywhere (pos 1)) (count_of y) (count (pos 0)) =
        w.met (everywhere (pos 1)) (count (pos 0)) ((int_has_sort (pos 1), tt), (tt, tt)) (record { term = refl; predicates = tt }) (everywhere (pos 1)) (record { agrees = λ z _. refl; sorts = (int_has_sort (pos 1), tt) }) refl in
        differ (count (pos 0)) (count (pos 1)) refl i.term

    by_condition : IsCondition toys_signature one_less some_count (top sort_s) y_is_x → ⊥
    by_condition (witnessed s a some e w none) = by_witness w
    by_condition (vacuous s a none e f) = absurd (cc)

-- done is no goal
pub done_is_no_goal : IsRightImplied toys_signature done goal_of_lone not_valid
done_is_no_goal = record {
  valuation = λ z. done_value;
  configuration = done_value;
  given = (tt, (tt, tt));
  met = record { term = refl; predicates = tt };
  such = λ i. differ done_value goal_value refl i.term;
}

-- what has no instance implies anything, and isn't refuted
pub nobody_is_a_goal : IsRightImplied toys_signature done_for_nobody goal_of_lone (valid (bottom sort_s) (top sort_s))
nobody_is_a_goal = (
  (λ v u given met. absurd (undeclared_has_none (v (codes "Z")) given.0.0)),
  vacuous sort_s (inl refl) (λ h. undeclared_has_none (h.valuation (codes "Z")) h.given.0.0) refl refl,
)

pub nobody_is_not_refuted : ¬ IsRightImplied toys_signature done_for_nobody goal_of_lone not_valid
nobody_is_not_refuted r = undeclared_has_none (r.valuation (codes "Z")) r.given.0.0

-- ---- simplify

abbrev plus : ℤ → Value → Value
plus m u = interpreted (whole_arithmetic addition) (next_value u (next_value (whole m) no_values))

abbrev less_one : Value → Value
less_one u = interpreted (whole_arithmetic subtraction) (next_value u (next_value (whole (pos 1)) no_values))

three_less_one : (k : ℤ) → (k +ℤ pos 3) -ℤ pos 1 ≡ k +ℤ pos 2
three_less_one k = omega (arith, ints)

same_number : (u : Value) → HasSort toys_signature sort_int u → less_one (plus (pos 3) u) ≡ plus (pos 2) u
same_number u h =
    let k : (k : ℤ) × (u ≡ whole k) = int_values u h in
    subst (λ u. less_one (plus (pos 3) u) ≡ plus (pos 2) u) (sym k.1) (ap whole (three_less_one k.0))

pub sum_is_folded : IsRightSimplified toys_signature two_more_slowly (state two_more)
sum_is_folded = (
  (λ v u given. (
    (λ i. record { term = i.term ∙ ap counted (same_number (v (codes "X")) given.0.0); predicates = tt }),
    (λ i. record { term = i.term ∙ ap counted (sym (same_number (v (codes "X")) given.0.0)); predicates = tt }),
  )),
  record { valuation = everywhere (pos 0); configuration = count (pos 2); given = ((int_has_sort (pos 0), tt), ((int_has_sort (pos 0), tt), tt)); met = record { term = refl; predicates = tt }; such = tt },
  computed_by_test toys_signature (subpatterns two_more) refl,
)

pub another_sum : ¬ IsRightSimplified toys_signature two_more_slowly (state three_more)
another_sum r =
    let i : IsInstance toys_signature (everywhere (pos 0)) three_more (count (pos 2)) =
    (r.0 (everywhere (pos 0)) (count (pos 2)) ((int_has_sort (pos 0), tt), ((int_has_sort (pos 0), tt), tt))).0 (record { term = refl; predicates = tt }) in
    differ (count (pos 2)) (count (pos 3)) refl i.term

pub none_is_left : IsRightSimplified toys_signature count_of_none (nothing sort_s)
none_is_left = (inl refl, (λ h. vacuous_count.reason (record { valuation = h.valuation; configuration = h.configuration; given = (h.given.0, (h.given.0, tt)); met = h.met; such = tt })))

-- what has no instance is \bottom, and no state
pub none_as_a_state : ¬ IsRightSimplified toys_signature count_of_none (state count_of_none)
none_as_a_state r = vacuous_count.reason (record { valuation = r.1.valuation; configuration = r.1.configuration; given = r.1.given; met = r.1.met; such = tt })

pub some_is_left : ¬ IsRightSimplified toys_signature two_more_slowly (nothing sort_s)
some_is_left r = r.1 (record { valuation = everywhere (pos 0); configuration = count (pos 2); given = ((int_has_sort (pos 0), tt), tt); met = record { term = refl; predicates = tt }; such = tt })

-- ---- sides that aren't compared

pub binder_without_a_term : IsSidesFault toys_signature done done_above_x (unused_binder (codes "Y"))
binder_without_a_term = refl

no_first_term : {X : Type 0} (x : X) (xs : List X) → [] ≡ x ∷ xs → ⊥
no_first_term x xs e = cc

pub side_without_a_term : IsSidesFault toys_signature (top sort_s) done other_terms
side_without_a_term = (refl, λ h. no_first_term h.1.term [] h.1.alone)

pub bound_and_free : IsSidesFault toys_signature (count_of y) some_count (unclear_name (codes "Y"))
bound_and_free = (refl, (sort_s, record { term = count_of y; alone = refl; is_sort = refl }, record { term = count_of y; alone = refl; is_sort = refl }), refl)
