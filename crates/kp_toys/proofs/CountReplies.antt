-- Replies to count(X): branching, vacuous; a request with a variable that has no value.
use Rattle.std.proofs.Common.{ℕ, inl, inr, ◌≡◌, refl, sym, subst, Bool, true, [], ◌∷◌, ℤ, pos, arith}
use Rattle.std.specs.Prelude.{codes, Some, int_lt}
use Rattle.std.proofs.lemmas.Int.{ints}
use Rattle.kp_kore.specs.Parts.{subpatterns}
use Rattle.kp_kore.specs.Hooks.{whole_comparison, greater, less}
use Rattle.kp_kore.specs.Value.{Value, whole, truth, no_values, next_value}
use Rattle.kp_kore.specs.Interpretation.{interpreted}
use Rattle.kp_kore.specs.Instance.{Valuation}
use Rattle.kp_kore.specs.Steps.{IsUnknown, StepsIn}
use Rattle.kp_kore.specs.AtHand.{OfSome}
use Rattle.kp_kore.specs.Executions.{IsRightExecuted, IsBranching, branching, vacuous, stuck, depth_bound}
use Rattle.kp_toys.specs.ToysTheory.{toys, toys_signature, done}
use Rattle.kp_toys.specs.ToysValues.{count, odd}
use Rattle.kp_toys.specs.ToysReplies.{count_x, count_of_none, done_for_nobody, to_bound, at_once, counted_down, stopped, below_zero, exchanged_down, exchanged_stop, whenever, whatever_follows, first_half, second_half, impossible, vacuous_later, odd_one, aborted_by_odd, aborted_by_stop}
use Rattle.kp_toys.proofs.AtOnce.{at_once_leads, at_once_passes, never}
use Rattle.kp_toys.proofs.Firing.{computed_by_test}
use Rattle.kp_toys.proofs.Matching.{count_known, odd_unknown, int_has_sort, texts_differ}
use Rattle.kp_toys.proofs.Sorts.{int_values, undeclared_has_none}
use Rattle.kp_toys.proofs.Counting.{Says, x_in, number, at_count, everywhere, given_at, met_at, dec_turn, stop_turn, three, count_next_states, dec_is_not_stop}
use Rattle.kp_toys.proofs.Miscounted.{remainder_left_out, rules_exchanged, predicate_too_wide, state_too_wide, halves_overlap, never_held}

some_differ : Some (codes "TOYS.dec") ≡ Some (codes "TOYS.stop") → codes "TOYS.dec" ≡ codes "TOYS.stop"
some_differ e = cc

count_branches : IsBranching toys count_x count_x three
count_branches = record {
  known = λ v c given met. let k : (k : ℤ) × (x_in v ≡ whole k) = number v given in subst (λ c. ¬ IsUnknown toys c) (sym (at_count v c k.0 met k.1)) (count_known k.0);
  two = record {
    one = Some (codes "TOYS.dec");
    other = Some (codes "TOYS.stop");
    differ = λ e. dec_is_not_stop (some_differ e);
    first = record { valuation = everywhere (pos 1); configuration = count (pos 1); given = given_at (pos 1); met = met_at (pos 1); such = dec_turn (pos 1) refl };
    second = record { valuation = everywhere (pos 0); configuration = count (pos 0); given = given_at (pos 0); met = met_at (pos 0); such = stop_turn (pos 0) refl };
  };
  next_states = count_next_states;
}

pub three_next_states : IsRightExecuted toys (to_bound 1) count_x (at_once (branching (counted_down ∷ stopped ∷ below_zero ∷ [])) count_x)
three_next_states = record {
  within_bound = omega arith;
  runs = (at_once_leads toys count_x refl, at_once_passes toys [] count_x);
  reached = λ n e. absurd (never n e);
  computed = computed_by_test toys_signature (subpatterns count_x) refl;
  reason = (omega arith, count_branches);
}

pub no_remainder : ¬ IsRightExecuted toys (to_bound 1) count_x (at_once (branching (counted_down ∷ stopped ∷ [])) count_x)
no_remainder r = remainder_left_out r.reason.1.next_states

pub exchanged : ¬ IsRightExecuted toys (to_bound 1) count_x (at_once (branching (exchanged_down ∷ exchanged_stop ∷ below_zero ∷ [])) count_x)
exchanged r = rules_exchanged r.reason.1.next_states

pub always_true : ¬ IsRightExecuted toys (to_bound 1) count_x (at_once (branching (whenever ∷ stopped ∷ below_zero ∷ [])) count_x)
always_true r = predicate_too_wide r.reason.1.next_states

pub unconditional : ¬ IsRightExecuted toys (to_bound 1) count_x (at_once (branching (whatever_follows ∷ stopped ∷ below_zero ∷ [])) count_x)
unconditional r = state_too_wide r.reason.1.next_states

pub overlapping : ¬ IsRightExecuted toys (to_bound 1) count_x (at_once (branching (first_half ∷ second_half ∷ stopped ∷ below_zero ∷ [])) count_x)
overlapping r = halves_overlap r.reason.1.next_states

pub impossible_case : ¬ IsRightExecuted toys (to_bound 1) count_x (at_once (branching (counted_down ∷ stopped ∷ below_zero ∷ impossible ∷ [])) count_x)
impossible_case r = never_held r.reason.1.next_states

-- ---- no X is above 0 and below 1

truth_inside : (a : Bool) → truth a ≡ truth true → a ≡ true
truth_inside a e = cc

between : (k : ℤ) → int_lt (pos 0) k ≡ true → int_lt k (pos 1) ≡ true → ⊥
between k e f = omega (arith, ints)

pub vacuous_count : IsRightExecuted toys (to_bound 10000) count_of_none (at_once vacuous count_of_none)
vacuous_count = record {
  within_bound = omega arith;
  runs = (at_once_leads toys count_of_none refl, at_once_passes toys [] count_of_none);
  reached = λ n e. absurd (never n e);
  computed = computed_by_test toys_signature (subpatterns count_of_none) refl;
  reason = λ h. none h.valuation (int_values (h.valuation (codes "X")) h.given.0.0) h.met.predicates.0 h.met.predicates.1.0;
}
  where
    none : (v : Valuation) → (k : ℤ) × (x_in v ≡ whole k) → Says greater (x_in v) → interpreted (whole_comparison less) (next_value (x_in v) (next_value (whole (pos 1)) no_values)) ≡ truth true → ⊥
    none v k above below =
        between k.0
        (truth_inside (int_lt (pos 0) k.0) (subst (Says greater) k.1 above))
        (truth_inside (int_lt k.0 (pos 1)) (subst (λ u. interpreted (whole_comparison less) (next_value u (next_value (whole (pos 1)) no_values)) ≡ truth true) k.1 below))

pub stuck_count : ¬ IsRightExecuted toys (to_bound 10000) count_of_none (at_once stuck count_of_none)
stuck_count r = vacuous_count.reason r.reason.1.has

-- ---- a variable that has no value

pub vacuous_for_nobody : IsRightExecuted toys (to_bound 10000) done_for_nobody (at_once vacuous done_for_nobody)
vacuous_for_nobody = record {
  within_bound = omega arith;
  runs = (at_once_leads toys done_for_nobody refl, at_once_passes toys [] done_for_nobody);
  reached = λ n e. absurd (never n e);
  computed = computed_by_test toys_signature (subpatterns done_for_nobody) refl;
  reason = λ h. undeclared_has_none (h.valuation (codes "Z")) h.given.0.0;
}

pub not_stuck_for_nobody : ¬ IsRightExecuted toys (to_bound 10000) done_for_nobody (at_once stuck done)
not_stuck_for_nobody r = undeclared_has_none (r.reason.1.has.valuation (codes "Z")) r.reason.1.has.given.1.0.0

-- no instance goes on for no steps
pub not_vacuous_later : ¬ IsRightExecuted toys (to_bound 10000) count_of_none vacuous_later
not_vacuous_later r =
    let h : OfSome toys_signature [] count_of_none (λ v c. (later : Value) × StepsIn toys 0 c later) = r.reached 0 refl in
    vacuous_count.reason (record { valuation = h.valuation; configuration = h.configuration; given = (h.given.0, (h.given.0, tt)); met = h.met; such = tt })

-- ---- odd(1)

pub aborted_odd : IsRightExecuted toys (to_bound 10000) odd_one aborted_by_odd
aborted_odd = record {
  within_bound = omega arith;
  runs = (at_once_leads toys odd_one refl, at_once_passes toys [] odd_one);
  reached = λ n e. absurd (never n e);
  computed = computed_by_test toys_signature (subpatterns odd_one) refl;
  reason = (
    omega arith,
    inr (inr (inr (inr (inr (inr (inl (
      refl,
      record {
        valuation = λ y. whole (pos 1);
        configuration = odd (pos 1);
        given = (tt, (tt, tt));
        met = record { term = refl; predicates = tt };
        such = ((λ x. whole (pos 1)), (refl, ((refl, int_has_sort (pos 1)), tt)));
      },
    ))))))),
  );
}

-- the rule that is told is foreign
pub not_by_stop : ¬ IsRightExecuted toys (to_bound 10000) odd_one aborted_by_stop
not_by_stop r = elim r.reason.1 [
  | inl a ↦ a.1.such
  | inr b ↦ elim b [
    | inl a ↦ a.1.such
    | inr b ↦ elim b [
      | inl a ↦ a.1.such
      | inr b ↦ elim b [
        | inl a ↦ a.1.such
        | inr b ↦ elim b [
          | inl a ↦ a.1.such
          | inr b ↦ elim b [
            | inl a ↦ a.1.such
            | inr b ↦ elim b [
              | inl a ↦ texts_differ (codes "TOYS.odd") (codes "TOYS.stop") refl a.0
              | inr b ↦ elim b [ inl a ↦ a.1.such | inr b ↦ elim b [ inl a ↦ a.1.such | inr b ↦ elim b [ inl a ↦ a.1.such | inr b ↦ b ] ] ]
            ]
          ]
        ]
      ]
    ]
  ]
]

-- odd(1) is unknown, so it isn't stuck
pub odd_is_not_stuck : ¬ IsRightExecuted toys (to_bound 10000) odd_one (at_once stuck odd_one)
odd_is_not_stuck r = (r.reason.1.final (λ y. whole (pos 1)) (odd (pos 1)) (tt, (tt, tt)) (record { term = refl; predicates = tt })).1 (odd_unknown (pos 1))

-- below the bound nothing is at the bound
pub below_the_bound : ¬ IsRightExecuted toys (to_bound 1) odd_one (at_once depth_bound odd_one)
below_the_bound r = not_both 0 refl r.reason.0
  where
    not_both : (n : ℕ) → n ≡ 0 → n ≡ 1 → ⊥
    not_both n e f = omega arith
