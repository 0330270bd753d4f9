-- Next states of count(X) that aren't right.
use Rattle.std.proofs.Common.{◌≡◌, refl, sym, subst, inl, inr, [], ◌∷◌, pos, negsuc}
use Rattle.std.specs.Prelude.{codes, Some, None}
use Rattle.kp_kore.specs.Value.{Value, whole}
use Rattle.kp_kore.specs.Instance.{assigned, IsInstance}
use Rattle.kp_kore.specs.AtHand.{IsTrueOver, IsOver}
use Rattle.kp_kore.specs.Cases.{IsCase, GoesTo, AreNextStates}
use Rattle.kp_kore.specs.Steps.{StepsBy}
use Rattle.kp_toys.specs.ToysTheory.{toys, toys_signature, dec_rule}
use Rattle.kp_toys.specs.ToysValues.{count}
use Rattle.kp_toys.specs.ToysReplies.{count_x, counted_down, stopped, below_zero, exchanged_down, exchanged_stop, whenever, whatever_follows, first_half, second_half, impossible}
use Rattle.kp_toys.proofs.Matching.{falsehood, steps_fire, dec_condition, int_has_sort}
use Rattle.kp_toys.proofs.Choosing.{off_one}
use Rattle.kp_toys.proofs.Firing.{on_count}
use Rattle.kp_toys.proofs.Counting.{everywhere, given_at, met_at, is_above, no_rule, case_of_count, dec_is_not_stop, dec_turn}

no_id : Some (codes "TOYS.dec") ≡ None → ⊥
no_id e = cc

no_id_either : Some (codes "TOYS.stop") ≡ None → ⊥
no_id_either e = cc

-- at X = -1 no rule fires, and no next state says so
pub remainder_left_out : ¬ AreNextStates toys count_x count_x (counted_down ∷ stopped ∷ [])
remainder_left_out n = elim (n.parts.divided (everywhere (negsuc 0)) (count (negsuc 0)) (given_at (negsuc 0)) (met_at (negsuc 0)) None (no_rule (negsuc 0) falsehood falsehood)) [
  | inl a ↦ no_id a.0.0
  | inr b ↦ elim b.1 [ inl a ↦ no_id_either a.0.0 | inr c ↦ c.1 ]
]

-- stop has its turn on count(0) alone, and dec not there
not_stop_at_one : ¬ IsCase toys (Some (codes "TOYS.stop")) (count (pos 1))
not_stop_at_one h = elim (case_of_count (pos 1) (codes "TOYS.stop") h) [ inl a ↦ dec_is_not_stop a.0 | inr a ↦ falsehood a.1 ]

not_dec_at_zero : ¬ IsCase toys (Some (codes "TOYS.dec")) (count (pos 0))
not_dec_at_zero h = elim (case_of_count (pos 0) (codes "TOYS.dec") h) [ inl a ↦ falsehood a.1 | inr a ↦ dec_is_not_stop (sym a.0) ]

-- at X = 1 the predicate of dec is true
pub rules_exchanged : ¬ AreNextStates toys count_x count_x (exchanged_down ∷ exchanged_stop ∷ below_zero ∷ [])
rules_exchanged n = not_stop_at_one (n.parts.only.0 (everywhere (pos 1)) (count (pos 1)) (given_at (pos 1)) (met_at (pos 1)) (is_above (everywhere (pos 1)) (given_at (pos 1)) refl))

-- at X = 0 dec hasn't its turn
pub predicate_too_wide : ¬ AreNextStates toys count_x count_x (whenever ∷ stopped ∷ below_zero ∷ [])
predicate_too_wide n = not_dec_at_zero (n.parts.only.0 (everywhere (pos 0)) (count (pos 0)) (given_at (pos 0)) (met_at (pos 0)) (record { chosen = everywhere (pos 0); agrees = λ y _. refl; sorts = tt; holds = tt }))

-- at X = 0 the state without its condition has an instance, to which dec doesn't lead
pub state_too_wide : ¬ AreNextStates toys count_x count_x (whatever_follows ∷ stopped ∷ below_zero ∷ [])
state_too_wide n =
    let over : IsOver toys_signature count_x (everywhere (pos 0)) whatever_follows.state (count (negsuc 0)) =
    record { chosen = everywhere (pos 0); agrees = λ y _. refl; sorts = (given_at (pos 0)).0; met = record { term = refl; predicates = tt } } in
    let from : (c : Value) × IsInstance toys_signature (everywhere (pos 0)) count_x c × GoesTo toys (Some (codes "TOYS.dec")) c (count (negsuc 0)) =
    n.follow.only.0 (everywhere (pos 0)) (count (negsuc 0)) (given_at (pos 0)) over in
    let goes : GoesTo toys (Some (codes "TOYS.dec")) (count (pos 0)) (count (negsuc 0)) = subst (λ c. GoesTo toys (Some (codes "TOYS.dec")) c (count (negsuc 0))) from.1.term from.2 in
    elim (on_count (λ r. (r.id ≡ codes "TOYS.dec") × StepsBy toys r (count (pos 0)) (count (negsuc 0))) (pos 0) (λ r a. steps_fire r (count (pos 0)) (count (negsuc 0)) a.1) goes) [
      | inl a ↦ falsehood (dec_condition (pos 0) (steps_fire dec_rule (count (pos 0)) (count (negsuc 0)) a.1))
      | inr a ↦ dec_is_not_stop (sym a.0)
    ]

-- at X = 1 both predicates are true, for other values of the new variable
in_first : IsTrueOver toys_signature count_x (everywhere (pos 1)) first_half.predicate
in_first = record {
  chosen = assigned (everywhere (pos 1)) (codes "Fresh1") (whole (pos 1));
  agrees = λ y h. off_one (codes "Fresh1") y (whole (pos 1)) (everywhere (pos 1)) h;
  sorts = (int_has_sort (pos 1), (int_has_sort (pos 1), (int_has_sort (pos 1), tt)));
  holds = (refl, (refl, tt));
}

in_second : IsTrueOver toys_signature count_x (everywhere (pos 1)) second_half.predicate
in_second = record {
  chosen = assigned (everywhere (pos 1)) (codes "Fresh1") (whole (pos 0));
  agrees = λ y h. off_one (codes "Fresh1") y (whole (pos 0)) (everywhere (pos 1)) h;
  sorts = (int_has_sort (pos 0), (int_has_sort (pos 1), (int_has_sort (pos 1), tt)));
  holds = (refl, (refl, tt));
}

pub halves_overlap : ¬ AreNextStates toys count_x count_x (first_half ∷ second_half ∷ stopped ∷ below_zero ∷ [])
halves_overlap n = elim (n.parts.divided (everywhere (pos 1)) (count (pos 1)) (given_at (pos 1)) (met_at (pos 1)) (Some (codes "TOYS.dec")) (dec_turn (pos 1) refl)) [
  | inl a ↦ a.1.0 (refl, in_second)
  | inr b ↦ b.0 (refl, in_first)
]

-- its predicate is never true
pub never_held : ¬ AreNextStates toys count_x count_x (counted_down ∷ stopped ∷ below_zero ∷ impossible ∷ [])
never_held n = n.parts.held.1.1.1.0.such.holds
