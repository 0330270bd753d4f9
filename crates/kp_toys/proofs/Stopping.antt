-- Replies to count(2) that stop before and behind a rule; two rules that have their turn at once.
use Rattle.std.proofs.Common.{◌≡◌, refl, sym, ◌∙◌, ap, subst, inl, inr, true, false, List, [], ◌∷◌, ℤ, pos, ℕ, zero, suc, ◌<◌, arith}
use Rattle.std.specs.Prelude.{codes, Option, Some, None}
use Rattle.kp_kore.specs.Syntax.{Text, KorePattern, top}
use Rattle.kp_kore.specs.Hooks.{equal}
use Rattle.kp_kore.specs.Parts.{subpatterns}
use Rattle.kp_kore.specs.Value.{Value, whole}
use Rattle.kp_kore.specs.Instance.{Valuation, instance}
use Rattle.kp_kore.specs.Rules.{RewriteRule, rewrite}
use Rattle.kp_toys.specs.Toys.{sort_s}
use Rattle.kp_kore.specs.Steps.{HasTurn, StepsBy, StepsIn, IsUnknown, AnyByRecursion}
use Rattle.kp_kore.specs.Replies.{IsAfter, NoneListed}
use Rattle.kp_kore.specs.AtHand.{OfSome, IsOver, IsTrueOver}
use Rattle.kp_kore.specs.Onward.{Leads, Passes}
use Rattle.kp_kore.specs.Cases.{NextState, IsCase, GoesTo, OfOneAlone, HasTurnAlone, AreNextStates}
use Rattle.kp_kore.specs.Executions.{IsRightExecuted, branching}
use Rattle.kp_toys.specs.ToysTheory.{toys, toys_signature, done, dec_rule}
use Rattle.kp_toys.specs.ToysValues.{count, done_value, lone_value}
use Rattle.kp_toys.specs.ToysReplies.{count_two_pattern, count_zero_pattern, to_done, stop_before, stop_behind, stop_around, before_stop, behind_stop, stuck_behind_stop, to_bound, at_once, to_done_of_lone, to_goal_of_lone}
use Rattle.kp_toys.specs.SmallTheories.{lone, goal_of_lone, at_once_by_two}
use Rattle.kp_toys.proofs.AtOnce.{at_once_leads, at_once_passes, never}
use Rattle.kp_toys.proofs.Counting.{Says, case_of_count, stop_turn}
use Rattle.kp_toys.proofs.Firing.{on_count, computed_by_test}
use Rattle.kp_toys.proofs.Matching.{other_head, falsehood, false_true, texts_differ, count_known, stop_fires, stop_condition, dec_condition, steps_fire, stop_step, none_before}
use Rattle.kp_toys.proofs.Replied.{after_one, after_two, after_three, to_one, to_zero, to_done as steps_to_done, on_the_way}

-- ---- where count(2) leads

to_count_zero : Leads toys count_two_pattern count_zero_pattern 2
to_count_zero = record {
  found = λ v c given met later steps. record { chosen = v; agrees = λ y _. refl; sorts = tt; met = record { term = after_two c later met.term steps; predicates = tt } };
  only = λ v later sorts over. subst (IsAfter toys count_two_pattern v 2) (sym over.met.term) (to_zero v);
  names = tt;
}

to_done_state : Leads toys count_two_pattern done 3
to_done_state = record {
  found = λ v c given met later steps. record { chosen = v; agrees = λ y _. refl; sorts = tt; met = record { term = after_three c later met.term steps; predicates = tt } };
  only = λ v later sorts over. steps_to_done v later over.met.term;
  names = tt;
}

-- stop hasn't its turn on a number above 0
not_stop : (k : ℤ) → ¬ Says equal (whole k) → NoneListed toys (codes "TOYS.stop" ∷ []) (count k)
not_stop k n = (
  (λ e. absurd (false_true e)),
  (
    (λ e h. n (stop_condition k h.fires)),
    ((λ e. absurd (false_true e)), ((λ e. absurd (false_true e)), ((λ e. absurd (false_true e)), ((λ e. absurd (false_true e)), ((λ e. absurd (false_true e)), ((λ e. absurd (false_true e)), ((λ e. absurd (false_true e)), ((λ e. absurd (false_true e)), tt)))))))),
  ),
)

before_zero : (n : ℕ) (c later : Value) → n < 2 → c ≡ count (pos 2) → StepsIn toys n c later → NoneListed toys (codes "TOYS.stop" ∷ []) later
before_zero zero c later less e s = subst (NoneListed toys (codes "TOYS.stop" ∷ [])) (sym (s ∙ e)) (not_stop (pos 2) falsehood)
before_zero (suc zero) c later less e s = subst (NoneListed toys (codes "TOYS.stop" ∷ [])) (sym (after_one c later e s)) (not_stop (pos 1) falsehood)
before_zero (suc (suc n)) c later less e s = absurd (omega arith)

passes_two : Passes toys (codes "TOYS.stop" ∷ []) count_two_pattern 2
passes_two = record {
  not_final = λ v c given met n later less steps. on_the_way v n later (omega arith) (c, met, steps);
  none_listed = λ v c given met n later less steps. before_zero n c later less met.term steps;
}

-- ---- count(0)

stop_alone : HasTurnAlone toys (codes "TOYS.stop") (count (pos 0))
stop_alone = record {
  known = count_known (pos 0);
  turn = stop_turn (pos 0) refl;
  alone = ((λ h. absurd (falsehood (dec_condition (pos 0) h.fires))), ((λ h. refl), ((λ h. absurd (other_head _ (count (pos 0)) (λ v. refl) h.fires)), ((λ h. absurd (other_head _ (count (pos 0)) (λ v. refl) h.fires)), ((λ h. absurd (other_head _ (count (pos 0)) (λ v. refl) h.fires)), ((λ h. absurd (other_head _ (count (pos 0)) (λ v. refl) h.fires)), ((λ h. absurd h.fires), ((λ h. absurd (other_head _ (count (pos 0)) (λ v. refl) h.fires)), ((λ h. absurd (other_head _ (count (pos 0)) (λ v. refl) h.fires)), ((λ h. absurd (other_head _ (count (pos 0)) (λ v. refl) h.fires)), tt))))))))));
}

divided : (v : Valuation) (case : Option Text) → IsCase toys case (count (pos 0)) → OfOneAlone (λ n. (n.rule ≡ case) × IsTrueOver toys_signature count_zero_pattern v n.predicate) (to_done ∷ [])
divided v (Some id) h = elim (case_of_count (pos 0) id h) [
  | inl a ↦ absurd (falsehood a.1)
  | inr a ↦ inl ((ap Some a.0, record { chosen = v; agrees = λ y _. refl; sorts = tt; holds = tt }), tt)
]
divided v None h = absurd (h.1.0 stop_fires)

found : (v : Valuation) (next : Value) (case : Option Text) → GoesTo toys case (count (pos 0)) next → AnyByRecursion (λ n. (n.rule ≡ case) × IsOver toys_signature count_zero_pattern v n.state next) (to_done ∷ [])
found v next (Some id) h = elim (on_count (λ r. (r.id ≡ id) × StepsBy toys r (count (pos 0)) next) (pos 0) (λ r a. steps_fire r (count (pos 0)) next a.1) h) [
  | inl a ↦ absurd (falsehood (dec_condition (pos 0) (steps_fire dec_rule (count (pos 0)) next a.1)))
  | inr a ↦ inl (ap Some a.0, record { chosen = v; agrees = λ y _. refl; sorts = tt; met = record { term = a.1.rewrites.2.result; predicates = tt } })
]
found v next None h = absurd (h.0.1.0 stop_fires)

zero_next_states : AreNextStates toys count_two_pattern count_zero_pattern (to_done ∷ [])
zero_next_states = record {
  parts = record {
    divided = λ v c given met case h. divided v case (subst (IsCase toys case) met.term h);
    only = ((λ v c given met o. subst (IsCase toys (Some (codes "TOYS.stop"))) (sym met.term) (stop_turn (pos 0) refl)), tt);
    held = (
      record {
        valuation = λ y. done_value;
        configuration = count (pos 0);
        given = (tt, (tt, tt));
        met = record { term = refl; predicates = tt };
        such = record { chosen = λ y. done_value; agrees = λ y _. refl; sorts = tt; holds = tt };
      },
      tt,
    );
  };
  follow = record {
    found = λ v c given met case next h. found v next case (subst (λ c. GoesTo toys case c next) met.term h);
    only = ((λ v next given o. (count (pos 0), record { term = refl; predicates = tt }, inr (inl (refl, stop_step (pos 0) next refl o.met.term)))), tt);
  };
  names = ((tt, tt), tt);
  predicates = (refl, tt);
  one_sort = (tt, tt);
}

-- ---- the replies

two_before : (n : ℕ) → 2 ≡ suc n → 1 ≡ n
two_before n e = omega arith

three_before : (n : ℕ) → 3 ≡ suc n → 2 ≡ n
three_before n e = omega arith

-- some instance goes on for so many steps
goes_on : (v : Valuation) (m : ℕ) (later : Value) → IsAfter toys count_two_pattern v m later → OfSome toys_signature [] count_two_pattern (λ v c. (later : Value) × StepsIn toys m c later)
goes_on v m later a = record { valuation = v; configuration = a.0; given = (tt, tt); met = a.1; such = (later, a.2) }

pub cut_point_reply : IsRightExecuted toys stop_before count_two_pattern before_stop
cut_point_reply = record {
  within_bound = omega arith;
  runs = (to_count_zero, passes_two);
  reached = λ n e. subst (λ m. OfSome toys_signature [] count_two_pattern (λ v c. (later : Value) × StepsIn toys m c later)) (two_before n e) (goes_on (λ y. done_value) 1 (count (pos 1)) (to_one (λ y. done_value)));
  computed = computed_by_test toys_signature (subpatterns count_zero_pattern) refl;
  reason = (
    omega arith,
    record {
      has = record { valuation = λ y. done_value; configuration = count (pos 0); given = (tt, (tt, tt)); met = record { term = refl; predicates = tt }; such = tt };
      turn = λ v c given met. subst (HasTurnAlone toys (codes "TOYS.stop")) (sym met.term) stop_alone;
      is_cut_point = refl;
      by_rule = refl;
      next_states = zero_next_states;
    },
  );
}

pub terminal_reply : IsRightExecuted toys stop_behind count_two_pattern behind_stop
terminal_reply = record {
  within_bound = omega arith;
  runs = record {
    before = 2;
    one_less = refl;
    leads = to_done_state;
    passes = passes_two;
    turn = λ v c given met later steps. subst (HasTurnAlone toys (codes "TOYS.stop")) (sym (after_two c later met.term steps)) stop_alone;
    is_terminal = refl;
    no_cut_point = refl;
  };
  reached = λ n e. subst (λ m. OfSome toys_signature [] count_two_pattern (λ v c. (later : Value) × StepsIn toys m c later)) (three_before n e) (goes_on (λ y. done_value) 2 (count (pos 0)) (to_zero (λ y. done_value)));
  computed = computed_by_test toys_signature (subpatterns done) refl;
  reason = tt;
}

-- a rule that is in both lists is one to stop before
true_false : true ≡ false → ⊥
true_false e = cc

pub cut_point_goes_first : ¬ IsRightExecuted toys stop_around count_two_pattern behind_stop
cut_point_goes_first r = true_false r.runs.no_cut_point

-- the run goes past the rule
pub listed_rule_is_not_passed : ¬ IsRightExecuted toys stop_behind count_two_pattern stuck_behind_stop
listed_rule_is_not_passed r =
    let a : IsAfter toys count_two_pattern (λ y. done_value) 2 (count (pos 0)) = to_zero (λ y. done_value) in
    (r.runs.1.none_listed (λ y. done_value) a.0 (tt, tt) a.1 2 (count (pos 0)) (omega arith) a.2).1.0 refl (record { fires = stop_fires; none_before = none_before (count (pos 0)) })

-- ---- two rules at once

abbrev two_rules : List RewriteRule
two_rules = at_once_by_two.rules

lone_known : ¬ IsUnknown at_once_by_two lone_value
lone_known u = elim u [ inl a ↦ a | inr u ↦ elim u [ inl a ↦ a | inr a ↦ a ] ]

-- a rule from lone fires, and none goes before it
lone_turn : (id : Text) (right : KorePattern) → HasTurn at_once_by_two (record { id = id; priority = 50; body = rewrite (record { left = lone; condition = []; new_variables = []; right = right; ensured = [] }) }) lone_value
lone_turn id right = record {
  fires = ((λ y. lone_value), record { sorts = tt; matches = refl; condition = tt });
  none_before = ((λ less f. omega arith), ((λ less f. omega arith), tt));
}

lone_step : (id : Text) (right : KorePattern) (next : Value) → next ≡ instance toys_signature (λ y. lone_value) right → StepsBy at_once_by_two (record { id = id; priority = 50; body = rewrite (record { left = lone; condition = []; new_variables = []; right = right; ensured = [] }) }) lone_value next
lone_step id right next e = record {
  known = lone_known;
  none_before = ((λ less f. omega arith), ((λ less f. omega arith), tt));
  rewrites = (
    (λ y. lone_value),
    record { sorts = tt; matches = refl; condition = tt },
    record { chosen = λ y. lone_value; agrees = λ y _. refl; sorts = tt; ensured = tt; result = e },
  );
}

lone_is_not_other : codes "S.lone" ≡ codes "S.other" → ⊥
lone_is_not_other = texts_differ (codes "S.lone") (codes "S.other") refl

some_id : {X : Type 0} (a b : X) → Some a ≡ Some b → a ≡ b
some_id a b e = cc

always_true : (v : Valuation) → IsTrueOver toys_signature lone v (top sort_s)
always_true v = record { chosen = v; agrees = λ y _. refl; sorts = tt; holds = tt }

abbrev both : List NextState
both = to_done_of_lone ∷ to_goal_of_lone ∷ []

lone_divided : (v : Valuation) (case : Option Text) → IsCase at_once_by_two case lone_value → OfOneAlone (λ n. (n.rule ≡ case) × IsTrueOver toys_signature lone v n.predicate) both
lone_divided v (Some id) h = elim h [
  | inl a ↦ inl ((ap Some a.0, always_true v), ((λ z. lone_is_not_other (a.0 ∙ sym (some_id (codes "S.other") id z.0))), tt))
  | inr b ↦ elim b [
    | inl a ↦ inr ((λ z. lone_is_not_other (some_id (codes "S.lone") id z.0 ∙ sym a.0)), inl ((ap Some a.0, always_true v), tt))
    | inr c ↦ absurd c
  ]
]
lone_divided v None h = absurd (h.0 (lone_turn (codes "S.lone") done).fires)

lone_found : (v : Valuation) (next : Value) (case : Option Text) → GoesTo at_once_by_two case lone_value next → AnyByRecursion (λ n. (n.rule ≡ case) × IsOver toys_signature lone v n.state next) both
lone_found v next (Some id) h = elim h [
  | inl a ↦ inl (ap Some a.0, record { chosen = v; agrees = λ y _. refl; sorts = tt; met = record { term = a.1.rewrites.2.result; predicates = tt } })
  | inr b ↦ elim b [
    | inl a ↦ inr (inl (ap Some a.0, record { chosen = v; agrees = λ y _. refl; sorts = tt; met = record { term = a.1.rewrites.2.result; predicates = tt } }))
    | inr c ↦ absurd c
  ]
]
lone_found v next None h = absurd (h.0.0 (lone_turn (codes "S.lone") done).fires)

some_lone : (P : Valuation → Value → Type 0) → P (λ y. lone_value) lone_value → OfSome toys_signature (lone ∷ []) lone P
some_lone P h = record { valuation = λ y. lone_value; configuration = lone_value; given = (tt, (tt, tt)); met = record { term = refl; predicates = tt }; such = h }

pub two_at_once : IsRightExecuted at_once_by_two (to_bound 10000) lone (at_once (branching (to_done_of_lone ∷ to_goal_of_lone ∷ [])) lone)
two_at_once = record {
  within_bound = omega arith;
  runs = (at_once_leads at_once_by_two lone refl, at_once_passes at_once_by_two [] lone);
  reached = λ n e. absurd (never n e);
  computed = computed_by_test toys_signature (subpatterns lone) refl;
  reason = (
    omega arith,
    record {
      known = λ v c given met. subst (λ c. ¬ IsUnknown at_once_by_two c) (sym met.term) lone_known;
      two = record {
        one = Some (codes "S.lone");
        other = Some (codes "S.other");
        differ = λ e. lone_is_not_other (some_id (codes "S.lone") (codes "S.other") e);
        first = some_lone (λ v c. IsCase at_once_by_two (Some (codes "S.lone")) c) (inl (refl, lone_turn (codes "S.lone") done));
        second = some_lone (λ v c. IsCase at_once_by_two (Some (codes "S.other")) c) (inr (inl (refl, lone_turn (codes "S.other") goal_of_lone)));
      };
      next_states = record {
        parts = record {
          divided = λ v c given met case h. lone_divided v case (subst (IsCase at_once_by_two case) met.term h);
          only = (
            (λ v c given met o. subst (IsCase at_once_by_two (Some (codes "S.lone"))) (sym met.term) (inl (refl, lone_turn (codes "S.lone") done))),
            ((λ v c given met o. subst (IsCase at_once_by_two (Some (codes "S.other"))) (sym met.term) (inr (inl (refl, lone_turn (codes "S.other") goal_of_lone)))), tt),
          );
          held = (some_lone (λ v c. IsTrueOver toys_signature lone v (top sort_s)) (always_true (λ y. lone_value)), (some_lone (λ v c. IsTrueOver toys_signature lone v (top sort_s)) (always_true (λ y. lone_value)), tt));
        };
        follow = record {
          found = λ v c given met case next h. lone_found v next case (subst (λ c. GoesTo at_once_by_two case c next) met.term h);
          only = (
            (λ v next given o. (lone_value, record { term = refl; predicates = tt }, inl (refl, lone_step (codes "S.lone") done next o.met.term))),
            ((λ v next given o. (lone_value, record { term = refl; predicates = tt }, inr (inl (refl, lone_step (codes "S.other") goal_of_lone next o.met.term)))), tt),
          );
        };
        names = ((tt, tt), ((tt, tt), tt));
        predicates = (refl, (refl, tt));
        one_sort = (tt, (tt, tt));
      };
    },
  );
}
