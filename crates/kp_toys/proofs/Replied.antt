-- The reply to execute of count(2): done, stuck, after three steps.
use Rattle.std.proofs.Common.{◌≡◌, refl, sym, ◌∙◌, subst, true, false, [], pos, ℕ, zero, suc, ◌<◌, arith}
use Rattle.std.specs.Prelude.{codes}
use Rattle.kp_kore.specs.Value.{Value, whole}
use Rattle.kp_kore.specs.Instance.{Valuation}
use Rattle.kp_kore.specs.Steps.{Steps, StepsIn, IsFinal, IsUnknown, NoneFires}
use Rattle.kp_kore.specs.Replies.{IsAfter, NoneListed}
use Rattle.kp_kore.specs.Onward.{Leads, Passes}
use Rattle.kp_kore.specs.Executions.{IsRightExecuted, stuck, depth_bound}
use Rattle.kp_toys.specs.Toys.{integer}
use Rattle.kp_toys.specs.ToysTheory.{toys, count_of, done}
use Rattle.kp_toys.specs.ToysValues.{count, done_value}
use Rattle.kp_toys.specs.ToysReplies.{to_bound}
use Rattle.kp_toys.proofs.Matching.{count_two, count_one, count_zero, positive_not_final, zero_not_final, done_fires_none, done_known}

false_true : false ≡ true → ⊥
false_true e = cc

-- where the steps from count(2) lead
pub after_one : (c later : Value) → c ≡ count (pos 2) → StepsIn toys 1 c later → later ≡ count (pos 1)
after_one c later e s = s.2 ∙ (count_two s.0).0 (subst (λ c. Steps toys c s.0) e s.1)

pub after_two : (c later : Value) → c ≡ count (pos 2) → StepsIn toys 2 c later → later ≡ count (pos 0)
after_two c later e s =
    let first : s.0 ≡ count (pos 1) = (count_two s.0).0 (subst (λ c. Steps toys c s.0) e s.1) in
    s.2.2 ∙ (count_one s.2.0).0 (subst (λ c. Steps toys c s.2.0) first s.2.1)

pub after_three : (c later : Value) → c ≡ count (pos 2) → StepsIn toys 3 c later → later ≡ done_value
after_three c later e s =
    let first : s.0 ≡ count (pos 1) = (count_two s.0).0 (subst (λ c. Steps toys c s.0) e s.1) in
    let second : s.2.0 ≡ count (pos 0) = (count_one s.2.0).0 (subst (λ c. Steps toys c s.2.0) first s.2.1) in
    s.2.2.2 ∙ (count_zero s.2.2.0).0 (subst (λ c. Steps toys c s.2.2.0) second s.2.2.1)

pub to_one : (v : Valuation) → IsAfter toys (count_of (integer (codes "2"))) v 1 (count (pos 1))
to_one v = (count (pos 2), record { term = refl; predicates = tt }, (count (pos 1), (count_two _).1 refl, refl))

two_steps : StepsIn toys 2 (count (pos 2)) (count (pos 0))
two_steps = (count (pos 1), (count_two _).1 refl, (count (pos 0), (count_one _).1 refl, refl))

pub to_zero : (v : Valuation) → IsAfter toys (count_of (integer (codes "2"))) v 2 (count (pos 0))
to_zero v = (count (pos 2), record { term = refl; predicates = tt }, two_steps)

pub to_done : (v : Valuation) (later : Value) → later ≡ done_value → IsAfter toys (count_of (integer (codes "2"))) v 3 later
to_done v later e = (count (pos 2), record { term = refl; predicates = tt }, (count (pos 1), (count_two _).1 refl, (count (pos 0), (count_one _).1 refl, (done_value, (count_zero _).1 refl, e))))

-- none on the way is final
pub on_the_way : (v : Valuation) (n : ℕ) (c : Value) → n < 3 → IsAfter toys (count_of (integer (codes "2"))) v n c → ¬ IsFinal toys c
on_the_way v zero c lt a f = positive_not_final (pos 2) refl (subst (IsFinal toys) (a.2 ∙ a.1.term) f)
on_the_way v (suc zero) c lt a f = positive_not_final (pos 1) refl (subst (IsFinal toys) (after_one a.0 c a.1.term a.2) f)
on_the_way v (suc (suc zero)) c lt a f = zero_not_final (subst (IsFinal toys) (after_two a.0 c a.1.term a.2) f)
on_the_way v (suc (suc (suc n))) c lt a f = absurd (omega arith)

none_listed : (c : Value) → NoneListed toys [] c
none_listed c = ((λ e. absurd (false_true e)), ((λ e. absurd (false_true e)), ((λ e. absurd (false_true e)), ((λ e. absurd (false_true e)), ((λ e. absurd (false_true e)), ((λ e. absurd (false_true e)), ((λ e. absurd (false_true e)), ((λ e. absurd (false_true e)), ((λ e. absurd (false_true e)), ((λ e. absurd (false_true e)), tt))))))))))

three_lead : Leads toys (count_of (integer (codes "2"))) done 3
three_lead = record {
  found = λ v c given met later steps. record { chosen = v; agrees = λ y _. refl; sorts = tt; met = record { term = after_three c later met.term steps; predicates = tt } };
  only = λ v later sorts over. to_done v later over.met.term;
  names = tt;
}

three_pass : Passes toys [] (count_of (integer (codes "2"))) 3
three_pass = record {
  not_final = λ v c given met n later less steps. on_the_way v n later less (c, met, steps);
  none_listed = λ v c given met n later less steps. none_listed later;
}

two_before : (n : ℕ) → 3 ≡ suc n → n ≡ 2
two_before n e = omega arith

pub right_reply : IsRightExecuted toys (to_bound 10000) (count_of (integer (codes "2"))) (record { depth = 3; reason = stuck; state = done })
right_reply = record {
  within_bound = omega arith;
  runs = (three_lead, three_pass);
  reached = λ n e. record {
    valuation = λ x. whole (pos 0);
    configuration = count (pos 2);
    given = (tt, tt);
    met = record { term = refl; predicates = tt };
    such = (count (pos 0), subst (λ m. StepsIn toys m (count (pos 2)) (count (pos 0))) (sym (two_before n e)) two_steps);
  };
  computed = ((λ e. absurd (false_true e)), tt);
  reason = (
    omega arith,
    record {
      has = record { valuation = λ x. done_value; configuration = done_value; given = (tt, (tt, tt)); met = record { term = refl; predicates = tt }; such = tt };
      final = λ v c given met. (subst (NoneFires toys) (sym met.term) done_fires_none, subst (λ c. ¬ IsUnknown toys c) (sym met.term) done_known);
    },
  );
}

none_lead : Leads toys (count_of (integer (codes "2"))) (count_of (integer (codes "2"))) 0
none_lead = record {
  found = λ v c given met later steps. record { chosen = v; agrees = λ y _. refl; sorts = tt; met = record { term = steps ∙ met.term; predicates = tt } };
  only = λ v later sorts over. (count (pos 2), record { term = refl; predicates = tt }, over.met.term);
  names = tt;
}

none_pass : Passes toys [] (count_of (integer (codes "2"))) 0
none_pass = record {
  not_final = λ v c given met n later less steps. absurd (omega arith);
  none_listed = λ v c given met n later less steps. absurd (omega arith);
}

pub right_at_bound : IsRightExecuted toys (to_bound 0) (count_of (integer (codes "2"))) (record { depth = 0; reason = depth_bound; state = count_of (integer (codes "2")) })
right_at_bound = record {
  within_bound = omega arith;
  runs = (none_lead, none_pass);
  reached = λ n e. absurd (omega arith);
  computed = ((λ e. absurd (false_true e)), ((λ e. absurd (false_true e)), tt));
  reason = (refl, (λ none. record { valuation = λ x. done_value; configuration = count (pos 2); given = (tt, (tt, tt)); met = record { term = refl; predicates = tt }; such = tt }));
}
