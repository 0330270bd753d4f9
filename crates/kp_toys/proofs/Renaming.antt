-- New names: vg steps to vh(Fresh1); a name of the request is no new one; a kept variable is no new one.
use Rattle.std.proofs.Common.{◌≡◌, refl, sym, ◌∙◌, ap, subst, inl, inr, true, false, [], ◌∷◌, ◌++◌, ℤ, pos, ℕ, zero, suc, ◌<◌, arith}
use Rattle.std.specs.Fmt.{decimal}
use Rattle.std.proofs.lemmas.Fmt.{decimal-digits_of}
use Rattle.std.specs.Prelude.{codes, Option, Some, None}
use Rattle.kp_kore.specs.Syntax.{Text}
use Rattle.kp_kore.specs.Parts.{subpatterns}
use Rattle.kp_kore.specs.Value.{Value, whole}
use Rattle.kp_kore.specs.Instance.{Valuation, assigned, IsInstance}
use Rattle.kp_kore.specs.Steps.{HasTurn, Steps, StepsBy, StepsIn, IsFinal, AnyByRecursion}
use Rattle.kp_kore.specs.AtHand.{IsOver, IsTrueOver}
use Rattle.kp_kore.specs.Replies.{IsFreshName}
use Rattle.kp_kore.specs.Onward.{Leads}
use Rattle.kp_kore.specs.Cases.{IsCase, GoesTo, OfOneAlone, AreNextStates}
use Rattle.kp_kore.specs.Executions.{IsRightExecuted, depth_bound}
use Rattle.kp_toys.specs.Toys.{sort_int}
use Rattle.kp_toys.specs.ToysTheory.{toys, toys_signature, vg, vh_of, y, back_rule}
use Rattle.kp_toys.specs.ToysValues.{vg_value, vh_value}
use Rattle.kp_toys.specs.ToysClaims.{x, vf_of, fresh}
use Rattle.kp_toys.specs.ToysReplies.{to_bound, another, back_to, kept_as}
use Rattle.kp_toys.specs.SmallTheories.{keeping}
use Rattle.kp_toys.proofs.Choosing.{off_one, vg_steps_exactly, back_leads}
use Rattle.kp_toys.proofs.Firing.{only_back, computed_by_test, one_sort_by, spoken_of}
use Rattle.kp_toys.proofs.Keeping.{keeps, on_vh}
use Rattle.kp_toys.proofs.Matching.{int_has_sort, vg_known, steps_fire, differ, none_before, vg_step}
use Rattle.kp_toys.proofs.Sorts.{int_values}

-- ---- names

one_digit : decimal 1 ≡ 49 ∷ []
one_digit = decimal-digits_of 1 (omega arith) (omega arith) ∙ refl

two_digit : decimal 2 ≡ 50 ∷ []
two_digit = decimal-digits_of 2 (omega arith) (omega arith) ∙ refl

first_name : IsFreshName (codes "Fresh1")
first_name = (1, omega arith, ap (λ ds. codes "Fresh" ++ ds) (sym one_digit))

second_name : IsFreshName (codes "Fresh2")
second_name = (2, omega arith, ap (λ ds. codes "Fresh" ++ ds) (sym two_digit))

-- ---- one step from vg

-- after the step stands vh(k)
after_vg : (c later : Value) → c ≡ vg_value → StepsIn toys 1 c later → (k : ℤ) × (later ≡ vh_value k)
after_vg c later e s =
    let k : (k : ℤ) × (s.0 ≡ vh_value k) = (vg_steps_exactly s.0).0 (subst (λ c. Steps toys c s.0) e s.1) in
    (k.0, s.2 ∙ k.1)

back_turn : HasTurn toys back_rule vg_value
back_turn = record { fires = ((λ y. vg_value), record { sorts = tt; matches = refl; condition = tt }); none_before = none_before vg_value }

vg_not_final : ¬ IsFinal toys vg_value
vg_not_final f = elim f [ inl u ↦ vg_known u | inr n ↦ n.1.1.1.1.1.1.1.1.1.0 back_turn.fires ]

-- over the valuation of s the instances of vh(q) are all vh(k), where q is a new variable
over_vh : (v : Valuation) (later : Value) (k : ℤ) → later ≡ vh_value k → IsOver toys_signature vg v (vh_of fresh) later
over_vh v later k e = record {
  chosen = assigned v (codes "Fresh1") (whole k);
  agrees = λ y h. off_one (codes "Fresh1") y (whole k) v h;
  sorts = (int_has_sort k, tt);
  met = record { term = e; predicates = tt };
}

one_step : Leads toys vg (vh_of fresh) 1
one_step = record {
  found = λ v c given met later steps. let k : (k : ℤ) × (later ≡ vh_value k) = after_vg c later met.term steps in over_vh v later k.0 k.1;
  only = λ v later sorts over.
      let k : (k : ℤ) × (over.chosen (codes "Fresh1") ≡ whole k) = int_values (over.chosen (codes "Fresh1")) over.sorts.0 in
      (vg_value, record { term = refl; predicates = tt }, (later, (vg_steps_exactly later).1 (k.0, over.met.term ∙ ap on_vh k.1), refl));
  names = ((first_name, refl), tt);
}

false_true : false ≡ true → ⊥
false_true e = cc

pub new_variable : IsRightExecuted toys (to_bound 1) vg (record { depth = 1; reason = depth_bound; state = vh_of fresh })
new_variable = record {
  within_bound = omega arith;
  runs = (
    one_step,
    record {
      not_final = λ v c given met n later less steps. not_final n c later less met.term steps;
      none_listed = λ v c given met n later less steps. ((λ e. absurd (false_true e)), ((λ e. absurd (false_true e)), ((λ e. absurd (false_true e)), ((λ e. absurd (false_true e)), ((λ e. absurd (false_true e)), ((λ e. absurd (false_true e)), ((λ e. absurd (false_true e)), ((λ e. absurd (false_true e)), ((λ e. absurd (false_true e)), ((λ e. absurd (false_true e)), tt))))))))));
    },
  );
  reached = λ n e. record { valuation = λ y. vg_value; configuration = vg_value; given = (tt, tt); met = record { term = refl; predicates = tt }; such = (vg_value, subst (λ n. StepsIn toys n vg_value vg_value) (zero_before n e) refl) };
  computed = computed_by_test toys_signature (subpatterns (vh_of fresh)) refl;
  reason = (refl, λ decided. record { valuation = λ y. whole (pos 0); configuration = vh_value (pos 0); given = ((int_has_sort (pos 0), tt), (tt, tt)); met = record { term = refl; predicates = tt }; such = tt });
}
  where
    not_final : (n : ℕ) (c later : Value) → n < 1 → c ≡ vg_value → StepsIn toys n c later → ¬ IsFinal toys later
    not_final zero c later less e s f = vg_not_final (subst (IsFinal toys) (s ∙ e) f)
    not_final (suc n) c later less e s f = absurd (omega arith)

    zero_before : (n : ℕ) → 1 ≡ suc n → 0 ≡ n
    zero_before n e = omega arith

-- Y is no name for it
other_letter : (xs : Text) → codes "Y" ≡ codes "Fresh" ++ xs → ⊥
other_letter xs e = cc

no_fresh_name : IsFreshName (codes "Y") → ⊥
no_fresh_name f = other_letter (decimal f.0) f.2

pub other_name : ¬ IsRightExecuted toys (to_bound 1) vg (record { depth = 1; reason = depth_bound; state = vh_of y })
other_name r = no_fresh_name r.runs.0.names.0.0

-- ---- the request is vf(Fresh1), the state vg

divided : (v : Valuation) (case : Option Text) → IsCase toys case vg_value → OfOneAlone (λ n. (n.rule ≡ case) × IsTrueOver toys_signature vg v n.predicate) (back_to another ∷ [])
divided v (Some id) h =
    let a : (back_rule.id ≡ id) × HasTurn toys back_rule vg_value = only_back (λ r. (r.id ≡ id) × HasTurn toys r vg_value) (λ r a. a.1.fires) h in
    inl ((ap Some a.0, record { chosen = v; agrees = λ y _. refl; sorts = tt; holds = tt }), tt)
divided v None h = absurd (h.1.1.1.1.1.1.1.1.1.0 back_turn.fires)

back_case : IsCase toys (Some (codes "TOYS.back")) vg_value
back_case = inr (inr (inr (inr (inr (inr (inr (inr (inr (inl (refl, back_turn))))))))))

-- over the valuation of vg the instances of vh(Fresh2) are all vh(k)
over_another : (v : Valuation) (next : Value) (k : ℤ) → next ≡ vh_value k → IsOver toys_signature vg v (vh_of another) next
over_another v next k e = record {
  chosen = assigned v (codes "Fresh2") (whole k);
  agrees = λ y h. off_one (codes "Fresh2") y (whole k) v h;
  sorts = (int_has_sort k, tt);
  met = record { term = e; predicates = tt };
}

found : (v : Valuation) (next : Value) (case : Option Text) → GoesTo toys case vg_value next → AnyByRecursion (λ n. (n.rule ≡ case) × IsOver toys_signature vg v n.state next) (back_to another ∷ [])
found v next (Some id) h =
    let a : (back_rule.id ≡ id) × StepsBy toys back_rule vg_value next = only_back (λ r. (r.id ≡ id) × StepsBy toys r vg_value next) (λ r a. steps_fire r vg_value next a.1) h in
    let k : (k : ℤ) × (next ≡ vh_value k) = back_leads next a.1 in
    inl (ap Some a.0, over_another v next k.0 k.1)
found v next None h = absurd (h.0.1.1.1.1.1.1.1.1.1.0 back_turn.fires)

goes_back : (next : Value) (k : ℤ) → next ≡ vh_value k → GoesTo toys (Some (codes "TOYS.back")) vg_value next
goes_back next k e = inr (inr (inr (inr (inr (inr (inr (inr (inr (inl (refl, subst (StepsBy toys back_rule vg_value) (sym e) (vg_step k)))))))))))

pub new_to_the_request : AreNextStates toys (vf_of fresh) vg (back_to another ∷ [])
new_to_the_request = record {
  parts = record {
    divided = λ v c given met case h. divided v case (subst (IsCase toys case) met.term h);
    only = ((λ v c given met o. subst (IsCase toys (Some (codes "TOYS.back"))) (sym met.term) back_case), tt);
    held = (
      record {
        valuation = λ y. whole (pos 0);
        configuration = vg_value;
        given = (tt, ((int_has_sort (pos 0), tt), tt));
        met = record { term = refl; predicates = tt };
        such = record { chosen = λ y. whole (pos 0); agrees = λ y _. refl; sorts = tt; holds = tt };
      },
      tt,
    );
  };
  follow = record {
    found = λ v c given met case next h. found v next case (subst (λ c. GoesTo toys case c next) met.term h);
    only = (
      (λ v next given o.
          let k : (k : ℤ) × (o.chosen (codes "Fresh2") ≡ whole k) = int_values (o.chosen (codes "Fresh2")) o.sorts.0 in
          (vg_value, record { term = refl; predicates = tt }, goes_back next k.0 (o.met.term ∙ ap on_vh k.1))),
      tt,
    );
  };
  names = ((((second_name, refl), tt), tt), tt);
  predicates = (refl, tt);
  one_sort = (one_sort_by sort_int (spoken_of vg (back_to another)) (refl, tt), tt);
}

true_false : true ≡ false → ⊥
true_false e = cc

pub name_of_the_request : ¬ AreNextStates toys (vf_of fresh) vg (back_to fresh ∷ [])
name_of_the_request n = true_false n.names.0.0.0.1

-- ---- what is kept is no new variable

pub kept_and_not_new : ¬ AreNextStates keeping (vf_of x) (vf_of x) (kept_as fresh ∷ [])
kept_and_not_new n =
    let v : Valuation = λ y. whole (pos 0) in
    let over : IsOver toys_signature (vf_of x) v (vh_of fresh) (vh_value (pos 1)) =
    record { chosen = assigned v (codes "Fresh1") (whole (pos 1)); agrees = λ y h. off_one (codes "Fresh1") y (whole (pos 1)) v h; sorts = (int_has_sort (pos 1), tt); met = record { term = refl; predicates = tt } } in
    let from : (c : Value) × IsInstance toys_signature v (vf_of x) c × GoesTo keeping (Some (codes "S.keep")) c (vh_value (pos 1)) =
    n.follow.only.0 v (vh_value (pos 1)) ((int_has_sort (pos 0), tt), ((int_has_sort (pos 0), tt), tt)) over in
    elim (subst (λ c. GoesTo keeping (Some (codes "S.keep")) c (vh_value (pos 1))) from.1.term from.2) [
      | inl a ↦ differ (vh_value (pos 1)) (vh_value (pos 0)) refl (keeps (whole (pos 0)) (vh_value (pos 1)) (inl a.1))
      | inr a ↦ a
    ]
