-- New variables, ensured conditions and priorities.
use Rattle.std.proofs.Common.{◌≡◌, refl, sym, ◌∙◌, ap, subst, inl, inr, Bool, true, false, [], ℤ, ◌↔◌, arith, pos, ◌∷◌}
use Rattle.std.specs.Prelude.{codes}
use Rattle.kp_kore.specs.Value.{Value, whole, constructed, no_values, next_value}
use Rattle.std.specs.Prelude.{◌||◌}
use Rattle.std.specs.Str.{bytes_eq}
use Rattle.kp_kore.specs.Syntax.{Text}
use Rattle.kp_kore.specs.Instance.{Valuation, assigned}
use Rattle.kp_kore.specs.Steps.{StepsIn, Steps, StepsBy, IsFinal, IsUnknown, Fires, HasTurn}
use Rattle.kp_toys.specs.ToysTheory.{toys, toys_signature, back_rule}
use Rattle.kp_toys.specs.ToysValues.{vg_value, vh_value, lone_value, goal_value, made}
use Rattle.kp_toys.specs.SmallTheories.{two_priorities, blocked, choosing, shadowed, from_call, from_lone, goal_of_lone}
use Rattle.kp_toys.specs.ToysTheory.{done}
use Rattle.kp_toys.proofs.Matching.{texts_differ, not_by, int_has_sort, vg_steps}
use Rattle.kp_toys.proofs.Sorts.{int_values}

-- ---- vg

vg_steps_by_back : (next : Value) → Steps toys vg_value next → StepsBy toys back_rule vg_value next
vg_steps_by_back next s = elim s [
  | inl a ↦ absurd (not_by _ _ _ vg_value next (λ v. refl) a)
  | inr s ↦ elim s [
    | inl a ↦ absurd (not_by _ _ _ vg_value next (λ v. refl) a)
    | inr s ↦ elim s [
      | inl a ↦ absurd (not_by _ _ _ vg_value next (λ v. refl) a)
      | inr s ↦ elim s [
        | inl a ↦ absurd (not_by _ _ _ vg_value next (λ v. refl) a)
        | inr s ↦ elim s [
          | inl a ↦ absurd (not_by _ _ _ vg_value next (λ v. refl) a)
          | inr s ↦ elim s [
            | inl a ↦ absurd (not_by _ _ _ vg_value next (λ v. refl) a)
            | inr s ↦ elim s [
              | inl a ↦ absurd (a.rewrites)
              | inr s ↦ elim s [
                | inl a ↦ absurd (not_by _ _ _ vg_value next (λ v. refl) a)
                | inr s ↦ elim s [
                  | inl a ↦ absurd (not_by _ _ _ vg_value next (λ v. refl) a)
                  | inr s ↦ elim s [
                    | inl a ↦ a
                    | inr s ↦ absurd s
                  ]
                ]
              ]
            ]
          ]
        ]
      ]
    ]
  ]
]

-- the value chosen for Y is a whole number
pub back_leads : (next : Value) → StepsBy toys back_rule vg_value next → (k : ℤ) × (next ≡ vh_value k)
back_leads next s =
    let chosen : (k : ℤ) × (s.rewrites.2.chosen (codes "Y") ≡ whole k) = int_values (s.rewrites.2.chosen (codes "Y")) s.rewrites.2.sorts.0 in
    (chosen.0, s.rewrites.2.result ∙ ap (λ u. constructed (codes "Lblvh") (next_value u no_values)) chosen.1)

pub vg_steps_exactly : (next : Value) → Steps toys vg_value next ↔ ((k : ℤ) × (next ≡ vh_value k))
vg_steps_exactly next = (
  (λ s. back_leads next (vg_steps_by_back next s)),
  (λ p. subst (Steps toys vg_value) (sym p.1) (vg_steps p.0)),
)

-- ---- priorities

none_unknown_here : ¬ IsUnknown two_priorities lone_value
none_unknown_here u = elim u [ inl a ↦ a | inr u ↦ elim u [ inl a ↦ a | inr a ↦ a ] ]

late_fires : Fires toys_signature (from_lone 20 goal_of_lone []).body lone_value
late_fires = ((λ x. lone_value), record { sorts = tt; matches = refl; condition = tt })

-- the rule of 20 steps, the rule of 50 doesn't
pub smaller_number_steps : (next : Value) → Steps two_priorities lone_value next ↔ (next ≡ goal_value)
smaller_number_steps next = (
  (λ s. elim s [
    | inl a ↦ absurd (a.none_before.1.0 (omega arith) late_fires)
    | inr s ↦ elim s [ inl a ↦ a.rewrites.2.result | inr a ↦ absurd a ]
  ]),
  (λ e. inr (inl (record {
    known = none_unknown_here;
    none_before = ((λ lt f. omega arith), ((λ lt f. omega arith), tt));
    rewrites = (
      (λ x. lone_value),
      record { sorts = tt; matches = refl; condition = tt },
      record { chosen = λ x. lone_value; agrees = λ x _. refl; sorts = tt; ensured = tt; result = e },
    );
  }))),
)

pub only_the_smaller_has_its_turn : HasTurn two_priorities (from_lone 20 goal_of_lone []) lone_value × ¬ HasTurn two_priorities (from_lone 50 done []) lone_value
only_the_smaller_has_its_turn = (
  record { fires = late_fires; none_before = ((λ lt f. omega arith), ((λ lt f. omega arith), tt)) },
  (λ h. h.none_before.1.0 (omega arith) late_fires),
)

-- ---- an ensured condition that no choice meets

pub blocked_leads_nowhere : (next : Value) → ¬ Steps blocked lone_value next
blocked_leads_nowhere next s = elim s [ inl a ↦ a.rewrites.2.ensured.0 | inr a ↦ a ]

pub blocked_is_not_final : ¬ IsFinal blocked lone_value
blocked_is_not_final f = elim f [
  | inl u ↦ elim u [ inl a ↦ a | inr a ↦ a ]
  | inr n ↦ n.0 ((λ x. lone_value), record { sorts = tt; matches = refl; condition = tt })
]

-- ---- two steps by one rule

pub off_one : (x y : Text) (u : Value) (v : Valuation) → (bytes_eq x y || false) ≡ false → assigned v x u y ≡ v y
off_one x y u v h = by_test (bytes_eq x y) refl h
  where
    by_test : (b : Bool) → bytes_eq x y ≡ b → (b || false) ≡ false → assigned v x u y ≡ v y
    by_test true e h = absurd (cc)
    by_test false e h = rw e refl

pub chooses : (k m : ℤ) → Steps choosing (vh_value k) (vh_value m)
chooses k m = inl (record {
  known = λ u. elim u [ inl a ↦ a | inr a ↦ a ];
  none_before = ((λ lt f. omega arith), tt);
  rewrites = (
    (λ x. whole k),
    record { sorts = (int_has_sort k, tt); matches = refl; condition = tt },
    record { chosen = assigned (λ x. whole k) (codes "Y") (whole m); agrees = λ x h. off_one (codes "Y") x (whole m) (λ x. whole k) h; sorts = (int_has_sort m, tt); ensured = tt; result = refl },
  );
})

pub two_choices : StepsIn choosing 2 (vh_value (pos 0)) (vh_value (pos 2))
two_choices = (vh_value (pos 1), chooses (pos 0) (pos 1), (vh_value (pos 2), chooses (pos 1) (pos 2), refl))

-- ---- foreign rules

lone_unknown : IsUnknown shadowed lone_value
lone_unknown = inl ((λ x. lone_value), (refl, tt))

pub shadowed_steps_nowhere : (next : Value) → ¬ Steps shadowed lone_value next
shadowed_steps_nowhere next s = elim s [ inl a ↦ a.known lone_unknown | inr s ↦ elim s [ inl a ↦ a.known lone_unknown | inr a ↦ a ] ]

pub shadowed_is_final : IsFinal shadowed lone_value
shadowed_is_final = inl lone_unknown

-- whatever stands for the call
pub call_is_any_number : (k : ℤ) → IsUnknown from_call (made (codes "Lblcount") (whole k ∷ []))
call_is_any_number k = inl ((λ x. whole k), (refl, (int_has_sort k, tt)))

pub call_is_no_other_head : ¬ IsUnknown from_call lone_value
call_is_no_other_head u = elim u [ inl a ↦ texts_differ (codes "Lbllone") (codes "Lblcount") refl a.1.0 | inr a ↦ a ]
