-- What the rules of the example do at given configurations.
use Rattle.std.proofs.Common.{◌≡◌, refl, sym, ◌∙◌, ap, subst, ◌⊎◌, inl, inr, true, false, List, [], ◌∷◌, ℤ, pos, ◌↔◌, ℕ, ◌<◌, arith}
use Rattle.std.specs.Prelude.{codes, Some}
use Rattle.std.specs.Str.{bytes_eq}
use Rattle.std.proofs.lemmas.Slice.Eq.{bytes_eq-Decides}
use Rattle.kp_kore.specs.Syntax.{Text}
use Rattle.kp_kore.specs.Signature.{itself}
use Rattle.kp_kore.specs.Hooks.{whole_arithmetic, subtraction, whole_comparison, equal, greater}
use Rattle.kp_kore.specs.Value.{Value, whole, truth, constructed, no_values, next_value, values_same, HasSort}
use Rattle.kp_kore.specs.Interpretation.{interpreted}
use Rattle.kp_kore.specs.Instance.{Valuation, instance}
use Rattle.kp_kore.specs.Foreign.{IsSkeletonInstance}
use Rattle.kp_kore.specs.Rules.{Rewrite, RewriteRule, RuleBody, rewrite, foreign_rule}
use Rattle.kp_kore.specs.Steps.{Fires, IsUnknown, Steps, StepsBy, NoneBefore, Rewrites, IsFinal, NoneFires, AnyByRecursion}
use Rattle.kp_kore.proofs.SameLemmas.{same_values_decide}
use Rattle.kp_toys.specs.Toys.{n, sort_int, sort_s, call}
use Rattle.kp_toys.specs.ToysTheory.{toys, toys_signature, dec_rule, stop_rule, back_rule}
use Rattle.kp_toys.specs.ToysValues.{count, done_value, odd, vg_value, vh_value}

pub false_true : false ≡ true → ⊥
false_true e = cc

-- values that the test tells apart differ, and so do texts
pub differ : (u v : Value) → values_same u v ≡ false → u ≡ v → ⊥
differ u v h e = false_true (sym h ∙ (same_values_decide u v).1 e)

pub texts_differ : (x y : Text) → bytes_eq x y ≡ false → x ≡ y → ⊥
texts_differ x y h e = false_true (sym h ∙ (bytes_eq-Decides x y).1 e)

-- ---- rules that don't fire

-- a rule whose left term has another head than the configuration
pub other_head : (r : Rewrite) (c : Value) → ((v : Valuation) → values_same (instance toys_signature v r.left) c ≡ false) → Fires toys_signature (rewrite r) c → ⊥
other_head r c h f = differ (instance toys_signature f.0 r.left) c (h f.0) f.1.matches

-- a rule that rewrites fires
fires_first : (b : RuleBody) (c next : Value) → Rewrites toys_signature b c next → Fires toys_signature b c
fires_first (rewrite r) c next w = (w.0, w.1)
fires_first (foreign_rule l) c next w = absurd w

-- what steps by a rule fires
pub steps_fire : (r : RewriteRule) (c next : Value) → StepsBy toys r c next → Fires toys_signature r.body c
steps_fire r c next s = fires_first r.body c next s.rewrites

-- all rules have the same priority
pub none_before : (c : Value) → NoneBefore toys 50 c
none_before c = (never, (never, (never, (never, (never, (never, (never, (never, (never, (never, tt))))))))))
  where
    never : {B : Type 0} → 50 < 50 → ¬ B
    never lt f = omega arith

-- only odd(..) is unknown
pub known : (c : Value) → (IsSkeletonInstance toys_signature (record { sort = sort_s; term = Some (call (codes "Lblodd") (n ∷ [])) }) c → ⊥) → ¬ IsUnknown toys c
known c h u = elim u [ inl a ↦ a | inr u ↦ elim u [ inl a ↦ a | inr u ↦ elim u [ inl a ↦ a | inr u ↦ elim u [ inl a ↦ a | inr u ↦ elim u [ inl a ↦ a | inr u ↦ elim u [ inl a ↦ a | inr u ↦ elim u [ inl a ↦ h a | inr u ↦ elim u [ inl a ↦ a | inr u ↦ elim u [ inl a ↦ a | inr u ↦ elim u [ inl a ↦ a | inr u ↦ u ] ] ] ] ] ] ] ] ] ]

pub count_known : (k : ℤ) → ¬ IsUnknown toys (count k)
count_known k = known (count k) (λ s. texts_differ (codes "Lblcount") (codes "Lblodd") refl s.1.0)

-- ---- count

-- what stands under count
pub under_count : (u : Value) (k : ℤ) → constructed (codes "Lblcount") (next_value u no_values) ≡ count k → u ≡ whole k
under_count u k e = cc

pub int_has_sort : (k : ℤ) → HasSort toys_signature sort_int (whole k)
int_has_sort k = (sort_int, refl, itself sort_int)

-- count(k) for the number of a call
abbrev pub counted : Value → Value
counted u = constructed (codes "Lblcount") (next_value u no_values)

unfoldable pub minus_one : Value → Value
minus_one u = interpreted (whole_arithmetic subtraction) (next_value u (next_value (whole (pos 1)) no_values))

-- dec leads from count(k) to count(k - 1)
pub dec_leads : (k : ℤ) (next : Value) → StepsBy toys dec_rule (count k) next → next ≡ counted (minus_one (whole k))
unfolding minus_one
dec_leads k next s =
    let u : s.rewrites.0 (codes "N") ≡ whole k = under_count (s.rewrites.0 (codes "N")) k s.rewrites.1.matches in
    let w : s.rewrites.2.chosen (codes "N") ≡ whole k = s.rewrites.2.agrees (codes "N") refl ∙ u in
    s.rewrites.2.result ∙ ap (λ x. counted (interpreted (whole_arithmetic subtraction) (next_value x (next_value (whole (pos 1)) no_values)))) w

-- dec fires on count(k) only where k > 0, stop only where k = 0
pub dec_condition : (k : ℤ) → Fires toys_signature dec_rule.body (count k) → interpreted (whole_comparison greater) (next_value (whole k) (next_value (whole (pos 0)) no_values)) ≡ truth true
dec_condition k f =
    let u : f.0 (codes "N") ≡ whole k = under_count (f.0 (codes "N")) k f.1.matches in
    subst (λ x. interpreted (whole_comparison greater) (next_value x (next_value (whole (pos 0)) no_values)) ≡ truth true) u f.1.condition.0

pub stop_condition : (k : ℤ) → Fires toys_signature stop_rule.body (count k) → interpreted (whole_comparison equal) (next_value (whole k) (next_value (whole (pos 0)) no_values)) ≡ truth true
stop_condition k f =
    let u : f.0 (codes "N") ≡ whole k = under_count (f.0 (codes "N")) k f.1.matches in
    subst (λ x. interpreted (whole_comparison equal) (next_value x (next_value (whole (pos 0)) no_values)) ≡ truth true) u f.1.condition.0

pub falsehood : truth false ≡ truth true → ⊥
falsehood e = cc

-- a step by a rule whose left term has another head
pub not_by : (r : Rewrite) (id : Text) (priority : ℕ) (c next : Value) → ((v : Valuation) → values_same (instance toys_signature v r.left) c ≡ false) → StepsBy toys (record { id = id; priority = priority; body = rewrite r }) c next → ⊥
not_by r id priority c next h s = other_head r c h (s.rewrites.0, s.rewrites.1)

-- the rules but dec and stop don't fire on count(k)
count_steps : (k : ℤ) (next : Value) → Steps toys (count k) next → StepsBy toys dec_rule (count k) next ⊎ StepsBy toys stop_rule (count k) next
count_steps k next s = elim s [
  | inl a ↦ inl a
  | inr s ↦ elim s [
    | inl a ↦ inr a
    | inr s ↦ elim s [
      | inl a ↦ absurd (not_by _ _ _ (count k) next (λ v. refl) a)
      | inr s ↦ elim s [
        | inl a ↦ absurd (not_by _ _ _ (count k) next (λ v. refl) a)
        | inr s ↦ elim s [
          | inl a ↦ absurd (not_by _ _ _ (count k) next (λ v. refl) a)
          | inr s ↦ elim s [
            | inl a ↦ absurd (not_by _ _ _ (count k) next (λ v. refl) a)
            | inr s ↦ elim s [
              | inl a ↦ absurd (a.rewrites)
              | inr s ↦ elim s [
                | inl a ↦ absurd (not_by _ _ _ (count k) next (λ v. refl) a)
                | inr s ↦ elim s [
                  | inl a ↦ absurd (not_by _ _ _ (count k) next (λ v. refl) a)
                  | inr s ↦ elim s [
                    | inl a ↦ absurd (not_by _ _ _ (count k) next (λ v. refl) a)
                    | inr s ↦ absurd s
                  ]
                ]
              ]
            ]
          ]
        ]
      ]
    ]
  ]
]

-- dec steps from count(k) where k > 0, stop where k = 0
pub dec_step : (k : ℤ) (next : Value) → interpreted (whole_comparison greater) (next_value (whole k) (next_value (whole (pos 0)) no_values)) ≡ truth true → next ≡ counted (minus_one (whole k)) → StepsBy toys dec_rule (count k) next
unfolding minus_one
dec_step k next positive e = record {
  known = count_known k;
  none_before = none_before (count k);
  rewrites = (
    (λ x. whole k),
    record { sorts = (int_has_sort k, tt); matches = refl; condition = (positive, tt) },
    record { chosen = λ x. whole k; agrees = λ x _. refl; sorts = tt; ensured = tt; result = e },
  );
}

pub stop_step : (k : ℤ) (next : Value) → interpreted (whole_comparison equal) (next_value (whole k) (next_value (whole (pos 0)) no_values)) ≡ truth true → next ≡ done_value → StepsBy toys stop_rule (count k) next
stop_step k next zero e = record {
  known = count_known k;
  none_before = none_before (count k);
  rewrites = (
    (λ x. whole k),
    record { sorts = (int_has_sort k, tt); matches = refl; condition = (zero, tt) },
    record { chosen = λ x. whole k; agrees = λ x _. refl; sorts = tt; ensured = tt; result = e },
  );
}

dec_steps : (k : ℤ) (next : Value) → interpreted (whole_comparison greater) (next_value (whole k) (next_value (whole (pos 0)) no_values)) ≡ truth true → next ≡ counted (minus_one (whole k)) → Steps toys (count k) next
dec_steps k next positive e = inl (dec_step k next positive e)

stop_steps : (next : Value) → next ≡ done_value → Steps toys (count (pos 0)) next
stop_steps next e = inr (inl (stop_step (pos 0) next refl e))

-- count(2) steps to count(1) alone
pub count_two : (next : Value) → Steps toys (count (pos 2)) next ↔ (next ≡ count (pos 1))
unfolding minus_one
count_two next = (
  (λ s. elim (count_steps (pos 2) next s) [
    | inl a ↦ dec_leads (pos 2) next a
    | inr a ↦ absurd (falsehood (stop_condition (pos 2) (a.rewrites.0, a.rewrites.1)))
  ]),
  (λ e. dec_steps (pos 2) next refl e),
)

-- count(1) steps to count(0) alone
pub count_one : (next : Value) → Steps toys (count (pos 1)) next ↔ (next ≡ count (pos 0))
unfolding minus_one
count_one next = (
  (λ s. elim (count_steps (pos 1) next s) [
    | inl a ↦ dec_leads (pos 1) next a
    | inr a ↦ absurd (falsehood (stop_condition (pos 1) (a.rewrites.0, a.rewrites.1)))
  ]),
  (λ e. dec_steps (pos 1) next refl e),
)

-- count(k) isn't final where a rule fires
pub dec_fires : (k : ℤ) → interpreted (whole_comparison greater) (next_value (whole k) (next_value (whole (pos 0)) no_values)) ≡ truth true → Fires toys_signature dec_rule.body (count k)
dec_fires k positive = ((λ x. whole k), record { sorts = (int_has_sort k, tt); matches = refl; condition = (positive, tt) })

pub stop_fires_at : (k : ℤ) → interpreted (whole_comparison equal) (next_value (whole k) (next_value (whole (pos 0)) no_values)) ≡ truth true → Fires toys_signature stop_rule.body (count k)
stop_fires_at k zero = ((λ x. whole k), record { sorts = (int_has_sort k, tt); matches = refl; condition = (zero, tt) })

pub stop_fires : Fires toys_signature stop_rule.body (count (pos 0))
stop_fires = stop_fires_at (pos 0) refl

pub positive_not_final : (k : ℤ) → interpreted (whole_comparison greater) (next_value (whole k) (next_value (whole (pos 0)) no_values)) ≡ truth true → ¬ IsFinal toys (count k)
positive_not_final k positive f = elim f [ inl u ↦ count_known k u | inr n ↦ n.0 (dec_fires k positive) ]

pub zero_not_final : ¬ IsFinal toys (count (pos 0))
zero_not_final f = elim f [ inl u ↦ count_known (pos 0) u | inr n ↦ n.1.0 stop_fires ]

-- count(0) steps to done alone
pub count_zero : (next : Value) → Steps toys (count (pos 0)) next ↔ (next ≡ done_value)
count_zero next = (
  (λ s. elim (count_steps (pos 0) next s) [
    | inl a ↦ absurd (falsehood (dec_condition (pos 0) (a.rewrites.0, a.rewrites.1)))
    | inr a ↦ a.rewrites.2.result
  ]),
  (λ e. stop_steps next e),
)

-- no rule fires on done
pub done_fires_none : NoneFires toys done_value
done_fires_none = (
  (λ f. other_head _ done_value (λ v. refl) f),
  (
    (λ f. other_head _ done_value (λ v. refl) f),
    (
      (λ f. other_head _ done_value (λ v. refl) f),
      (
        (λ f. other_head _ done_value (λ v. refl) f),
        (
          (λ f. other_head _ done_value (λ v. refl) f),
          (
            (λ f. other_head _ done_value (λ v. refl) f),
            (
              (λ f. f),
              (
                (λ f. other_head _ done_value (λ v. refl) f),
                (
                  (λ f. other_head _ done_value (λ v. refl) f),
                  ((λ f. other_head _ done_value (λ v. refl) f), tt),
                ),
              ),
            ),
          ),
        ),
      ),
    ),
  ),
)

pub done_known : ¬ IsUnknown toys done_value
done_known = known done_value (λ s. texts_differ (codes "Lbldone") (codes "Lblodd") refl s.1.0)

-- odd(k) is an instance of the foreign rule's left term
pub odd_unknown : (k : ℤ) → IsUnknown toys (odd k)
odd_unknown k = inr (inr (inr (inr (inr (inr (inl ((λ x. whole k), (refl, ((refl, int_has_sort k), tt)))))))))

-- ---- vg

pub vg_known : ¬ IsUnknown toys vg_value
vg_known = known vg_value (λ s. texts_differ (codes "Lblvg") (codes "Lblodd") refl s.1.0)

pub vg_step : (k : ℤ) → StepsBy toys back_rule vg_value (vh_value k)
vg_step k = record {
  known = vg_known;
  none_before = none_before vg_value;
  rewrites = (
    (λ x. whole k),
    record { sorts = tt; matches = refl; condition = tt },
    record { chosen = λ x. whole k; agrees = λ x _. refl; sorts = (int_has_sort k, tt); ensured = tt; result = refl },
  );
}

pub vg_steps : (k : ℤ) → Steps toys vg_value (vh_value k)
vg_steps k = inr (inr (inr (inr (inr (inr (inr (inr (inr (inl (vg_step k))))))))))

pub done_final : IsFinal toys done_value
done_final = inr done_fires_none

pub odd_final : (k : ℤ) → IsFinal toys (odd k)
odd_final k = inl (odd_unknown k)

-- an unknown configuration steps nowhere
no_step_if_unknown : (rules : List RewriteRule) (c next : Value) → IsUnknown toys c → AnyByRecursion (λ r. StepsBy toys r c next) rules → ⊥
no_step_if_unknown [] c next u s = s
no_step_if_unknown (r ∷ rules) c next u s = elim s [ inl a ↦ a.known u | inr b ↦ no_step_if_unknown rules c next u b ]

pub odd_steps_nowhere : (k : ℤ) (next : Value) → ¬ Steps toys (odd k) next
odd_steps_nowhere k next s = no_step_if_unknown toys.rules (odd k) next (odd_unknown k) s
