-- A claim that holds and one that doesn't.
use Rattle.std.proofs.Common.{◌≡◌, refl, sym, ◌∙◌, ap, subst, inl, inr, List, [], ◌∷◌, ℤ, pos, arith}
use Rattle.std.specs.Prelude.{codes}
use Rattle.kp_kore.specs.Value.{Value, whole, constructed, no_values, next_value}
use Rattle.kp_kore.specs.Instance.{Valuation, assigned, instance}
use Rattle.kp_kore.specs.Steps.{Steps, IsFinal, IsUnknown, Fires, IsCompleteRun}
use Rattle.kp_kore.specs.Claims.{Holds, IsReached, Misses}
use Rattle.kp_toys.specs.ToysTheory.{toys, toys_signature, van_rule}
use Rattle.kp_toys.specs.ToysValues.{vf_value, vg_value, vh_value}
use Rattle.kp_toys.specs.ToysClaims.{back_to_start, back_somewhere}
use Rattle.kp_toys.proofs.Matching.{not_by, other_head, int_has_sort, known, texts_differ, none_before, vg_steps, differ}
use Rattle.kp_toys.proofs.Choosing.{vg_steps_exactly}
use Rattle.kp_toys.proofs.Sorts.{int_values}

-- ---- vf

vf_known : (k : ℤ) → ¬ IsUnknown toys (vf_value k)
vf_known k = known (vf_value k) (λ s. texts_differ (codes "Lblvf") (codes "Lblodd") refl s.1.0)

vf_fires : (k : ℤ) → Fires toys_signature van_rule.body (vf_value k)
vf_fires k = ((λ x. whole k), record { sorts = (int_has_sort k, tt); matches = refl; condition = tt })

vf_steps : (k : ℤ) → Steps toys (vf_value k) vg_value
vf_steps k = inr (inr (inr (inr (inr (inr (inr (inr (inl (record {
  known = vf_known k;
  none_before = none_before (vf_value k);
  rewrites = (
    (λ x. whole k),
    record { sorts = (int_has_sort k, tt); matches = refl; condition = tt },
    record { chosen = λ x. whole k; agrees = λ x _. refl; sorts = tt; ensured = tt; result = refl },
  );
})))))))))

vf_steps_to : (k : ℤ) (next : Value) → Steps toys (vf_value k) next → next ≡ vg_value
vf_steps_to k next s = elim s [
  | inl a ↦ absurd (not_by _ _ _ (vf_value k) next (λ v. refl) a)
  | inr s ↦ elim s [
    | inl a ↦ absurd (not_by _ _ _ (vf_value k) next (λ v. refl) a)
    | inr s ↦ elim s [
      | inl a ↦ absurd (not_by _ _ _ (vf_value k) next (λ v. refl) a)
      | inr s ↦ elim s [
        | inl a ↦ absurd (not_by _ _ _ (vf_value k) next (λ v. refl) a)
        | inr s ↦ elim s [
          | inl a ↦ absurd (not_by _ _ _ (vf_value k) next (λ v. refl) a)
          | inr s ↦ elim s [
            | inl a ↦ absurd (not_by _ _ _ (vf_value k) next (λ v. refl) a)
            | inr s ↦ elim s [
              | inl a ↦ absurd (a.rewrites)
              | inr s ↦ elim s [
                | inl a ↦ absurd (not_by _ _ _ (vf_value k) next (λ v. refl) a)
                | inr s ↦ elim s [
                  | inl a ↦ a.rewrites.2.result
                  | inr s ↦ elim s [
                    | inl a ↦ absurd (not_by _ _ _ (vf_value k) next (λ v. refl) a)
                    | inr s ↦ absurd s
                  ]
                ]
              ]
            ]
          ]
        ]
      ]
    ]
  ]
]

vf_not_final : (k : ℤ) → ¬ IsFinal toys (vf_value k)
vf_not_final k f = elim f [ inl u ↦ vf_known k u | inr n ↦ n.1.1.1.1.1.1.1.1.0 (vf_fires k) ]

vg_known : ¬ IsUnknown toys vg_value
vg_known = known vg_value (λ s. texts_differ (codes "Lblvg") (codes "Lblodd") refl s.1.0)

vg_not_final : ¬ IsFinal toys vg_value
vg_not_final f = elim f [ inl u ↦ vg_known u | inr n ↦ n.1.1.1.1.1.1.1.1.1.0 ((λ x. vg_value), record { sorts = tt; matches = refl; condition = tt }) ]

-- no rule fires on vh(k)
vh_final : (k : ℤ) → IsFinal toys (vh_value k)
vh_final k = inr (
  (λ f. other_head _ (vh_value k) (λ v. refl) f),
  (
    (λ f. other_head _ (vh_value k) (λ v. refl) f),
    (
      (λ f. other_head _ (vh_value k) (λ v. refl) f),
      (
        (λ f. other_head _ (vh_value k) (λ v. refl) f),
        (
          (λ f. other_head _ (vh_value k) (λ v. refl) f),
          (
            (λ f. other_head _ (vh_value k) (λ v. refl) f),
            (
              (λ f. f),
              (
                (λ f. other_head _ (vh_value k) (λ v. refl) f),
                (
                  (λ f. other_head _ (vh_value k) (λ v. refl) f),
                  ((λ f. other_head _ (vh_value k) (λ v. refl) f), tt),
                ),
              ),
            ),
          ),
        ),
      ),
    ),
  ),
)

-- ---- vf(X) to vh(X) doesn't hold: from vf(0) a run ends at vh(1)

pub not_back_to_start : ¬ Holds toys back_to_start
not_back_to_start holds =
    holds 2 (λ x. whole (pos 0)) (vf_value (pos 0)) (vg_value ∷ vh_value (pos 1) ∷ [])
    (int_has_sort (pos 0), tt)
    (record { term = refl; predicates = tt })
    (vf_steps (pos 0), (vg_steps (pos 1), vh_final (pos 1)))
    (omega arith) (
      (λ r. differ (vf_value (pos 0)) (instance toys_signature r.chosen back_to_start.right) refl r.met.term),
      (
        (λ r. differ vg_value (instance toys_signature r.chosen back_to_start.right) refl r.met.term),
        (
          (λ r. differ (vh_value (pos 1)) (vh_value (pos 0)) refl (r.met.term ∙ ap (λ u. constructed (codes "Lblvh") (next_value u no_values)) r.agrees.0)),
          tt,
        ),
      ),
    )

-- ---- vf(X) to vh(Y) holds

-- the value of X is a whole number, so the start is vf(k)
under_vf : (v : Valuation) (k : ℤ) → v (codes "X") ≡ whole k → constructed (codes "Lblvf") (next_value (v (codes "X")) no_values) ≡ vf_value k
under_vf v k e = ap (λ u. constructed (codes "Lblvf") (next_value u no_values)) e

reached_at : (v : Valuation) (k : ℤ) → IsReached toys_signature back_somewhere v (vh_value k)
reached_at v k = record {
  chosen = assigned v (codes "Y") (whole k);
  agrees = (refl, tt);
  sorts = (int_has_sort k, tt);
  met = record { term = refl; predicates = tt };
}

-- from vg no complete run misses vh
from_vg : (v : Valuation) (c : Value) (more : List Value) → c ≡ vg_value → IsCompleteRun toys c more → ¬ Misses toys_signature back_somewhere v (c ∷ more)
from_vg v c [] e f misses = vg_not_final (subst (IsFinal toys) e f)
from_vg v c (next ∷ more) e run misses =
    let p : (k : ℤ) × (next ≡ vh_value k) = (vg_steps_exactly next).0 (subst (λ c. Steps toys c next) e run.0) in
    misses.1.0 (subst (IsReached toys_signature back_somewhere v) (sym p.1) (reached_at v p.0))

from_vf : (v : Valuation) (k : ℤ) (c : Value) (more : List Value) → c ≡ vf_value k → IsCompleteRun toys c more → ¬ Misses toys_signature back_somewhere v (c ∷ more)
from_vf v k c [] e f misses = vf_not_final k (subst (IsFinal toys) e f)
from_vf v k c (next ∷ more) e run misses = from_vg v next more (vf_steps_to k next (subst (λ c. Steps toys c next) e run.0)) run.1 misses.1

pub back_somewhere_holds : Holds toys back_somewhere
back_somewhere_holds n v c more sorts met run within =
    let p : (k : ℤ) × (v (codes "X") ≡ whole k) = int_values (v (codes "X")) sorts.0 in
    from_vf v p.0 c more (met.term ∙ under_vf v p.0 p.1) run
