-- One row more of a round.
use Rattle.std.proofs.Common.{◌≡◌, ◌≢◌, refl, sym, ◌∙◌, ap, subst, arith, ◌<◌, ◌≤◌, ℕ, suc, ◌⊎◌, inl, inr}
use Rattle.kp_diff.specs.Bounds.{narrower, summed}
use Rattle.kp_diff.specs.Rows.{Rows, bound_in, eliminated, IsSound, IsSquare, IsRowUpTo, IsRoundUpTo}
use Rattle.kp_diff.proofs.RowSteps.{sound_before, same_or_not, before_or_not}

-- row k is as before, and so is each row's column k
pub row_k_kept : (n : ℕ) (before now : Rows) (k x : ℕ) → k < n → IsSound (bound_in before k k) → IsRoundUpTo n before now k x → (j : ℕ) → j < n → bound_in now k j ≡ bound_in before k j
row_k_kept n before now k x hk s r j hj = elim (before_or_not k x) [ inl h ↦ r.done k j h hk hj ∙ sound_before (bound_in before k j) (bound_in before k k) s | inr h ↦ r.left k j h ]

pub sound_kept : (n : ℕ) (before now : Rows) (k x : ℕ) → k < n → IsSound (bound_in before k k) → IsRoundUpTo n before now k x → IsSound (bound_in now k k)
sound_kept n before now k x hk s r = subst (λ o. IsSound o) (sym (row_k_kept n before now k x hk s r k hk)) s

pub round_begins : (n : ℕ) (rows : Rows) (k : ℕ) → IsSquare n rows → IsRoundUpTo n rows rows k 0
round_begins n rows k q = record {
  square = q;
  done = λ i j h hi hj. absurd (none i h);
  left = λ i j h. refl;
}
  where
    none : (i : ℕ) → i < 0 → ⊥
    none i h = omega arith

pub round_step : (n : ℕ) (before now after : Rows) (k x : ℕ) → k < n → x < n → IsSound (bound_in before k k) → IsRoundUpTo n before now k x → IsRowUpTo n now after k x n → IsRoundUpTo n before after k (suc x)
round_step n before now after k x hk hx s r row = record {
  square = row.square;
  done = λ i j h hi hj. at_done i j h hi hj (same_or_not i x);
  left = λ i j h. row.others i j (beyond i h) ∙ r.left i j (less_than i h);
}
  where
    earlier : (i : ℕ) → i < suc x → i ≢ x → i < x
    earlier i h ne = by (before_or_not i x)
      where
        by : (i < x) ⊎ (x ≤ i) → i < x
        by (inl a) = a
        by (inr a) = absurd (ne (omega arith))

    same_most : (a : ℕ) → a ≤ a
    same_most a = omega arith

    is : (j : ℕ) → j < n → eliminated (bound_in now) k x j ≡ eliminated (bound_in before) k x j
    is j hj = ap (λ o. narrower o (summed (bound_in now x k) (bound_in now k j))) (r.left x j (same_most x)) ∙ ap (λ o. narrower (bound_in before x j) (summed o (bound_in now k j))) (r.left x k (same_most x)) ∙ ap (λ o. narrower (bound_in before x j) (summed (bound_in before x k) o)) (row_k_kept n before now k x hk s r j hj)

    at_done : (i j : ℕ) → i < suc x → i < n → j < n → (i ≡ x) ⊎ (i ≢ x) → bound_in after i j ≡ eliminated (bound_in before) k i j
    at_done i j h hi hj (inl e) = subst (λ z. bound_in after z j ≡ eliminated (bound_in before) k z j) (sym e) (row.done j hj ∙ is j hj)
    at_done i j h hi hj (inr ne) = row.others i j ne ∙ r.done i j (earlier i h ne) hi hj

    beyond : (i : ℕ) → suc x ≤ i → i ≢ x
    beyond i h e = absurd (not_so x (subst (λ z. suc x ≤ z) e h))
      where
        not_so : (a : ℕ) → suc a ≤ a → ⊥
        not_so a g = omega arith

    less_than : (i : ℕ) → suc x ≤ i → x ≤ i
    less_than i h = omega arith
