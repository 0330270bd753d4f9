-- One round more of the elimination: what the rounds so far have kept and made.
use Rattle.std.proofs.Common.{◌≡◌, refl, sym, ◌∙◌, ap, subst, arith, [], get_or, ◌<◌, ◌≤◌, ◌+◌, ℕ, suc, ℤ, Option, Some, None, ◌⊎◌, inl, inr, ◌↔◌}
use Rattle.std.proofs.lemmas.List.{get_or_past}
use Rattle.kp_diff.specs.Bounds.{Bounds, Meets, IsClosed, summed, narrower, HasBits, HaveBits}
use Rattle.kp_diff.specs.Rows.{Rows, bound_in, eliminated, IsSound, IsSquare, IsRoundUpTo}
use Rattle.kp_diff.proofs.Closure.{ClosedAt, closes, stays_closed}
use Rattle.kp_diff.proofs.RowSteps.{before_or_not}
use Rattle.kp_diff.proofs.Sizes.{bits_round, bits_more}
use Rattle.kp_diff.proofs.Values.{round_keeps, round_adds_none, met_is_sound, met_alike}

-- outside the square there are no bounds
none_below : (n : ℕ) (rows : Rows) (x y : ℕ) → IsSquare n rows → n ≤ x → bound_in rows x y ≡ None
none_below n rows x y q h = ap (λ r. get_or r y None) (get_or_past rows x [] (subst (λ k. k ≤ x) (sym q.rows_long) h)) ∙ get_or_past [] y None (least y)
  where
    least : (a : ℕ) → 0 ≤ a
    least a = omega arith

none_beside : (n : ℕ) (rows : Rows) (x y : ℕ) → IsSquare n rows → x < n → n ≤ y → bound_in rows x y ≡ None
none_beside n rows x y q below h = get_or_past (get_or rows x []) y None (subst (λ k. k ≤ y) (sym (q.each_long x below)) h)

no_sum : (o : Option ℤ) → summed o None ≡ None
no_sum None = refl
no_sum (Some c) = refl

-- a round is the elimination at every place
pub everywhere : (n : ℕ) (before after : Rows) (k : ℕ) → k < n → IsSquare n before → IsRoundUpTo n before after k n → (x y : ℕ) → bound_in after x y ≡ eliminated (bound_in before) k x y
everywhere n before after k below q r x y = by (before_or_not x n) (before_or_not y n)
  where
    by : (x < n) ⊎ (n ≤ x) → (y < n) ⊎ (n ≤ y) → bound_in after x y ≡ eliminated (bound_in before) k x y
    by (inl h) (inl j) = r.done x y h h j
    by (inl h) (inr j) = none_beside n after x y r.square h j
        ∙ sym (ap (λ o. narrower o (summed (bound_in before x k) (bound_in before k y))) (none_beside n before x y q h j)
        ∙ ap (λ o. narrower None (summed (bound_in before x k) o)) (none_beside n before k y q below j) ∙ no_sum (bound_in before x k))
    by (inr h) j = none_below n after x y r.square h
        ∙ sym (ap (λ o. narrower o (summed (bound_in before x k) (bound_in before k y))) (none_below n before x y q h)
        ∙ ap (λ o. summed o (bound_in before k y)) (none_below n before x k q h))

closed_alike : (a b : Bounds) (m : ℕ) → ((x y : ℕ) → a x y ≡ b x y) → ClosedAt a m → ClosedAt b m
closed_alike a b m e closed x y = rw (sym (e x y), sym (e x m), sym (e m y)) (closed x y)

pub bits_everywhere : (size : ℕ) (rows : Rows) (bits : ℕ) → IsSquare (suc size) rows → HaveBits bits size (bound_in rows) → (x y : ℕ) → HasBits bits (bound_in rows x y)
bits_everywhere size rows bits q h x y = by (before_or_not x (suc size)) (before_or_not y (suc size))
  where
    less : (a : ℕ) → a < suc size → a ≤ size
    less a k = omega arith

    by : (x < suc size) ⊎ (suc size ≤ x) → (y < suc size) ⊎ (suc size ≤ y) → HasBits bits (bound_in rows x y)
    by (inl i) (inl j) = h x y (less x i) (less y j)
    by (inl i) (inr j) = subst (λ o. HasBits bits o) (sym (none_beside (suc size) rows x y q i j)) tt
    by (inr i) j = subst (λ o. HasBits bits o) (sym (none_below (suc size) rows x y q i)) tt

-- after the rounds over the places before k
pub record IsClosedUpTo (size : ℕ) (before now : Rows) (k : ℕ) : Type 0 where
  pub square : IsSquare (suc size) now
  pub same : (values : ℕ → ℤ) → Meets size (bound_in before) values ↔ Meets size (bound_in now) values
  pub closed : (m : ℕ) → m < k → ClosedAt (bound_in now) m
  pub bits : (bits : ℕ) → HaveBits bits size (bound_in before) → (x y : ℕ) → HasBits (k + bits) (bound_in now x y)

pub close_begins : (size : ℕ) (rows : Rows) → IsSquare (suc size) rows → IsClosedUpTo size rows rows 0
close_begins size rows q = record {
  square = q;
  same = λ values. (λ m. m, λ m. m);
  closed = λ m h. absurd (none m h);
  bits = λ bits h x y. bits_more bits (0 + bits) (bound_in rows x y) (same_most bits) (bits_everywhere size rows bits q h x y);
}
  where
    none : (m : ℕ) → m < 0 → ⊥
    none m h = omega arith

    same_most : (a : ℕ) → a ≤ 0 + a
    same_most a = omega arith

pub close_step : (size : ℕ) (before now after : Rows) (k : ℕ) → k < suc size → IsSound (bound_in now k k) → IsClosedUpTo size before now k → IsRoundUpTo (suc size) now after k (suc size) → IsClosedUpTo size before after (k + 1)
close_step size before now after k below s c r = record {
  square = r.square;
  same = λ values. (
    λ m. met_alike size (eliminated (bound_in now) k) (bound_in after) values (λ x y. sym (e x y)) (round_keeps size (bound_in now) values k (less k below) ((c.same values).0 m)),
    λ m. (c.same values).1 (round_adds_none size (bound_in now) values k (met_alike size (bound_in after) (eliminated (bound_in now) k) values e m)),
  );
  closed = λ m h. closed_alike (eliminated (bound_in now) k) (bound_in after) m (λ x y. sym (e x y)) (at m (nat_case m k h));
  bits = λ bits h x y. bits_more (suc (k + bits)) ((k + 1) + bits) (bound_in after x y) (one_more k bits)
      (subst (λ o. HasBits (suc (k + bits)) o) (sym (e x y)) (bits_round (k + bits) (bound_in now) k x y (c.bits bits h)));
}
  where
    e : (x y : ℕ) → bound_in after x y ≡ eliminated (bound_in now) k x y
    e = everywhere (suc size) now after k below c.square r

    less : (a : ℕ) → a < suc size → a ≤ size
    less a h = omega arith

    one_more : (a b : ℕ) → suc (a + b) ≤ (a + 1) + b
    one_more a b = omega arith

    nat_case : (a b : ℕ) → a < b + 1 → (a ≡ b) ⊎ (a < b)
    nat_case a b h = elim (before_or_not a b) [ inl i ↦ inr i | inr i ↦ inl (omega arith) ]

    at : (m : ℕ) → (m ≡ k) ⊎ (m < k) → ClosedAt (eliminated (bound_in now) k) m
    at m (inl q) = subst (λ z. ClosedAt (eliminated (bound_in now) k) z) (sym q) (closes (bound_in now) k s)
    at m (inr h) = stays_closed (bound_in now) k m s (c.closed m h)

pub closed_in_the_end : (size : ℕ) (before now : Rows) (k : ℕ) → suc size ≤ k → IsClosedUpTo size before now k → IsClosed size (bound_in now)
closed_in_the_end size before now k h c m x y i a b = c.closed m (below m k i h) x y
  where
    below : (m k : ℕ) → m ≤ size → suc size ≤ k → m < k
    below m k i h = omega arith

pub bits_in_the_end : (size : ℕ) (before now : Rows) (k : ℕ) → k ≤ suc size → IsClosedUpTo size before now k → (bits : ℕ) → HaveBits bits size (bound_in before) → HaveBits (suc (size + bits)) size (bound_in now)
bits_in_the_end size before now k h c bits b x y i j = bits_more (k + bits) (suc (size + bits)) (bound_in now x y) (most k h) (c.bits bits b x y)
  where
    most : (k : ℕ) → k ≤ suc size → k + bits ≤ suc (size + bits)
    most k h = omega arith

pub none_met : (size : ℕ) (before now : Rows) (k : ℕ) → k < suc size → IsClosedUpTo size before now k → ¬ IsSound (bound_in now k k) → (values : ℕ → ℤ) → ¬ Meets size (bound_in before) values
none_met size before now k below c unsound values m = unsound (met_is_sound size (bound_in now) values k (less k below) ((c.same values).0 m))
  where
    less : (a : ℕ) → a < suc size → a ≤ size
    less a h = omega arith
