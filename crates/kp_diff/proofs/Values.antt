-- Which values meet bounds: a round keeps them, and closed bounds have some.
use Rattle.std.proofs.Common.{◌≡◌, refl, sym, ◌∙◌, ap, subst, arith, ℕ, suc, ◌≤◌, ◌<◌, ℤ, pos, ◌+ℤ◌, ◌-ℤ◌, ◌+◌, ◌≤ℤ◌, Some, None, Option, Bool, true, false, ◌⊎◌, inl, inr}
use Rattle.std.specs.Prelude.{int_le, if◌then◌else◌}
use Rattle.std.proofs.lemmas.Int.{ints}
use Rattle.kp_diff.proofs.RowSteps.{before_or_not}
use Rattle.kp_diff.specs.Bounds.{Bounds, IsWithin, Meets, IsAtMost, IsClosed, summed, narrower}
use Rattle.kp_diff.specs.Rows.{eliminated, IsSound, IsLeast}

within_sum : (o p : Option ℤ) (a b c : ℤ) → IsWithin o (a -ℤ b) → IsWithin p (b -ℤ c) → IsWithin (summed o p) (a -ℤ c)
within_sum None p a b c h k = tt
within_sum (Some m) None a b c h k = tt
within_sum (Some m) (Some n) a b c h k = omega (arith, ints)

pub within_narrower : (o p : Option ℤ) (n : ℤ) → IsWithin o n → IsWithin p n → IsWithin (narrower o p) n
within_narrower None p n h k = k
within_narrower (Some c) None n h k = h
within_narrower (Some c) (Some d) n h k = by_bool (int_le c d)
  where
    by_bool : (t : Bool) → IsWithin (if t then Some c else Some d) n
    by_bool true = h
    by_bool false = k

pub within_first : (o p : Option ℤ) (n : ℤ) → IsWithin (narrower o p) n → IsWithin o n
within_first None p n h = tt
within_first (Some c) None n h = h
within_first (Some c) (Some d) n h = by_bool (int_le c d) refl h
  where
    by_bool : (t : Bool) → int_le c d ≡ t → IsWithin (if t then Some c else Some d) n → n ≤ℤ c
    by_bool true e k = k
    by_bool false e k = grind (arith, ints)

pub within_second : (o p : Option ℤ) (n : ℤ) → IsWithin (narrower o p) n → IsWithin p n
within_second o None n h = tt
within_second None (Some d) n h = h
within_second (Some c) (Some d) n h = by_bool (int_le c d) refl h
  where
    by_bool : (t : Bool) → int_le c d ≡ t → IsWithin (if t then Some c else Some d) n → n ≤ℤ d
    by_bool true e k = grind (arith, ints)
    by_bool false e k = k

-- a round keeps the values that meet the bounds
pub round_keeps : (last : ℕ) (bounds : Bounds) (values : ℕ → ℤ) (k : ℕ) → k ≤ last → Meets last bounds values → Meets last (eliminated bounds k) values
round_keeps last bounds values k below m = record {
  zero_is = m.zero_is;
  each = λ x y i j. within_narrower (bounds x y) (summed (bounds x k) (bounds k y)) _ (m.each x y i j) (within_sum (bounds x k) (bounds k y) (values x) (values k) (values y) (m.each x k i below) (m.each k y below j));
}

-- and adds none
pub round_adds_none : (last : ℕ) (bounds : Bounds) (values : ℕ → ℤ) (k : ℕ) → Meets last (eliminated bounds k) values → Meets last bounds values
round_adds_none last bounds values k m = record {
  zero_is = m.zero_is;
  each = λ x y i j. within_first (bounds x y) (summed (bounds x k) (bounds k y)) _ (m.each x y i j);
}

-- a bound of a place with itself that is met isn't below zero
pub met_is_sound : (last : ℕ) (bounds : Bounds) (values : ℕ → ℤ) (k : ℕ) → k ≤ last → Meets last bounds values → IsSound (bounds k k)
met_is_sound last bounds values k below m = by (bounds k k) (m.each k k below below)
  where
    by : (o : Option ℤ) → IsWithin o (values k -ℤ values k) → IsSound o
    by None h = tt
    by (Some c) h = omega (arith, ints)

-- bounds that are the same at each place are met alike
pub met_alike : (last : ℕ) (a b : Bounds) (values : ℕ → ℤ) → ((x y : ℕ) → a x y ≡ b x y) → Meets last a values → Meets last b values
met_alike last a b values e m = record {
  zero_is = m.zero_is;
  each = λ x y i j. subst (λ o. IsWithin o (values x -ℤ values y)) (e x y) (m.each x y i j);
}

-- ---- the values that closed bounds have

-- there is one least
only_least : (count : ℕ) (row : ℕ → Option ℤ) (m n : ℤ) → IsLeast count row m → IsLeast count row n → m ≤ℤ n
only_least count row m n a b = by b.is
  where
    by : (n ≡ pos 0) ⊎ ((y : ℕ) × (y < count) × (row y ≡ Some n)) → m ≤ℤ n
    by (inl z) = subst (λ v. m ≤ℤ v) (sym z) a.most
    by (inr p) = subst (λ o. IsWithin o m) p.2 (a.within p.0 p.1)

over_zero : (o : Option ℤ) (a b : ℤ) → b ≡ pos 0 → IsWithin o a → IsWithin o (a -ℤ b)
over_zero None a b z h = tt
over_zero (Some c) a b z h = omega (arith, ints)

over_place : (o p : Option ℤ) (a b : ℤ) → IsAtMost p (summed o (Some b)) → IsWithin p a → IsWithin o (a -ℤ b)
over_place None p a b h k = tt
over_place (Some c) None a b h k = absurd h
over_place (Some c) (Some d) a b h k = omega (arith, ints)

shifted : (o : Option ℤ) (a b c : ℤ) → IsWithin o ((a +ℤ c) -ℤ (b +ℤ c)) → IsWithin o (a -ℤ b)
shifted None a b c h = tt
shifted (Some d) a b c h = omega (arith, ints)

-- closed bounds are met by their rows' least bounds, less a number that makes place 0 zero
pub closed_are_met : (last : ℕ) (bounds : Bounds) (values : ℕ → ℤ) (first : ℤ) → IsClosed last bounds → IsLeast (suc last) (bounds 0) first →
    ((x : ℕ) → x ≤ last → IsLeast (suc last) (bounds x) (values x +ℤ first)) → Meets last bounds values
closed_are_met last bounds values first closed at_zero leasts = record {
  zero_is = zero_if (values 0) first (only_least (suc last) (bounds 0) (values 0 +ℤ first) first (leasts 0 below) at_zero) (only_least (suc last) (bounds 0) first (values 0 +ℤ first) at_zero (leasts 0 below));
  each = λ x y i j. shifted (bounds x y) (values x) (values y) first (by_least x y i j (leasts y j).is);
}
  where
    below : 0 ≤ last
    below = omega arith

    zero_if : (a b : ℤ) → (a +ℤ b) ≤ℤ b → b ≤ℤ (a +ℤ b) → a ≡ pos 0
    zero_if a b h k = omega (arith, ints)

    one_more : (a b : ℕ) → a ≤ b → a < suc b
    one_more a b h = omega arith

    one_less : (a b : ℕ) → a < suc b → a ≤ b
    one_less a b h = omega arith

    by_least : (x y : ℕ) → x ≤ last → y ≤ last → ((values y +ℤ first) ≡ pos 0) ⊎ ((a : ℕ) × (a < suc last) × (bounds y a ≡ Some (values y +ℤ first))) → IsWithin (bounds x y) ((values x +ℤ first) -ℤ (values y +ℤ first))
    by_least x y i j (inl z) = over_zero (bounds x y) (values x +ℤ first) (values y +ℤ first) z ((leasts x i).within y (one_more y last j))
    by_least x y i j (inr p) = over_place (bounds x y) (bounds x p.0) (values x +ℤ first) (values y +ℤ first)
        (subst (λ o. IsAtMost (bounds x p.0) (summed (bounds x y) o)) p.2 (closed y x p.0 j i (one_less p.0 last p.1)))
        ((leasts x i).within p.0 p.1)

-- one bound more of a row
pub least_step : (count : ℕ) (row : ℕ → Option ℤ) (o : Option ℤ) (m n : ℤ) → row count ≡ o → IsLeast count row m → n ≤ℤ m → IsWithin o n → (n ≡ m) ⊎ (o ≡ Some n) → IsLeast (count + 1) row n
least_step count row o m n e l below within is = record {
  most = lower_most n m below l.most;
  within = λ y h. at y (nat_case y count h);
  is = by is l.is;
}
  where
    lower_most : (n m : ℤ) → n ≤ℤ m → m ≤ℤ pos 0 → n ≤ℤ pos 0
    lower_most n m h k = omega (arith, ints)

    lower : (o : Option ℤ) (a b : ℤ) → IsWithin o a → b ≤ℤ a → IsWithin o b
    lower None a b h k = tt
    lower (Some c) a b h k = omega (arith, ints)

    nat_case : (a b : ℕ) → a < b + 1 → (a ≡ b) ⊎ (a < b)
    nat_case a b h = elim (before_or_not a b) [ inl k ↦ inr k | inr k ↦ inl (omega arith) ]

    at : (y : ℕ) → (y ≡ count) ⊎ (y < count) → IsWithin (row y) n
    at y (inl q) = subst (λ z. IsWithin (row z) n) (sym q) (subst (λ p. IsWithin p n) (sym e) within)
    at y (inr h) = lower (row y) m n (l.within y h) below

    wider : (a b : ℕ) → a < b → a < b + 1
    wider a b h = omega arith

    last_one : (a : ℕ) → a < a + 1
    last_one a = omega arith

    by : (n ≡ m) ⊎ (o ≡ Some n) → (m ≡ pos 0) ⊎ ((y : ℕ) × (y < count) × (row y ≡ Some m)) → (n ≡ pos 0) ⊎ ((y : ℕ) × (y < count + 1) × (row y ≡ Some n))
    by (inl q) (inl z) = inl (q ∙ z)
    by (inl q) (inr p) = inr (p.0, wider p.0 count p.1, p.2 ∙ ap Some (sym q))
    by (inr q) z = inr (count, last_one count, e ∙ q)
