-- A round of elimination closes the bounds at its place and leaves them closed where they were.
use Rattle.std.proofs.Common.{◌≡◌, refl, arith, ℕ, ℤ, Some, None, Option, Bool, true, false, ◌⊎◌, inl, inr}
use Rattle.std.specs.Prelude.{int_le, if◌then◌else◌}
use Rattle.std.proofs.lemmas.Int.{ints}
use Rattle.kp_diff.specs.Bounds.{Bounds, IsAtMost, summed, narrower}
use Rattle.kp_diff.specs.Rows.{eliminated, IsSound}

-- no bound is gained by going over this place
abbrev pub ClosedAt : Bounds → ℕ → Type 0
ClosedAt bounds m = (x y : ℕ) → IsAtMost (bounds x y) (summed (bounds x m) (bounds m y))

transitive : (o p q : Option ℤ) → IsAtMost o p → IsAtMost p q → IsAtMost o q
transitive o p None a b = tt
transitive o None (Some d) a b = absurd b
transitive None (Some c) (Some d) a b = absurd a
transitive (Some n) (Some c) (Some d) a b = omega (arith, ints)

same : (o : Option ℤ) → IsAtMost o o
same None = tt
same (Some c) = omega (arith, ints)

by_test : (b : Bool) (c d : ℤ) → int_le c d ≡ b → IsAtMost (if b then Some c else Some d) (Some c) × IsAtMost (if b then Some c else Some d) (Some d)
by_test true c d e = (grind (arith, ints), grind (arith, ints))
by_test false c d e = (grind (arith, ints), grind (arith, ints))

narrower_first : (o p : Option ℤ) → IsAtMost (narrower o p) o
narrower_first None p = tt
narrower_first (Some c) None = same (Some c)
narrower_first (Some c) (Some d) = (by_test (int_le c d) c d refl).0

narrower_second : (o p : Option ℤ) → IsAtMost (narrower o p) p
narrower_second o None = tt
narrower_second None (Some d) = same (Some d)
narrower_second (Some c) (Some d) = (by_test (int_le c d) c d refl).1

-- what is at most both is at most the narrower
at_most_narrower : (o p q : Option ℤ) → IsAtMost o p → IsAtMost o q → IsAtMost o (narrower p q)
at_most_narrower o None q a b = b
at_most_narrower o (Some c) None a b = a
at_most_narrower o (Some c) (Some d) a b = chosen (int_le c d)
  where
    chosen : (t : Bool) → IsAtMost o (if t then Some c else Some d)
    chosen true = a
    chosen false = b

-- sums keep the order
pub summed_most : (o p q r : Option ℤ) → IsAtMost o p → IsAtMost q r → IsAtMost (summed o q) (summed p r)
summed_most o None q r a b = tt
summed_most o (Some c) q None a b = tt
summed_most None (Some c) q (Some d) a b = absurd a
summed_most (Some n) (Some c) None (Some d) a b = absurd b
summed_most (Some n) (Some c) (Some m) (Some d) a b = omega (arith, ints)

-- a sum over a place of a bound that isn't below zero
around : (o p : Option ℤ) → IsSound p → IsAtMost o (summed o p)
around None None s = tt
around None (Some d) s = tt
around (Some c) None s = tt
around (Some c) (Some d) s = omega (arith, ints)

around_left : (o p : Option ℤ) → IsSound p → IsAtMost o (summed p o)
around_left None None s = tt
around_left None (Some d) s = tt
around_left (Some c) None s = tt
around_left (Some c) (Some d) s = omega (arith, ints)

-- four ways to go from x over m to y
split_sum : (goal_ a b a' b' : Option ℤ) → IsAtMost goal_ (summed a b) → IsAtMost goal_ (summed a b') → IsAtMost goal_ (summed a' b) → IsAtMost goal_ (summed a' b') → IsAtMost goal_ (summed (narrower a a') (narrower b b'))
split_sum o a b a' b' h1 h2 h3 h4 = first (narrower_is a a') (narrower_is b b')
  where
    narrower_is : (p q : Option ℤ) → (narrower p q ≡ p) ⊎ (narrower p q ≡ q)
    narrower_is None q = inr refl
    narrower_is (Some c) None = inl refl
    narrower_is (Some c) (Some d) = by_bool (int_le c d)
      where
        by_bool : (t : Bool) → ((if t then Some c else Some d) ≡ Some c) ⊎ ((if t then Some c else Some d) ≡ Some d)
        by_bool true = inl refl
        by_bool false = inr refl

    first : (narrower a a' ≡ a) ⊎ (narrower a a' ≡ a') → (narrower b b' ≡ b) ⊎ (narrower b b' ≡ b') → IsAtMost o (summed (narrower a a') (narrower b b'))
    first (inl e) (inl f) = rw (e, f) h1
    first (inl e) (inr f) = rw (e, f) h2
    first (inr e) (inl f) = rw (e, f) h3
    first (inr e) (inr f) = rw (e, f) h4

-- a sum of three is at most a sum of two whose part it refines
three_left : (o a b c d : Option ℤ) → IsAtMost o (summed a c) → IsAtMost a (summed d b) → IsAtMost o (summed d (summed b c))
three_left o a None c None h k = tt
three_left o a None c (Some d) h k = tt
three_left o a (Some b) c None h k = tt
three_left o a (Some b) None (Some d) h k = tt
three_left o None (Some b) (Some c) (Some d) h k = absurd k
three_left None (Some a) (Some b) (Some c) (Some d) h k = absurd h
three_left (Some n) (Some a) (Some b) (Some c) (Some d) h k = omega (arith, ints)

associates : (a b c : Option ℤ) → IsAtMost (summed a (summed b c)) (summed (summed a b) c)
associates None b c = tt
associates (Some a) None c = tt
associates (Some a) (Some b) None = tt
associates (Some a) (Some b) (Some c) = omega (arith, ints)

associates_back : (a b c : Option ℤ) → IsAtMost (summed (summed a b) c) (summed a (summed b c))
associates_back None b c = tt
associates_back (Some a) None c = tt
associates_back (Some a) (Some b) None = tt
associates_back (Some a) (Some b) (Some c) = omega (arith, ints)

-- the place of a round is closed by it
pub closes : (bounds : Bounds) (k : ℕ) → IsSound (bounds k k) → ClosedAt (eliminated bounds k) k
closes bounds k s x y =
    transitive _ (summed (bounds x k) (bounds k y)) _
    (narrower_second (bounds x y) (summed (bounds x k) (bounds k y)))
    (summed_most (bounds x k) _ (bounds k y) _
    (at_most_narrower (bounds x k) (bounds x k) (summed (bounds x k) (bounds k k)) (same (bounds x k)) (around (bounds x k) (bounds k k) s))
    (at_most_narrower (bounds k y) (bounds k y) (summed (bounds k k) (bounds k y)) (same (bounds k y)) (around_left (bounds k y) (bounds k k) s)))

-- a place that was closed stays closed
pub stays_closed : (bounds : Bounds) (k m : ℕ) → IsSound (bounds k k) → ClosedAt bounds m → ClosedAt (eliminated bounds k) m
stays_closed bounds k m s closed x y =
    split_sum (narrower (bounds x y) over) (bounds x m) (bounds m y) (summed (bounds x k) (bounds k m)) (summed (bounds m k) (bounds k y))
    (transitive _ (bounds x y) _ (narrower_first (bounds x y) over) (closed x y))
    (transitive _ over _ (narrower_second (bounds x y) over) (three_left over (bounds x k) (bounds m k) (bounds k y) (bounds x m) (same over) (closed x k)))
    (transitive _ over _ (narrower_second (bounds x y) over) (transitive _ (summed (bounds x k) (summed (bounds k m) (bounds m y))) _ (summed_most (bounds x k) (bounds x k) (bounds k y) _ (same (bounds x k)) (closed k y)) (associates (bounds x k) (bounds k m) (bounds m y))))
    (transitive _ over _ (narrower_second (bounds x y) over) loop_)
  where
    over : Option ℤ
    over = summed (bounds x k) (bounds k y)

    -- over k, m and k again
    loop_ : IsAtMost over (summed (summed (bounds x k) (bounds k m)) (summed (bounds m k) (bounds k y)))
    loop_ = four (bounds x k) (bounds k m) (bounds m k) (bounds k y) (bounds k k) s (closed k k)
      where
        four : (a b c d e : Option ℤ) → IsSound e → IsAtMost e (summed b c) → IsAtMost (summed a d) (summed (summed a b) (summed c d))
        four None b c d e h k = tt
        four (Some a) None c d e h k = tt
        four (Some a) (Some b) None d e h k = tt
        four (Some a) (Some b) (Some c) None e h k = tt
        four (Some a) (Some b) (Some c) (Some d) None h k = absurd k
        four (Some a) (Some b) (Some c) (Some d) (Some e) h k = omega (arith, ints)
