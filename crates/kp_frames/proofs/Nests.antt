-- The nest along a text.
use Rattle.std.proofs.Common.{rules, ◌≡◌, refl, sym, subst, ap, ◌∙◌, arith, ℕ, zero, suc, pred, ◌+◌, ◌<◌, ◌≤◌, ◌==◌, ◌⊎◌, inl, inr, Bool, true, false, List, [], ◌∷◌, ◌++◌, length, take, get_or, if◌then◌else◌, length-take-le}
use Rattle.std.proofs.lemmas.List.{take_more}
use Rattle.kp_frames.specs.declared.nest.Place.{Place}
use Rattle.kp_frames.specs.declared.nest.Place.TheVariants as place
use Rattle.kp_frames.specs.declared.nest.Nest.{Nest}
use Rattle.kp_frames.specs.Frames.{after_byte, nest_from, is_back, opens, closes}
use Rattle.kp_frames.specs.Held.{StaysOpen, ClosesAt}

pub nest-append : (n : Nest) (xs ys : List ℕ) → nest_from n (xs ++ ys) ≡ nest_from (nest_from n xs) ys
nest-append n [] ys = refl
nest-append n (x ∷ xs) ys = nest-append (after_byte n x) xs ys

pred_below : (l : ℕ) → pred l ≤ suc l
pred_below zero = omega arith
pred_below (suc l) = omega arith

abbrev outside : (q o c : Bool) (l : ℕ) → Nest
outside q o c l = if q then record { place = place.InString; level = l } else if o then record { place = place.Outside; level = suc l } else if c then record { place = place.Outside; level = pred l } else record { place = place.Outside; level = l }

outside_level : (q o c : Bool) (l : ℕ) → (outside q o c l).level ≤ suc l
outside_level true o c l = omega arith
outside_level false true c l = omega arith
outside_level false false true l = pred_below l
outside_level false false false l = omega arith

abbrev inside : (b q : Bool) (l : ℕ) → Nest
inside b q l = if b then record { place = place.BehindBackslash; level = l } else if q then record { place = place.Outside; level = l } else record { place = place.InString; level = l }

inside_level : (b q : Bool) (l : ℕ) → (inside b q l).level ≤ suc l
inside_level true q l = omega arith
inside_level false true l = omega arith
inside_level false false l = omega arith

next_level : (p : Place) (l b : ℕ) → (after_byte (record { place = p; level = l }) b).level ≤ suc l
next_level place.Outside l b = outside_level (b == 34) (opens b) (closes b) l
next_level place.InString l b = inside_level (b == 92) (b == 34) l
next_level place.BehindBackslash l b = omega arith

pub level_within : (n : Nest) (bs : List ℕ) → (nest_from n bs).level ≤ n.level + length bs
level_within n [] = omega arith
level_within n (b ∷ bs) = omega (arith, level_within (after_byte n b) bs, next_level n.place n.level b)

pub level_at : (n : Nest) (bs : List ℕ) (k most : ℕ) → k < length bs → n.level + length bs < most → (nest_from n (take k bs)).level + 1 < most
level_at n bs k most h w = omega (arith, level_within n (take k bs), length-take-le k bs (omega (arith, h)))

pub one_more : (n : Nest) (bs : List ℕ) (k d : ℕ) → k < length bs → after_byte (nest_from n (take k bs)) (get_or bs k d) ≡ nest_from n (take (k + 1) bs)
one_more n bs k d h = sym (ap (nest_from n) (take_more bs k d h) ∙ nest-append n (take k bs) (get_or bs k d ∷ []))

before_or_at : (j k : ℕ) → j < suc k → (j < k) ⊎ (j ≡ k)
before_or_at zero zero h = inr refl
before_or_at zero (suc k) h = inl (omega arith)
before_or_at (suc j) zero h = absurd (none h)
  where
    none : suc j < 1 → ⊥
    none e = omega (arith, e)
before_or_at (suc j) (suc k) h = elim (before_or_at j k (omega (arith, h))) [ inl e ↦ inl (omega (arith, e)) | inr e ↦ inr (ap suc e) ]

pub stays_on : (n : Nest) (bs : List ℕ) (k : ℕ) → StaysOpen n (suc k) bs → is_back (nest_from n (take (k + 1) bs)) ≡ false → StaysOpen n (suc (k + 1)) bs
stays_on n bs k s e j h w = elim (before_or_at j (k + 1) w) [ inl b ↦ s j h (omega (arith, b)) | inr q ↦ subst (λ i. is_back (nest_from n (take i bs)) ≡ false) (sym q) e ]

pub closes_at : (n : Nest) (bs : List ℕ) (k : ℕ) → k < length bs → StaysOpen n (suc k) bs → is_back (nest_from n (take (k + 1) bs)) ≡ true → ClosesAt n bs (k + 1)
closes_at n bs k h s e = record {
  positive = omega arith;
  within = omega (arith, h);
  closed = e;
  earlier = λ j p w. s j p (omega (arith, w));
}

pub back : (n : Nest) → n.level ≡ 0 → is_back n ≡ true
back n e = search rules

pub not_back : (n : Nest) → (n.level ≡ 0 → ⊥) → is_back n ≡ false
not_back n e = search rules
