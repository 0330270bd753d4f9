-- What is held, and what is added to it.
use Rattle.std.proofs.Common.{◌≡◌, refl, sym, subst, ap, ◌∙◌, arith, ℕ, zero, suc, ◌+◌, ◌<◌, ◌≤◌, ◌⊎◌, inl, inr, Bool, true, false, true≢false, not, ◌&&◌, List, [], ◌∷◌, ◌++◌, length, take, if◌then◌else◌, length-append}
use Rattle.std.proofs.lemmas.List.{take-append-le, take-take, length-take-le}
use Rattle.std.proofs.Math.Seq.{take-append-add}
use Rattle.kp_frames.specs.declared.nest.Nest.{Nest}
use Rattle.kp_frames.specs.Frames.{is_white, opens, nest_from, nest_of, start, is_back, begins_bracketed, begins_malformed, IsOpen, IsBracketed, IsUnended, nothing_yet, brackets_open, line_open}
use Rattle.kp_frames.specs.Held.{IsHeld, StaysOpen, ClosesAt}
use Rattle.kp_frames.proofs.Nests.{nest-append, level_within}

-- a text that begins with a bracket isn't a malformed one
pub not_both : (r : List ℕ) → begins_bracketed r ≡ true → begins_malformed r ≡ true → ⊥
not_both [] b m = true≢false (sym b)
not_both (x ∷ xs) b m = by (opens x) (is_white x) b m
  where
    by : (o w : Bool) → o ≡ true → (not o && not w) ≡ true → ⊥
    by true w b m = true≢false (sym m)
    by false w b m = true≢false (sym b)

-- what stands behind a text doesn't change how it begins
begins_as : (x : ℕ) (xs w : List ℕ) → begins_bracketed ((x ∷ xs) ++ w) ≡ begins_bracketed (x ∷ xs)
begins_as x xs w = refl

-- the nest of a held text that will be bracketed
held_nest : (limit : ℕ) (r w : List ℕ) (n : Nest) → IsHeld limit r n → begins_bracketed (r ++ w) ≡ true → n ≡ nest_of r
held_nest limit [] w n h b = h.nest
held_nest limit (x ∷ xs) w n h b = h.nest ∙ ap (λ t. if t then nest_of (x ∷ xs) else start) b

held_open : (limit : ℕ) (r w : List ℕ) (n : Nest) → IsHeld limit r n → begins_bracketed (r ++ w) ≡ true → IsOpen r
held_open limit r w n h b = by r b h.unended
  where
    by : (r : List ℕ) → begins_bracketed (r ++ w) ≡ true → IsUnended r → IsOpen r
    by [] b u = λ k p q. absurd (none k p q)
      where
        none : (k : ℕ) → 0 < k → k ≤ 0 → ⊥
        none k p q = omega (arith, p, q)
    by (x ∷ xs) b (nothing_yet e) = cc
    by (x ∷ xs) b (brackets_open t o) = o
    by (x ∷ xs) b (line_open m) = absurd (not_both (x ∷ xs) b m.begins)

before_or_behind : (k m : ℕ) → (k ≤ m) ⊎ ((j : ℕ) × (0 < j) × (k ≡ m + j))
before_or_behind zero m = inl (omega arith)
before_or_behind (suc k) zero = inr (suc k, omega arith, omega arith)
before_or_behind (suc k) (suc m) = elim (before_or_behind k m) [ inl e ↦ inl (omega (arith, e)) | inr e ↦ inr (e.0, e.1, omega (arith, e.2)) ]

-- the fronts of an open text and of what stays open behind it
open_below : (r w : List ℕ) (n : Nest) (k : ℕ) → IsOpen r → n ≡ nest_of r → StaysOpen n k w → (j : ℕ) → 0 < j → j < length r + k → is_back (nest_of (take j (r ++ w))) ≡ false
open_below r w n k o e s j p q = elim (before_or_behind j (length r)) [
  | inl h ↦ subst (λ t. is_back (nest_of t) ≡ false) (sym (take-append-le j r w h)) (o j p h)
  | inr h ↦ subst (λ t. is_back (nest_of t) ≡ false) (sym (ap (λ i. take i (r ++ w)) h.2 ∙ take-append-add r w h.0))
      (subst (λ m. is_back m ≡ false) (sym (nest-append start r (take h.0 w))) (subst (λ m. is_back (nest_from m (take h.0 w)) ≡ false) e (s h.0 h.1 (behind h.0 h.2))))
]
  where
    behind : (i : ℕ) → j ≡ length r + i → i < k
    behind i f = omega (arith, f, q)

pub stays_held : (limit : ℕ) (r w : List ℕ) (n now : Nest) → IsHeld limit r n → begins_bracketed (r ++ w) ≡ true → length r + length w ≤ limit → StaysOpen n (suc (length w)) w → now ≡ nest_from n w → IsHeld limit (r ++ w) now
stays_held limit r w n now h b l s e =
    let is : n ≡ nest_of r = held_nest limit r w n h b in
    record {
      unended = brackets_open b (λ j p q. open_below r w n (suc (length w)) (held_open limit r w n h b) is s j p (omega (arith, q, length-append r w)));
      within = omega (arith, l, length-append r w);
      nest = e ∙ ap (λ m. nest_from m w) is ∙ sym (nest-append start r w) ∙ sym (ap (λ t. if t then nest_of (r ++ w) else start) b);
    }

-- the text up to the byte that closes its brackets is a frame
pub closes_frame : (limit : ℕ) (r w : List ℕ) (n : Nest) (k : ℕ) → IsHeld limit r n → begins_bracketed (r ++ w) ≡ true → ClosesAt n w k → IsBracketed (r ++ take k w)
closes_frame limit r w n k h b c =
    let is : n ≡ nest_of r = held_nest limit r w n h b in
    record {
      begins = begins_front r w k c.positive b;
      closed = subst (λ m. is_back m ≡ true) (sym (nest-append start r (take k w))) (subst (λ m. is_back (nest_from m (take k w)) ≡ true) is c.closed);
      shortest = λ j p q. subst (λ t. is_back (nest_of t) ≡ false) (fronts j (short j q)) (open_below r w n k (held_open limit r w n h b) is c.earlier j p (short j q));
    }
  where
    long : length (r ++ take k w) ≡ length r + k
    long = length-append r (take k w) ∙ ap (λ i. length r + i) (length-take-le k w c.within)

    short : (j : ℕ) → j < length (r ++ take k w) → j < length r + k
    short j q = omega (arith, q, long)

    begins_front : (r w : List ℕ) (k : ℕ) → 0 < k → begins_bracketed (r ++ w) ≡ true → begins_bracketed (r ++ take k w) ≡ true
    begins_front (x ∷ xs) w k p b = b
    begins_front [] w zero p b = absurd (none p)
      where
        none : 0 < 0 → ⊥
        none p = omega (arith, p)
    begins_front [] [] (suc k) p b = b
    begins_front [] (x ∷ xs) (suc k) p b = b

    fronts : (j : ℕ) → j < length r + k → take j (r ++ w) ≡ take j (r ++ take k w)
    fronts j q = elim (before_or_behind j (length r)) [
      | inl h ↦ take-append-le j r w h ∙ sym (take-append-le j r (take k w) h)
      | inr h ↦ ap (λ i. take i (r ++ w)) h.2 ∙ take-append-add r w h.0 ∙ ap (λ t. r ++ t) (sym (take-take h.0 k w (behind h.0 h.2))) ∙ sym (ap (λ i. take i (r ++ take k w)) h.2 ∙ take-append-add r (take k w) h.0)
    ]
      where
        behind : (i : ℕ) → j ≡ length r + i → i ≤ k
        behind i f = omega (arith, f, q)

-- no more brackets are open than there are bytes
pub held_level : (limit : ℕ) (r w : List ℕ) (n : Nest) (most : ℕ) → IsHeld limit r n → length r + length w ≤ limit → limit < most → n.level + length w < most
held_level limit r w n most h l f = omega (arith, by (begins_bracketed r) h.nest, l, f)
  where
    by : (t : Bool) → n ≡ (if t then nest_of r else start) → n.level ≤ length r
    by true e = subst (λ m. m.level ≤ length r) (sym e) (omega (arith, level_within start r))
    by false e = subst (λ m. m.level ≤ length r) (sym e) (omega arith)
