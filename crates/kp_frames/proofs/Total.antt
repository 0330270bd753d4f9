-- Each stream is cut.
use Rattle.std.proofs.Common.{◌≡◌, refl, sym, subst, ap, ◌∙◌, arith, ℕ, zero, suc, ◌+◌, ◌<◌, ◌≤◌, ◌==◌, inl, inr, Bool, true, false, true≢false, not, ◌&&◌, ◌||◌, List, [], ◌∷◌, ◌++◌, length, take, append-nil, append_assoc, eqb-true}
use Rattle.kp_frames.specs.declared.nest.Nest.{Nest}
use Rattle.kp_frames.specs.Frames.{is_white, opens, after_byte, start, is_back, begins_bracketed, begins_malformed, IsUnended, nothing_yet, brackets_open, line_open, Cuts}
use Rattle.kp_frames.specs.Held.{IsHeld, Takes, StaysOpen}
use Rattle.kp_frames.proofs.Rests.{stays_held, closes_frame}
use Rattle.kp_frames.proofs.OneWay.{one_cut}
use Rattle.kp_frames.proofs.Cutting.{cut_on, cut_full, full_test, room_test, full_or_room, nothing_held, nothing_cuts, whole_taken, frame_taken, line_taken, is_line, line_held, line_front, white_taken}

-- what one byte more makes of a rest
pub record Step (limit : ℕ) (r : List ℕ) (b : ℕ) : Type 0 where
  pub ended : List (List ℕ)
  pub after : List ℕ
  pub nest : Nest
  pub held : IsHeld limit after nest
  pub cuts : Cuts limit (r ++ b ∷ []) ended after (length after == limit)

one_byte : (limit : ℕ) (r : List ℕ) (b count : ℕ) (later : List (List ℕ)) (after : List ℕ) (now : Nest) → IsHeld limit after now → take count (b ∷ []) ≡ b ∷ [] → Takes limit r (b ∷ []) count [] later after → Step limit r b
one_byte limit r b count later after now h e t = record { ended = t.ended; after = after; nest = now; held = h; cuts = subst (λ x. Cuts limit (r ++ x) t.ended after (length after == limit)) e t.cuts }

fits : (limit : ℕ) (r : List ℕ) → length r < limit → length r + 1 ≤ limit
fits limit r l = omega (arith, l)

-- a byte behind an open bracket
in_brackets : (limit : ℕ) (r : List ℕ) (b : ℕ) (n : Nest) → IsHeld limit r n → length r < limit → begins_bracketed (r ++ b ∷ []) ≡ true → (t : Bool) → is_back (after_byte n b) ≡ t → Step limit r b
in_brackets limit r b n h l e true q =
    one_byte limit r b 1 ((r ++ b ∷ []) ∷ []) [] start (nothing_held limit [] start refl refl) refl
    (frame_taken limit r (b ∷ []) 1 [] ((r ++ b ∷ []) ∷ []) (closes_frame limit r (b ∷ []) n 1 h e (record { positive = omega arith; within = omega arith; closed = q; earlier = λ j p w. absurd (omega (arith, p, w)) })) (omega arith) (omega arith) (fits limit r l) refl)
in_brackets limit r b n h l e false q =
    let held : IsHeld limit (r ++ b ∷ []) (after_byte n b) = stays_held limit r (b ∷ []) n (after_byte n b) h e (fits limit r l) stays refl in
    one_byte limit r b 1 [] (r ++ b ∷ []) (after_byte n b) held refl (whole_taken limit r (b ∷ []) [] (after_byte n b) held (omega arith))
  where
    stays : StaysOpen n 2 (b ∷ [])
    stays zero p w = absurd (omega (arith, p))
    stays (suc zero) p w = q
    stays (suc (suc j)) p w = absurd (omega (arith, w))

-- a byte of a line
in_line : (limit : ℕ) (r : List ℕ) (b : ℕ) (n : Nest) → IsHeld limit r n → length r < limit → begins_malformed (r ++ b ∷ []) ≡ true → (t : Bool) → (b == 10) ≡ t → Step limit r b
in_line limit r b n h l e true q =
    let feeds : b ∷ [] ≡ 10 ∷ [] = ap (λ x. x ∷ []) (eqb-true b 10 q) in
    one_byte limit r b 1 ((r ++ []) ∷ []) [] start (nothing_held limit [] start refl refl) refl
    (line_taken limit r (b ∷ []) 0 [] ((r ++ []) ∷ []) (is_line limit r (b ∷ []) [] n h e (line_front r (b ∷ []) 0 e feeds (omega arith)) refl) (omega arith) feeds (fits limit r l) refl)
in_line limit r b n h l e false q =
    let held : IsHeld limit (r ++ b ∷ []) n = line_held limit r (b ∷ []) n h e (fits limit r l) (ap (λ t. t || false) q) in
    one_byte limit r b 1 [] (r ++ b ∷ []) n held refl (whole_taken limit r (b ∷ []) [] n held (omega arith))

-- a text of one byte or more that begins in neither way begins with white space, and nothing was held before it
between : (limit : ℕ) (r : List ℕ) (b : ℕ) (n : Nest) → IsHeld limit r n → begins_bracketed (r ++ b ∷ []) ≡ false → begins_malformed (r ++ b ∷ []) ≡ false → (r ≡ []) × (is_white b ≡ true)
between limit [] b n h e m = (refl, by (opens b) (is_white b) e m)
  where
    by : (o w : Bool) → o ≡ false → (not o && not w) ≡ false → w ≡ true
    by true w e m = absurd (true≢false e)
    by false true e m = refl
    by false false e m = absurd (true≢false m)
between limit (x ∷ xs) b n h e m = absurd (by h.unended)
  where
    by : IsUnended (x ∷ xs) → ⊥
    by (nothing_yet q) = omega (arith, ap length q)
    by (brackets_open c o) = true≢false (sym c ∙ e)
    by (line_open c) = true≢false (sym c.begins ∙ m)

step : (limit : ℕ) (r : List ℕ) (b : ℕ) (n : Nest) → IsHeld limit r n → length r < limit → (t m : Bool) → begins_bracketed (r ++ b ∷ []) ≡ t → begins_malformed (r ++ b ∷ []) ≡ m → Step limit r b
step limit r b n h l true m e q = in_brackets limit r b n h l e (is_back (after_byte n b)) refl
step limit r b n h l false true e q = in_line limit r b n h l q (b == 10) refl
step limit r b n h l false false e q =
    let is : (r ≡ []) × (is_white b ≡ true) = between limit r b n h e q in
    one_byte limit r b 1 [] r n h refl (white_taken limit r (b ∷ []) 1 [] is.0 (omega arith) (omega arith) (ap (λ t. t && true) is.1))

pub record IsCut (limit : ℕ) (bytes : List ℕ) : Type 0 where
  pub frames : List (List ℕ)
  pub rest : List ℕ
  pub is_full : Bool
  pub cuts : Cuts limit bytes frames rest is_full

on : (limit : ℕ) (more bytes : List ℕ) (fs : List (List ℕ)) (r : List ℕ) (n : Nest) → IsHeld limit r n → Cuts limit bytes fs r (length r == limit) → IsCut limit (bytes ++ more)
on limit [] bytes fs r n h c = record { frames = fs; rest = r; is_full = length r == limit; cuts = subst (λ x. Cuts limit x fs r (length r == limit)) (sym (append-nil bytes)) c }
on limit (b ∷ bs) bytes fs r n h c = elim (full_or_room (length r) limit h.within) [
  | inl e ↦ record { frames = fs; rest = r; is_full = true; cuts = cut_full limit (b ∷ bs) bytes fs r (length r == limit) c (full_test (length r) limit e) }
  | inr l ↦
      let s : Step limit r b = step limit r b n h l (begins_bracketed (r ++ b ∷ [])) (begins_malformed (r ++ b ∷ [])) refl refl in
      subst (λ x. IsCut limit x) (append_assoc bytes (b ∷ []) bs)
      (on limit bs (bytes ++ b ∷ []) (fs ++ s.ended) s.after s.nest s.held (cut_on limit (b ∷ []) s.ended s.after (length s.after == limit) bytes fs r (length r == limit) c (room_test (length r) limit l) s.cuts))
]

pub is_cut : (limit : ℕ) (bytes : List ℕ) → IsCut limit bytes
is_cut limit bytes = on limit bytes [] [] [] start (nothing_held limit [] start refl refl) (nothing_cuts limit)

pub stays_cut : (limit : ℕ) (bytes more : List ℕ) (fs gs : List (List ℕ)) (r s : List ℕ) (f g : Bool) → Cuts limit bytes fs r f → Cuts limit (bytes ++ more) gs s g → (new : List (List ℕ)) × (gs ≡ fs ++ new)
stays_cut limit bytes more fs gs r s true g c d = ([], (one_cut limit (bytes ++ more) gs fs s r g true d (cut_full limit more bytes fs r true c refl)).0 ∙ sym (append-nil fs))
stays_cut limit bytes more fs gs r s false g c d =
    let u : IsCut limit (r ++ more) = is_cut limit (r ++ more) in
    (u.frames, (one_cut limit (bytes ++ more) gs (fs ++ u.frames) s u.rest g u.is_full d (cut_on limit more u.frames u.rest u.is_full bytes fs r false c refl u.cuts)).0)
