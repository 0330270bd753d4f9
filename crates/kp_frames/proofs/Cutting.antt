-- Cutting, run by run.
use Rattle.std.proofs.Common.{rules, ◌≡◌, refl, sym, subst, ap, ◌∙◌, arith, ℕ, zero, suc, ◌+◌, ◌<◌, ◌≤◌, ◌==◌, ◌⊎◌, inl, inr, Bool, true, false, true≢false, ◌&&◌, ◌||◌, List, [], ◌∷◌, ◌++◌, length, take, drop, if◌then◌else◌, length-append, append-nil, append_assoc, take-add, take-append-drop}
use Rattle.std.specs.List.{list_any, list_all}
use Rattle.std.proofs.lemmas.List.{take_all, take-take, length-take-le}
use Rattle.std.proofs.lemmas.List.Folds.{list_any-append}
use Rattle.kp_frames.specs.declared.nest.Nest.{Nest}
use Rattle.kp_frames.specs.Frames.{is_white, nest_of, start, begins_bracketed, begins_malformed, IsBracketed, IsMalformed, IsUnended, nothing_yet, brackets_open, line_open, Cuts, white, bracketed, malformed, unended, full}
use Rattle.kp_frames.specs.Held.{IsHeld, Takes}
use Rattle.kp_frames.proofs.Rests.{not_both}

-- behind a rest that isn't full the cut goes on from the rest
pub cut_on : (limit : ℕ) (more : List ℕ) (new : List (List ℕ)) (later : List ℕ) (t : Bool) (bytes : List ℕ) (fs : List (List ℕ)) (r : List ℕ) (f : Bool) → Cuts limit bytes fs r f → f ≡ false → Cuts limit (r ++ more) new later t → Cuts limit (bytes ++ more) (fs ++ new) later t
cut_on limit more new later t bytes fs r f (white b bs gs s g w c) e next = white b (bs ++ more) (gs ++ new) later t w (cut_on limit more new later t bs gs s g c e next)
cut_on limit more new later t bytes fs r f (bracketed p bs gs s g i l c) e next = subst (λ x. Cuts limit x (p ∷ (gs ++ new)) later t) (sym (append_assoc p bs more)) (bracketed p (bs ++ more) (gs ++ new) later t i l (cut_on limit more new later t bs gs s g c e next))
cut_on limit more new later t bytes fs r f (malformed p bs gs s g i l c) e next = subst (λ x. Cuts limit x (p ∷ (gs ++ new)) later t) (sym (append_assoc p (10 ∷ bs) more)) (malformed p (bs ++ more) (gs ++ new) later t i l (cut_on limit more new later t bs gs s g c e next))
cut_on limit more new later t bytes fs r f (unended s u l) e next = next
cut_on limit more new later t bytes fs r f (full s m u l) e next = absurd (true≢false e)

-- behind a full rest nothing is cut
pub cut_full : (limit : ℕ) (more : List ℕ) (bytes : List ℕ) (fs : List (List ℕ)) (r : List ℕ) (f : Bool) → Cuts limit bytes fs r f → f ≡ true → Cuts limit (bytes ++ more) fs r true
cut_full limit more bytes fs r f (white b bs gs s g w c) e = white b (bs ++ more) gs s true w (cut_full limit more bs gs s g c e)
cut_full limit more bytes fs r f (bracketed p bs gs s g i l c) e = subst (λ x. Cuts limit x (p ∷ gs) s true) (sym (append_assoc p bs more)) (bracketed p (bs ++ more) gs s true i l (cut_full limit more bs gs s g c e))
cut_full limit more bytes fs r f (malformed p bs gs s g i l c) e = subst (λ x. Cuts limit x (p ∷ gs) s true) (sym (append_assoc p (10 ∷ bs) more)) (malformed p (bs ++ more) gs s true i l (cut_full limit more bs gs s g c e))
cut_full limit more bytes fs r f (unended s u l) e = absurd (true≢false (sym e))
cut_full limit more bytes fs r f (full s m u l) e = subst (λ x. Cuts limit x [] s true) (sym (append_assoc s m more)) (full s (m ++ more) u l)

pub full_test : (a b : ℕ) → a ≡ b → (a == b) ≡ true
full_test a b e = search rules

pub room_test : (a b : ℕ) → a < b → (a == b) ≡ false
room_test a b l = search (rules, different)
  where
    different : a ≡ b → ⊥
    different e = omega (arith, e, l)

pub full_or_room : (a b : ℕ) → a ≤ b → (a ≡ b) ⊎ (a < b)
full_or_room zero zero l = inl refl
full_or_room zero (suc b) l = inr (omega arith)
full_or_room (suc a) zero l = absurd (none l)
  where
    none : suc a ≤ 0 → ⊥
    none e = omega (arith, e)
full_or_room (suc a) (suc b) l = elim (full_or_room a b (omega (arith, l))) [ inl e ↦ inl (ap suc e) | inr e ↦ inr (omega (arith, e)) ]

-- what isn't ended is its own rest
pub unended_cuts : (limit : ℕ) (r : List ℕ) → IsUnended r → length r ≤ limit → Cuts limit r [] r (length r == limit)
unended_cuts limit r u l = elim (full_or_room (length r) limit l) [
  | inl e ↦ subst (λ t. Cuts limit r [] r t) (sym (full_test (length r) limit e)) (subst (λ x. Cuts limit x [] r true) (append-nil r) (full r [] u e))
  | inr e ↦ subst (λ t. Cuts limit r [] r t) (sym (room_test (length r) limit e)) (unended r u e)
]

pub nothing_cuts : (limit : ℕ) → Cuts limit [] [] [] (0 == limit)
nothing_cuts limit = unended_cuts limit [] (nothing_yet refl) (omega arith)

pub nothing_held : (limit : ℕ) (r : List ℕ) (n : Nest) → r ≡ [] → n ≡ start → IsHeld limit r n
nothing_held limit r n e s = subst (λ x. IsHeld limit x n) (sym e) (record { unended = nothing_yet refl; within = omega arith; nest = s })

-- all of a window is taken, and nothing ends
pub whole_taken : (limit : ℕ) (r w : List ℕ) (fs : List (List ℕ)) (n : Nest) → IsHeld limit (r ++ w) n → 0 < length w → Takes limit r w (length w) fs fs (r ++ w)
whole_taken limit r w fs n h p = record {
  positive = p;
  within = omega arith;
  ended = [];
  behind = sym (append-nil fs);
  cuts = subst (λ x. Cuts limit (r ++ x) [] (r ++ w) (length (r ++ w) == limit)) (sym (take_all (length w) w (omega arith))) (unended_cuts limit (r ++ w) h.unended h.within);
}

-- a bracketed frame ends
pub frame_taken : (limit : ℕ) (r w : List ℕ) (k : ℕ) (fs later : List (List ℕ)) → IsBracketed (r ++ take k w) → 0 < k → k ≤ length w → length r + length w ≤ limit → later ≡ fs ++ (r ++ take k w) ∷ [] → Takes limit r w k fs later []
frame_taken limit r w k fs later i p l m e = record {
  positive = p;
  within = l;
  ended = (r ++ take k w) ∷ [];
  behind = e;
  cuts = subst (λ x. Cuts limit x ((r ++ take k w) ∷ []) [] (0 == limit)) (append-nil (r ++ take k w)) (bracketed (r ++ take k w) [] [] [] (0 == limit) i short (nothing_cuts limit));
}
  where
    short : length (r ++ take k w) ≤ limit
    short = omega (arith, length-append r (take k w), length-take-le k w l, l, m)

-- a line ends
pub line_taken : (limit : ℕ) (r w : List ℕ) (k : ℕ) (fs later : List (List ℕ)) → IsMalformed (r ++ take k w) → k < length w → take (k + 1) w ≡ take k w ++ 10 ∷ [] → length r + length w ≤ limit → later ≡ fs ++ (r ++ take k w) ∷ [] → Takes limit r w (k + 1) fs later []
line_taken limit r w k fs later i l q m e = record {
  positive = omega arith;
  within = omega (arith, l);
  ended = (r ++ take k w) ∷ [];
  behind = e;
  cuts = subst (λ x. Cuts limit x ((r ++ take k w) ∷ []) [] (0 == limit)) (append_assoc r (take k w) (10 ∷ []) ∙ ap (λ t. r ++ t) (sym q)) (malformed (r ++ take k w) [] [] [] (0 == limit) i short (nothing_cuts limit));
}
  where
    short : length (r ++ take k w) < limit
    short = omega (arith, length-append r (take k w), length-take-le k w (omega (arith, l)), l, m)

-- a text that begins as a line is held as one
malformed_rest : (limit : ℕ) (r w : List ℕ) (n : Nest) → IsHeld limit r n → begins_malformed (r ++ w) ≡ true → list_any (λ b. b == 10) r ≡ false
malformed_rest limit r w n h b = by r b h.unended
  where
    by : (r : List ℕ) → begins_malformed (r ++ w) ≡ true → IsUnended r → list_any (λ b. b == 10) r ≡ false
    by [] b u = refl
    by (x ∷ xs) b (nothing_yet e) = cc
    by (x ∷ xs) b (brackets_open t o) = absurd (not_both (x ∷ xs) t b)
    by (x ∷ xs) b (line_open m) = m.one_line

pub is_line : (limit : ℕ) (r w v : List ℕ) (n : Nest) → IsHeld limit r n → begins_malformed (r ++ w) ≡ true → begins_malformed (r ++ v) ≡ true → list_any (λ b. b == 10) v ≡ false → IsMalformed (r ++ v)
is_line limit r w v n h b d e = record {
  begins = d;
  one_line = list_any-append (λ b. b == 10) r v ∙ ap (λ t. t || list_any (λ b. b == 10) v) (malformed_rest limit r w n h b) ∙ e;
}

not_bracketed : (r : List ℕ) → begins_malformed r ≡ true → begins_bracketed r ≡ false
not_bracketed r m = by (begins_bracketed r) refl
  where
    by : (t : Bool) → begins_bracketed r ≡ t → begins_bracketed r ≡ false
    by true e = absurd (not_both r e m)
    by false e = e

line_nest : (limit : ℕ) (r w : List ℕ) (n : Nest) → IsHeld limit r n → begins_malformed (r ++ w) ≡ true → n ≡ start
line_nest limit [] w n h b = h.nest
line_nest limit (x ∷ xs) w n h b = h.nest ∙ ap (λ t. if t then nest_of (x ∷ xs) else start) (not_bracketed (x ∷ xs) b)

pub line_held : (limit : ℕ) (r w : List ℕ) (n : Nest) → IsHeld limit r n → begins_malformed (r ++ w) ≡ true → length r + length w ≤ limit → list_any (λ b. b == 10) w ≡ false → IsHeld limit (r ++ w) n
line_held limit r w n h b l e = record {
  unended = line_open (is_line limit r w w n h b b e);
  within = omega (arith, l, length-append r w);
  nest = line_nest limit r w n h b ∙ sym (ap (λ t. if t then nest_of (r ++ w) else start) (not_bracketed (r ++ w) b));
}

-- a line's front begins as the line, if its line feed isn't the first byte
pub line_front : (r w : List ℕ) (k : ℕ) → begins_malformed (r ++ w) ≡ true → take (k + 1) w ≡ take k w ++ 10 ∷ [] → k < length w → begins_malformed (r ++ take k w) ≡ true
line_front (x ∷ xs) w k b q l = b
line_front [] [] k b q l = absurd (true≢false (sym b))
line_front [] (x ∷ xs) zero b q l = absurd (true≢false (sym b ∙ ap begins_malformed q))
line_front [] (x ∷ xs) (suc k) b q l = b

-- white space is skipped
whites : (limit : ℕ) (ws : List ℕ) → list_all is_white ws ≡ true → Cuts limit ws [] [] (0 == limit)
whites limit [] e = nothing_cuts limit
whites limit (x ∷ xs) e = white x xs [] [] (0 == limit) (first (is_white x) (list_all is_white xs) e) (whites limit xs (others (is_white x) (list_all is_white xs) e))
  where
    first : (a b : Bool) → (a && b) ≡ true → a ≡ true
    first true b e = refl
    first false b e = e

    others : (a b : Bool) → (a && b) ≡ true → b ≡ true
    others true b e = e
    others false b e = absurd (true≢false (sym e))

pub white_taken : (limit : ℕ) (r piece : List ℕ) (k : ℕ) (fs : List (List ℕ)) → r ≡ [] → 0 < k → k ≤ length piece → list_all is_white (take k piece) ≡ true → Takes limit r piece k fs fs r
white_taken limit r piece k fs e p l w = subst (λ x. Takes limit x piece k fs fs x) (sym e) (record {
  positive = p;
  within = l;
  ended = [];
  behind = sym (append-nil fs);
  cuts = whites limit (take k piece) w;
})

-- what is taken of a window is taken of the piece
pub window_taken : (limit : ℕ) (r piece : List ℕ) (m k : ℕ) (fs later : List (List ℕ)) (after : List ℕ) → m ≤ length piece → Takes limit r (take m piece) k fs later after → Takes limit r piece k fs later after
window_taken limit r piece m k fs later after l t = record {
  positive = t.positive;
  within = omega (arith, t.within, length-take-le m piece l, l);
  ended = t.ended;
  behind = t.behind;
  cuts = subst (λ x. Cuts limit (r ++ x) t.ended after (length after == limit)) (take-take k m piece (omega (arith, t.within, length-take-le m piece l))) t.cuts;
}

-- one more turn of the loop over a piece
pub turn : (limit : ℕ) (old rest piece : List ℕ) (at k : ℕ) (fs later : List (List ℕ)) (after : List ℕ) → length rest < limit → Cuts limit (old ++ take at piece) fs rest (length rest == limit) → Takes limit rest (drop at piece) k fs later after → Cuts limit (old ++ take (at + k) piece) later after (length after == limit)
turn limit old rest piece at k fs later after l c t = subst (λ g. Cuts limit (old ++ take (at + k) piece) g after (length after == limit)) (sym t.behind)
    (subst (λ x. Cuts limit x (fs ++ t.ended) after (length after == limit)) (append_assoc old (take at piece) (take k (drop at piece)) ∙ ap (λ x. old ++ x) (sym (take-add at k piece)))
    (cut_on limit (take k (drop at piece)) t.ended after (length after == limit) (old ++ take at piece) fs rest (length rest == limit) c (room_test (length rest) limit l) t.cuts))

-- at the loop's end: the piece is done, or the rest is full
pub piece_cut : (limit : ℕ) (old rest piece : List ℕ) (at : ℕ) (ended : List (List ℕ)) → Cuts limit (old ++ take at piece) ended rest (length rest == limit) → (length piece ≤ at) ⊎ (length rest ≡ limit) → Cuts limit (old ++ piece) ended rest (length rest == limit)
piece_cut limit old rest piece at ended c (inl h) = subst (λ x. Cuts limit (old ++ x) ended rest (length rest == limit)) (take_all at piece h) c
piece_cut limit old rest piece at ended c (inr h) = subst (λ t. Cuts limit (old ++ piece) ended rest t) (sym (full_test (length rest) limit h))
    (subst (λ x. Cuts limit x ended rest true) (append_assoc old (take at piece) (drop at piece) ∙ ap (λ x. old ++ x) (take-append-drop at piece))
    (cut_full limit (drop at piece) (old ++ take at piece) ended rest (length rest == limit) c (full_test (length rest) limit h)))

-- over all bytes so far
pub fed : (limit : ℕ) (old rest piece : List ℕ) (ended : List (List ℕ)) → length old ≤ limit → Cuts limit (old ++ piece) ended rest (length rest == limit) → (length old ≡ limit → (rest ≡ old) × (ended ≡ [])) →
    (bytes : List ℕ) (frames : List (List ℕ)) → Cuts limit bytes frames old (length old == limit) → Cuts limit (bytes ++ piece) (frames ++ ended) rest (length rest == limit)
fed limit old rest piece ended l c same bytes frames before = elim (full_or_room (length old) limit l) [
  | inl e ↦ subst (λ x. Cuts limit (bytes ++ piece) (frames ++ ended) x (length x == limit)) (sym (same e).0)
      (subst (λ t. Cuts limit (bytes ++ piece) (frames ++ ended) old t) (sym (full_test (length old) limit e))
      (subst (λ g. Cuts limit (bytes ++ piece) g old true) (sym (append-nil frames) ∙ ap (λ g. frames ++ g) (sym (same e).1)) (cut_full limit piece bytes frames old (length old == limit) before (full_test (length old) limit e))))
  | inr e ↦ cut_on limit piece ended rest (length rest == limit) bytes frames old (length old == limit) before (room_test (length old) limit e) c
]
