-- Two rows merged are the places that stand in either, in order.
use Rattle.std.proofs.Common.{◌≡◌, refl, sym, ap, subst, ◌∙◌, ℕ, zero, suc, ◌+◌, ◌<◌, ◌≤◌, Bool, true, false, cond, not, ◌||◌, List, [], ◌∷◌, ◌++◌, length, take, map, get_or, Option, Some, None, slice_get, nat_lt, arith}
use Rattle.std.specs.List.{AllByRecursion, filter}
use Rattle.std.proofs.lemmas.Bool.Decides.{Decides-ltb}
use Rattle.std.proofs.lemmas.List.{take_more, length-take-le}
use Rattle.kp_kore.specs.Syntax.{Text}
use Rattle.kp_rules.specs.declared.rule.Rule.{Rule}
use Rattle.kp_rule_sets.specs.Merged.{put_in, merged, goes_on, places_of}
use Rattle.kp_rule_sets.specs.Rows.{row_of, IsFilled, numbered}
use Rattle.kp_rule_sets.specs.Tops.{Top, Tops, any_top, no_top, only_top, allow, is_only, is_any, tops_same, body_tops, may_have, has, has_any}
use Rattle.kp_rule_sets.specs.Turns.{is_mine, AreInTurn}
use Rattle.kp_rule_sets.specs.declared.places.Ranked.{Ranked}
use Rattle.kp_rule_sets.proofs.InTurn.{kept_in_turn}

-- ---- one is taken

pub own_taken : (x : Ranked) (xs ys : List Ranked) → goes_on (x ∷ xs) ys ≡ true → merged (x ∷ xs) ys ≡ x ∷ merged xs ys
own_taken x xs [] h = refl
own_taken x xs (y ∷ ys) h = ap (λ b. cond b (x ∷ merged xs (y ∷ ys)) (y ∷ merged (x ∷ xs) ys)) h

pub other_taken : (xs : List Ranked) (y : Ranked) (ys : List Ranked) → goes_on xs (y ∷ ys) ≡ false → merged xs (y ∷ ys) ≡ y ∷ merged xs ys
other_taken [] y ys h = refl
other_taken (x ∷ xs) y ys h = ap (λ b. cond b (x ∷ merged xs (y ∷ ys)) (y ∷ merged (x ∷ xs) ys)) h

pub none_left : (xs : List Ranked) → goes_on xs [] ≡ false → merged xs [] ≡ []
none_left [] h = refl
none_left (x ∷ xs) h = absurd (cc)

pub own_never_ends : (ys : List Ranked) → goes_on [] ys ≡ true → ⊥
own_never_ends ys h = absurd (cc)

-- ---- places in order

abbrev at_turn : ℕ → ℕ → Ranked
at_turn n i = record { turn = n; place = i }

abbrev AreLater : ℕ → List Ranked → Type 0
AreLater n = AllByRecursion (λ t. n < t.turn)

later_numbered : (m n : ℕ) (is : List ℕ) → m < n → AreLater m (numbered n is)
later_numbered m n [] h = tt
later_numbered m n (i ∷ is) h = (h, later_numbered m (suc n) is (on m n h))
  where
    on : (m n : ℕ) → m < n → m < suc n
    on m n h = omega arith

later_kept : (m : ℕ) (p : Ranked → Bool) (ts : List Ranked) → AreLater m ts → AreLater m (filter p ts)
later_kept m p [] h = tt
later_kept m p (t ∷ ts) h = by (p t) (later_kept m p ts h.1)
  where
    by : (b : Bool) → AreLater m (filter p ts) → AreLater m (cond b (t ∷ filter p ts) (filter p ts))
    by true rest = (h.0, rest)
    by false rest = rest

next_later : (n : ℕ) (p : Ranked → Bool) (is : List ℕ) → AreLater n (filter p (numbered (suc n) is))
next_later n p is = later_kept n p (numbered (suc n) is) (later_numbered n (suc n) is (up n))
  where
    up : (n : ℕ) → n < suc n
    up n = omega arith

own_first : (x : Ranked) (xs ys : List Ranked) → AreLater x.turn ys → merged (x ∷ xs) ys ≡ x ∷ merged xs ys
own_first x xs [] h = own_taken x xs [] refl
own_first x xs (y ∷ ys) h = own_taken x xs (y ∷ ys) ((Decides-ltb x.turn y.turn).1 h.0)

not_less : (m n : ℕ) → m < n → nat_lt n m ≡ false
not_less m n h = by (nat_lt n m) refl
  where
    by : (b : Bool) → nat_lt n m ≡ b → b ≡ false
    by false e = refl
    by true e = (let less : n < m = (Decides-ltb n m).0 e in absurd (omega arith))

other_first : (y : Ranked) (xs ys : List Ranked) → AreLater y.turn xs → merged xs (y ∷ ys) ≡ y ∷ merged xs ys
other_first y [] ys h = refl
other_first y (x ∷ xs) ys h = other_taken (x ∷ xs) y ys (not_less y.turn x.turn h.0)

pub both_rows : (p q : Ranked → Bool) → ((t : Ranked) → p t ≡ true → q t ≡ true → ⊥) → (n : ℕ) (is : List ℕ) → merged (filter p (numbered n is)) (filter q (numbered n is)) ≡ filter (λ t. p t || q t) (numbered n is)
both_rows p q apart n [] = refl
both_rows p q apart n (i ∷ is) = by (both_rows p q apart (suc n) is) (p x) refl (q x) refl
  where
    x : Ranked
    x = at_turn n i

    xs : List Ranked
    xs = filter p (numbered (suc n) is)

    ys : List Ranked
    ys = filter q (numbered (suc n) is)

    both : List Ranked
    both = filter (λ t. p t || q t) (numbered (suc n) is)

    by : merged xs ys ≡ both → (b : Bool) → p x ≡ b → (c : Bool) → q x ≡ c → merged (cond b (x ∷ xs) xs) (cond c (x ∷ ys) ys) ≡ cond (b || c) (x ∷ both) both
    by e true f true g = absurd (apart x f g)
    by e true f false g = own_first x xs ys (next_later n q is) ∙ ap (λ l. x ∷ l) e
    by e false f true g = other_first x xs ys (next_later n p is) ∙ ap (λ l. x ∷ l) e
    by e false f false g = e

pub placed : (p : Ranked → Bool) (w : ℕ → Bool) → ((t : Ranked) → p t ≡ w t.place) → (n : ℕ) (is : List ℕ) → places_of (filter p (numbered n is)) ≡ filter w is
placed p w same n [] = refl
placed p w same n (i ∷ is) = by (placed p w same (suc n) is) (p (at_turn n i)) (w i) (same (at_turn n i))
  where
    by : places_of (filter p (numbered (suc n) is)) ≡ filter w is → (b c : Bool) → b ≡ c → places_of (cond b (at_turn n i ∷ filter p (numbered (suc n) is)) (filter p (numbered (suc n) is))) ≡ cond c (i ∷ filter w is) (filter w is)
    by e true true f = ap (λ l. i ∷ l) e
    by e false false f = e
    by e true false f = absurd (cc)
    by e false true f = absurd (cc)

-- one place more
numbered_push : (n : ℕ) (is : List ℕ) (i : ℕ) → numbered n (is ++ i ∷ []) ≡ numbered n is ++ at_turn (n + length is) i ∷ []
numbered_push n [] i = ap (λ m. at_turn m i ∷ []) (let same : n ≡ n + 0 = omega arith in same)
numbered_push n (j ∷ is) i = ap (λ l. at_turn n j ∷ l) (numbered_push (suc n) is i ∙ ap (λ m. numbered (suc n) is ++ at_turn m i ∷ []) (let same : suc n + length is ≡ n + suc (length is) = omega arith in same))

pub numbered_more : (is : List ℕ) (n d : ℕ) → n < length is → numbered 0 (take (n + 1) is) ≡ numbered 0 (take n is) ++ record { turn = n; place = get_or is n d } ∷ []
numbered_more is n d h =
    let place : 0 + length (take n is) ≡ n = (let z : (m : ℕ) → 0 + m ≡ m = λ m. omega arith in z (length (take n is))) ∙ length-take-le n is (let le : n ≤ length is = omega arith in le) in
    ap (numbered 0) (take_more is n d h) ∙ numbered_push 0 (take n is) (get_or is n d) ∙ ap (λ m. numbered 0 (take n is) ++ at_turn m (get_or is n d) ∷ []) place

-- ---- of the rules

or_false : (b : Bool) → (b || false) ≡ b
or_false true = refl
or_false false = refl

split : (t : Tops) (h : Top) → (is_only t h || is_any t) ≡ allow t h
split any_top h = refl
split no_top h = refl
split (only_top g) h = or_false (tops_same g h)

not_both : (t : Tops) (h : Top) → is_only t h ≡ true → is_any t ≡ true → ⊥
not_both any_top h e f = absurd (cc)
not_both no_top h e f = absurd (cc)
not_both (only_top g) h e f = absurd (cc)

split_at : (o : Option Rule) (h : Top) → (is_mine (has h) o || is_mine has_any o) ≡ is_mine (may_have h) o
split_at (Some r) h = split (body_tops r.body.value) h
split_at None h = refl

not_both_at : (o : Option Rule) (h : Top) → is_mine (has h) o ≡ true → is_mine has_any o ≡ true → ⊥
not_both_at (Some r) h e f = not_both (body_tops r.body.value) h e f
not_both_at None h e f = absurd (cc)

-- what the rows of all places say
pub rows_in_turn : (rules : List Rule) (order : List ℕ) (f : Text → Option ℕ) (rows : List (List Ranked)) (any : List Ranked) (h : Top) → AreInTurn rules (λ _. true) order →
    IsFilled (λ g i. is_mine (has g) (slice_get rules i)) (λ i. is_mine has_any (slice_get rules i)) f rows any (numbered 0 order) → AreInTurn rules (may_have h) (places_of (merged (get_or rows (row_of f h) []) any))
rows_in_turn rules order f rows any h is fills = subst (AreInTurn rules (may_have h)) (sym same) (kept_in_turn rules (may_have h) order is)
  where
    p : Ranked → Bool
    p = λ t. is_mine (has h) (slice_get rules t.place)

    q : Ranked → Bool
    q = λ t. is_mine has_any (slice_get rules t.place)

    same : places_of (merged (get_or rows (row_of f h) []) any) ≡ filter (λ i. is_mine (may_have h) (slice_get rules i)) order
    same =
        ap (λ l. places_of (merged l any)) (fills.told h)
        ∙ ap (λ l. places_of (merged (filter p (numbered 0 order)) l)) fills.shared
        ∙ ap places_of (both_rows p q (λ t. not_both_at (slice_get rules t.place) h) 0 order)
        ∙ placed (λ t. p t || q t) (λ i. is_mine (may_have h) (slice_get rules i)) (λ t. split_at (slice_get rules t.place) h) 0 order
