-- A stream is cut in one way.
use Rattle.std.proofs.Common.{◌≡◌, refl, sym, subst, ap, ◌∙◌, arith, ℕ, zero, suc, ◌<◌, ◌≤◌, ◌==◌, ◌⊎◌, inl, inr, Bool, true, false, true≢false, not, ◌&&◌, ◌||◌, List, [], ◌∷◌, ◌++◌, length, take, drop, get_or, eqb-true, length-append, append-nil, take_at, take_all}
use Rattle.std.specs.List.{list_any}
use Rattle.std.proofs.lemmas.List.{take-append-le}
use Rattle.std.proofs.Math.Seq.{drop-append_seam}
use Rattle.kp_frames.specs.Frames.{is_white, opens, nest_of, is_back, begins_bracketed, begins_malformed, IsOpen, IsBracketed, IsMalformed, IsUnended, nothing_yet, brackets_open, line_open, Cuts, white, bracketed, malformed, unended, full}
use Rattle.kp_frames.proofs.Rests.{not_both}
use Rattle.kp_frames.proofs.Cutting.{full_or_room}

one_of : (a b : Bool) → (a || b) ≡ true → (a ≡ true) ⊎ (b ≡ true)
one_of true b e = inl refl
one_of false b e = inr e

white_byte : (b : ℕ) → is_white b ≡ true → opens b ≡ false
white_byte b w = elim (one_of ((b == 32) || (b == 9)) ((b == 13) || (b == 10)) w) [
  | inl h ↦ elim (one_of (b == 32) (b == 9) h) [ inl e ↦ at 32 e refl | inr e ↦ at 9 e refl ]
  | inr h ↦ elim (one_of (b == 13) (b == 10) h) [ inl e ↦ at 13 e refl | inr e ↦ at 10 e refl ]
]
  where
    at : (k : ℕ) → (b == k) ≡ true → opens k ≡ false → opens b ≡ false
    at k e o = subst (λ x. opens x ≡ false) (sym (eqb-true b k e)) o

white_not_bracket : (x : ℕ) (xs : List ℕ) → is_white x ≡ true → begins_bracketed (x ∷ xs) ≡ true → ⊥
white_not_bracket x xs w b = true≢false (sym b ∙ white_byte x w)

white_not_line : (x : ℕ) (xs : List ℕ) → is_white x ≡ true → begins_malformed (x ∷ xs) ≡ true → ⊥
white_not_line x xs w b = by (opens x) (is_white x) w b
  where
    by : (o t : Bool) → t ≡ true → (not o && not t) ≡ true → ⊥
    by true t w b = true≢false (sym b)
    by false true w b = true≢false (sym b)
    by false false w b = true≢false (sym w)

bracket_on : (p ys : List ℕ) → begins_bracketed p ≡ true → begins_bracketed (p ++ ys) ≡ true
bracket_on [] ys b = absurd (true≢false (sym b))
bracket_on (x ∷ xs) ys b = b

line_on : (p ys : List ℕ) → begins_malformed p ≡ true → begins_malformed (p ++ ys) ≡ true
line_on [] ys b = absurd (true≢false (sym b))
line_on (x ∷ xs) ys b = b

some_bytes : (p : List ℕ) → begins_bracketed p ≡ true → 0 < length p
some_bytes [] b = absurd (true≢false (sym b))
some_bytes (x ∷ xs) b = omega arith

front_is : (p q xs ys : List ℕ) → p ++ xs ≡ q ++ ys → length p ≤ length q → take (length p) q ≡ p
front_is p q xs ys e l = sym (take-append-le (length p) q ys l) ∙ ap (take (length p)) (sym e) ∙ take_at p xs (length p) refl

same_front : (p q xs ys : List ℕ) → p ++ xs ≡ q ++ ys → length p ≡ length q → (p ≡ q) × (xs ≡ ys)
same_front p q xs ys e l = (
  sym (front_is p q xs ys e (omega (arith, l))) ∙ take_all (length p) q (omega (arith, l)),
  sym (drop-append_seam p xs) ∙ ap (drop (length p)) e ∙ ap (λ k. drop k (q ++ ys)) l ∙ drop-append_seam q ys,
)

open_not_closed : (p r xs ys : List ℕ) → IsBracketed p → p ++ xs ≡ r ++ ys → length p ≤ length r → is_back (nest_of (take (length p) r)) ≡ false → ⊥
open_not_closed p r xs ys i e l o = true≢false (sym i.closed ∙ sym (ap (λ t. is_back (nest_of t)) (front_is p r xs ys e l)) ∙ o)

bracketed_open : (p r xs ys : List ℕ) → IsBracketed p → IsOpen r → p ++ xs ≡ r ++ ys → length p ≤ length r → ⊥
bracketed_open p r xs ys i o e l = open_not_closed p r xs ys i e l (o (length p) (some_bytes p i.begins) l)

not_shorter : (p q xs ys : List ℕ) → IsBracketed p → IsBracketed q → p ++ xs ≡ q ++ ys → length p < length q → ⊥
not_shorter p q xs ys i j e l = open_not_closed p q xs ys i e (omega (arith, l)) (j.shortest (length p) (some_bytes p i.begins) l)

same_length : (m n : ℕ) → (m < n → ⊥) → (n < m → ⊥) → m ≡ n
same_length zero zero f g = refl
same_length zero (suc n) f g = absurd (f (omega arith))
same_length (suc m) zero f g = absurd (g (omega arith))
same_length (suc m) (suc n) f g = ap suc (same_length m n (λ l. f (omega (arith, l))) (λ l. g (omega (arith, l))))

line_apart : (p q xs ys : List ℕ) → p ++ 10 ∷ xs ≡ q ++ ys → list_any (λ b. b == 10) q ≡ false → length p < length q → ⊥
line_apart p [] xs ys e n l = none l
  where
    none : length p < 0 → ⊥
    none h = omega (arith, h)
line_apart [] (c ∷ q) xs ys e n l = true≢false (subst (λ b. ((b == 10) || list_any (λ b. b == 10) q) ≡ false) (sym (ap (λ t. get_or t 0 0) e)) n)
line_apart (a ∷ p) (c ∷ q) xs ys e n l = line_apart p q xs ys (ap (drop 1) e) (rest (c == 10) n) (omega (arith, l))
  where
    rest : (t : Bool) → (t || list_any (λ b. b == 10) q) ≡ false → list_any (λ b. b == 10) q ≡ false
    rest true h = absurd (true≢false h)
    rest false h = h

unended_begins : (r ys : List ℕ) → IsUnended r → 0 < length r → (begins_bracketed (r ++ ys) ≡ true) ⊎ (begins_malformed (r ++ ys) ≡ true)
unended_begins r ys (nothing_yet e) p = absurd (none (ap length e) p)
  where
    none : length r ≡ 0 → 0 < length r → ⊥
    none e p = omega (arith, e, p)
unended_begins r ys (brackets_open b o) p = inl (bracket_on r ys b)
unended_begins r ys (line_open m) p = inr (line_on r ys m.begins)

unended_white : (r ys : List ℕ) (x : ℕ) (xs : List ℕ) → IsUnended r → 0 < length r → r ++ ys ≡ x ∷ xs → is_white x ≡ true → ⊥
unended_white r ys x xs u p e w = elim (unended_begins r ys u p)
    [ inl b ↦ white_not_bracket x xs w (subst (λ t. begins_bracketed t ≡ true) e b) | inr b ↦ white_not_line x xs w (subst (λ t. begins_malformed t ≡ true) e b) ]

-- behind white space
behind_white : (limit x : ℕ) (xs : List ℕ) (b : List ℕ) (gs : List (List ℕ)) (s : List ℕ) (g : Bool) → Cuts limit b gs s g → 0 < limit → x ∷ xs ≡ b → is_white x ≡ true → Cuts limit xs gs s g
behind_white limit x xs b gs s g (white y bs hs t k w c) z e v = subst (λ l. Cuts limit l hs t k) (sym (ap (drop 1) e)) c
behind_white limit x xs b gs s g (bracketed p bs hs t k i l c) z e v = absurd (white_not_bracket x xs v (subst (λ q. begins_bracketed q ≡ true) (sym e) (bracket_on p bs i.begins)))
behind_white limit x xs b gs s g (malformed p bs hs t k i l c) z e v = absurd (white_not_line x xs v (subst (λ q. begins_malformed q ≡ true) (sym e) (line_on p (10 ∷ bs) i.begins)))
behind_white limit x xs b gs s g (unended r u l) z e v = absurd (unended_white r [] x xs u (subst (λ q. 0 < length q) e (omega arith)) (append-nil r ∙ sym e) v)
behind_white limit x xs b gs s g (full r m u l) z e v = absurd (unended_white r m x xs u (omega (arith, z, l)) (sym e) v)

pub record Behind (limit : ℕ) (p xs : List ℕ) (gs : List (List ℕ)) (s : List ℕ) (g : Bool) : Type 0 where
  pub others : List (List ℕ)
  pub all : gs ≡ p ∷ others
  pub cuts : Cuts limit xs others s g

-- behind a bracketed frame
behind_bracketed : (limit : ℕ) (p xs : List ℕ) (b : List ℕ) (gs : List (List ℕ)) (s : List ℕ) (g : Bool) → Cuts limit b gs s g → p ++ xs ≡ b → IsBracketed p → length p ≤ limit → Behind limit p xs gs s g
behind_bracketed limit p xs b gs s g (white y bs hs t k w c) e i l = absurd (white_not_bracket y bs w (subst (λ q. begins_bracketed q ≡ true) e (bracket_on p xs i.begins)))
behind_bracketed limit p xs b gs s g (bracketed q bs hs t k j m c) e i l =
    let same : (p ≡ q) × (xs ≡ bs) = same_front p q xs bs e (same_length (length p) (length q) (not_shorter p q xs bs i j e) (not_shorter q p bs xs j i (sym e))) in
    record { others = hs; all = ap (λ f. f ∷ hs) (sym same.0); cuts = subst (λ v. Cuts limit v hs t k) (sym same.1) c }
behind_bracketed limit p xs b gs s g (malformed q bs hs t k j m c) e i l = absurd (not_both (p ++ xs) (bracket_on p xs i.begins) (subst (λ v. begins_malformed v ≡ true) (sym e) (line_on q (10 ∷ bs) j.begins)))
behind_bracketed limit p xs b gs s g (unended r u m) e i l = absurd (by u)
  where
    by : IsUnended r → ⊥
    by (nothing_yet n) = true≢false (sym (bracket_on p xs i.begins) ∙ ap begins_bracketed (e ∙ n))
    by (brackets_open c o) = bracketed_open p r xs [] i o (e ∙ sym (append-nil r)) (omega (arith, length-append p xs, ap length e))
    by (line_open c) = not_both r (subst (λ v. begins_bracketed v ≡ true) e (bracket_on p xs i.begins)) c.begins
behind_bracketed limit p xs b gs s g (full r more u m) e i l = absurd (by u)
  where
    by : IsUnended r → ⊥
    by (nothing_yet n) = omega (arith, some_bytes p i.begins, ap length n, m, l)
    by (brackets_open c o) = bracketed_open p r xs more i o e (omega (arith, m, l))
    by (line_open c) = not_both (r ++ more) (subst (λ v. begins_bracketed v ≡ true) e (bracket_on p xs i.begins)) (line_on r more c.begins)

-- behind a line
behind_line : (limit : ℕ) (p xs : List ℕ) (b : List ℕ) (gs : List (List ℕ)) (s : List ℕ) (g : Bool) → Cuts limit b gs s g → p ++ 10 ∷ xs ≡ b → IsMalformed p → length p < limit → Behind limit p xs gs s g
behind_line limit p xs b gs s g (white y bs hs t k w c) e i l = absurd (white_not_line y bs w (subst (λ q. begins_malformed q ≡ true) e (line_on p (10 ∷ xs) i.begins)))
behind_line limit p xs b gs s g (bracketed q bs hs t k j m c) e i l = absurd (not_both (q ++ bs) (bracket_on q bs j.begins) (subst (λ v. begins_malformed v ≡ true) e (line_on p (10 ∷ xs) i.begins)))
behind_line limit p xs b gs s g (malformed q bs hs t k j m c) e i l =
    let same : (p ≡ q) × (10 ∷ xs ≡ 10 ∷ bs) = same_front p q (10 ∷ xs) (10 ∷ bs) e (same_length (length p) (length q) (line_apart p q xs (10 ∷ bs) e j.one_line) (line_apart q p bs (10 ∷ xs) (sym e) i.one_line)) in
    record { others = hs; all = ap (λ f. f ∷ hs) (sym same.0); cuts = subst (λ v. Cuts limit v hs t k) (sym (ap (drop 1) same.1)) c }
behind_line limit p xs b gs s g (unended r u m) e i l = absurd (by u)
  where
    by : IsUnended r → ⊥
    by (nothing_yet n) = true≢false (sym (line_on p (10 ∷ xs) i.begins) ∙ ap begins_malformed (e ∙ n))
    by (brackets_open c o) = not_both r c (subst (λ v. begins_malformed v ≡ true) e (line_on p (10 ∷ xs) i.begins))
    by (line_open c) = line_apart p r xs [] (e ∙ sym (append-nil r)) c.one_line (omega (arith, length-append p (10 ∷ xs), ap length e))
behind_line limit p xs b gs s g (full r more u m) e i l = absurd (by u)
  where
    by : IsUnended r → ⊥
    by (nothing_yet n) = omega (arith, ap length n, m, l)
    by (brackets_open c o) = not_both (r ++ more) (bracket_on r more c) (subst (λ v. begins_malformed v ≡ true) e (line_on p (10 ∷ xs) i.begins))
    by (line_open c) = line_apart p r xs more e c.one_line (omega (arith, m, l))

nothing_is_something : (p : List ℕ) (fs : List (List ℕ)) → [] ≡ p ∷ fs → ⊥
nothing_is_something p fs e = none (ap length e)
  where
    none : 0 ≡ suc (length fs) → ⊥
    none h = omega (arith, h)

unended_alone : (limit : ℕ) (r : List ℕ) (b : List ℕ) (gs : List (List ℕ)) (s : List ℕ) (g : Bool) → Cuts limit b gs s g → r ≡ b → IsUnended r → length r < limit → ([] ≡ gs) × (r ≡ s) × (false ≡ g)
unended_alone limit r b gs s g (white y bs hs t k w c) e u l = absurd (unended_white r [] y bs u (subst (λ q. 0 < length q) (sym e) (omega arith)) (append-nil r ∙ e) w)
unended_alone limit r b gs s g (bracketed q bs hs t k j m c) e u l =
    let other : Behind limit q bs [] r false = behind_bracketed limit q bs r [] r false (unended r u l) (sym e) j m in absurd (nothing_is_something q other.others other.all)
unended_alone limit r b gs s g (malformed q bs hs t k j m c) e u l =
    let other : Behind limit q bs [] r false = behind_line limit q bs r [] r false (unended r u l) (sym e) j m in absurd (nothing_is_something q other.others other.all)
unended_alone limit r b gs s g (unended q v m) e u l = (refl, e, refl)
unended_alone limit r b gs s g (full q more v m) e u l = absurd (omega (arith, length-append q more, ap length e, l, m))

full_alone : (limit : ℕ) (r rest : List ℕ) (b : List ℕ) (gs : List (List ℕ)) (s : List ℕ) (g : Bool) → Cuts limit b gs s g → 0 < limit → r ++ rest ≡ b → IsUnended r → length r ≡ limit → ([] ≡ gs) × (r ≡ s) × (true ≡ g)
full_alone limit r rest b gs s g (white y bs hs t k w c) z e u l = absurd (unended_white r rest y bs u (omega (arith, z, l)) e w)
full_alone limit r rest b gs s g (bracketed q bs hs t k j m c) z e u l =
    let other : Behind limit q bs [] r true = behind_bracketed limit q bs (r ++ rest) [] r true (full r rest u l) (sym e) j m in absurd (nothing_is_something q other.others other.all)
full_alone limit r rest b gs s g (malformed q bs hs t k j m c) z e u l =
    let other : Behind limit q bs [] r true = behind_line limit q bs (r ++ rest) [] r true (full r rest u l) (sym e) j m in absurd (nothing_is_something q other.others other.all)
full_alone limit r rest b gs s g (unended q v m) z e u l = absurd (omega (arith, length-append r rest, ap length e, l, m))
full_alone limit r rest b gs s g (full q more v m) z e u l = (refl, (same_front r q rest more e (l ∙ sym m)).0, refl)

-- with room for no byte nothing is cut
cuts_nothing : (limit : ℕ) (b : List ℕ) (gs : List (List ℕ)) (s : List ℕ) (g : Bool) → Cuts limit b gs s g → limit ≡ 0 → ([] ≡ gs) × ([] ≡ s) × (true ≡ g)
cuts_nothing limit b gs s g (white y bs hs t k w c) z = cuts_nothing limit bs hs t k c z
cuts_nothing limit b gs s g (bracketed q bs hs t k j m c) z = absurd (omega (arith, some_bytes q j.begins, m, z))
cuts_nothing limit b gs s g (malformed q bs hs t k j m c) z = absurd (omega (arith, m, z))
cuts_nothing limit b gs s g (unended q v m) z = absurd (omega (arith, m, z))
cuts_nothing limit b gs s g (full q more v m) z = (refl, empty q (m ∙ z), refl)
  where
    empty : (q : List ℕ) → length q ≡ 0 → [] ≡ q
    empty [] h = refl
    empty (x ∷ xs) h = absurd (omega (arith, h))

one_way : (limit : ℕ) → 0 < limit → (a : List ℕ) (fs : List (List ℕ)) (r : List ℕ) (f : Bool) → Cuts limit a fs r f → (gs : List (List ℕ)) (s : List ℕ) (g : Bool) → Cuts limit a gs s g → (fs ≡ gs) × (r ≡ s) × (f ≡ g)
one_way limit z a fs r f (white y bs hs t k w c) gs s g d = one_way limit z bs hs t k c gs s g (behind_white limit y bs (y ∷ bs) gs s g d z refl w)
one_way limit z a fs r f (bracketed q bs hs t k j m c) gs s g d =
    let other : Behind limit q bs gs s g = behind_bracketed limit q bs (q ++ bs) gs s g d refl j m in
    let same : (hs ≡ other.others) × (t ≡ s) × (k ≡ g) = one_way limit z bs hs t k c other.others s g other.cuts in
    (ap (λ l. q ∷ l) same.0 ∙ sym other.all, same.1, same.2)
one_way limit z a fs r f (malformed q bs hs t k j m c) gs s g d =
    let other : Behind limit q bs gs s g = behind_line limit q bs (q ++ 10 ∷ bs) gs s g d refl j m in
    let same : (hs ≡ other.others) × (t ≡ s) × (k ≡ g) = one_way limit z bs hs t k c other.others s g other.cuts in
    (ap (λ l. q ∷ l) same.0 ∙ sym other.all, same.1, same.2)
one_way limit z a fs r f (unended q v m) gs s g d = unended_alone limit q q gs s g d refl v m
one_way limit z a fs r f (full q more v m) gs s g d = full_alone limit q more (q ++ more) gs s g d z refl v m

pub one_cut : (limit : ℕ) (a : List ℕ) (fs gs : List (List ℕ)) (r s : List ℕ) (f g : Bool) → Cuts limit a fs r f → Cuts limit a gs s g → (fs ≡ gs) × (r ≡ s) × (f ≡ g)
one_cut limit a fs gs r s f g c d = elim (full_or_room 0 limit (omega arith)) [
  | inl e ↦ (sym (cuts_nothing limit a fs r f c (sym e)).0 ∙ (cuts_nothing limit a gs s g d (sym e)).0, sym (cuts_nothing limit a fs r f c (sym e)).1 ∙ (cuts_nothing limit a gs s g d (sym e)).1, sym (cuts_nothing limit a fs r f c (sym e)).2 ∙ (cuts_nothing limit a gs s g d (sym e)).2)
  | inr e ↦ one_way limit e a fs r f c gs s g d
]
