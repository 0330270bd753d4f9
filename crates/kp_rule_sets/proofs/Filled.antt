-- Rows, once one more place stands in them.
use Rattle.std.proofs.Common.{◌≡◌, ◌≢◌, refl, sym, ap, subst, ◌∙◌, ℕ, suc, ◌+◌, ◌<◌, ◌≤◌, Bool, true, false, cond, List, [], ◌∷◌, ◌++◌, length, map, set, get_or, Option, Some, None, unwrap_or, arith, is_some, inl, inr, ◌⊎◌, ◌==◌}
use Rattle.std.specs.List.{filter}
use Rattle.std.specs.Str.{bytes_eq}
use Rattle.std.proofs.lemmas.List.{append-nil, length-map, length-set, length-append, get_or-map, get_or-set_same, get_or-set_other, get_or_append_left}
use Rattle.std.proofs.lemmas.List.Elements.{filter-append}
use Rattle.std.proofs.lemmas.Bool.Decides.{Decides-eqb}
use Rattle.std.proofs.lemmas.Slice.Eq.{bytes_eq-Decides}
use Rattle.std.proofs.Math.Seq.{get_or-append_seam}
use Rattle.kp_kore.specs.Syntax.{Text}
use Rattle.kp_rule_sets.specs.Tops.{Top, number, truth_value, some_token, constructor_named, tops_same}
use Rattle.kp_rule_sets.specs.Rows.{row_of, IsFilled}
use Rattle.kp_rule_sets.specs.declared.places.Ranked.{Ranked}

-- ---- no places yet

abbrev pub four_rows : List (List Ranked)
four_rows = [] ∷ [] ∷ [] ∷ [] ∷ []

pub none_filled : (own : Top → ℕ → Bool) (all : ℕ → Bool) (f : Text → Option ℕ) (rows : List (List Ranked)) (any : List Ranked) → ((c : Text) → f c ≡ None) → rows ≡ four_rows → any ≡ [] → IsFilled own all f rows any []
none_filled own all f rows any none is free = record {
  told = λ h. ap (λ l. get_or l (row_of f h) []) is ∙ by_row h;
  shared = free;
  empty = ap (λ l. get_or l 0 []) is;
  literals = subst (λ l. 4 ≤ length l) (sym is) (omega arith);
  low = λ c n e. absurd (never c n e);
  high = λ c n e. absurd (never c n e);
  apart = λ c d n e k. absurd (never c n e);
}
  where
    never : (c : Text) (n : ℕ) → f c ≡ Some n → ⊥
    never c n e = none_some (sym (none c) ∙ e)
      where
        none_some : {k : ℕ} → None ≡ Some k → ⊥
        none_some q = absurd (cc)

    by_row : (h : Top) → get_or four_rows (row_of f h) [] ≡ []
    by_row number = refl
    by_row truth_value = refl
    by_row some_token = refl
    by_row (constructor_named c) = ap (λ o. get_or four_rows (unwrap_or o 0) []) (none c)

-- ---- rows of heads

-- the row of each head is one of the rows
pub within : (own : Top → ℕ → Bool) (all : ℕ → Bool) (f : Text → Option ℕ) (rows : List (List Ranked)) (any seen : List Ranked) → IsFilled own all f rows any seen → (h : Top) → row_of f h < length rows
within own all f rows any seen is number = let four : 4 ≤ length rows = is.literals in omega arith
within own all f rows any seen is truth_value = let four : 4 ≤ length rows = is.literals in omega arith
within own all f rows any seen is some_token = let four : 4 ≤ length rows = is.literals in omega arith
within own all f rows any seen is (constructor_named c) = by (f c) refl
  where
    by : (o : Option ℕ) → f c ≡ o → unwrap_or o 0 < length rows
    by None e = let four : 4 ≤ length rows = is.literals in omega arith
    by (Some n) e = is.high c n e

-- a constructor's row is 0 or beyond those of literals
beyond : (own : Top → ℕ → Bool) (all : ℕ → Bool) (f : Text → Option ℕ) (rows : List (List Ranked)) (any seen : List Ranked) → IsFilled own all f rows any seen → (c : Text) → (unwrap_or (f c) 0 ≡ 0) ⊎ (4 ≤ unwrap_or (f c) 0)
beyond own all f rows any seen is c = by (f c) refl
  where
    by : (o : Option ℕ) → f c ≡ o → (unwrap_or o 0 ≡ 0) ⊎ (4 ≤ unwrap_or o 0)
    by None e = inl refl
    by (Some n) e = inr (is.low c n e)

not_literal : (n k : ℕ) → (n ≡ 0) ⊎ (4 ≤ n) → k < 4 → n ≡ k → k ≢ 0 → ⊥
not_literal n k (inl z) below same far = far (sym same ∙ z)
not_literal n k (inr four) below same far = omega arith

-- two heads of one row that isn't 0 are the same
same_head : (own : Top → ℕ → Bool) (all : ℕ → Bool) (f : Text → Option ℕ) (rows : List (List Ranked)) (any seen : List Ranked) → IsFilled own all f rows any seen → (g h : Top) → row_of f g ≢ 0 → row_of f h ≡ row_of f g → tops_same g h ≡ true
same_head own all f rows any seen is number number far same = refl
same_head own all f rows any seen is truth_value truth_value far same = refl
same_head own all f rows any seen is some_token some_token far same = refl
same_head own all f rows any seen is number truth_value far same = absurd (cc)
same_head own all f rows any seen is number some_token far same = absurd (cc)
same_head own all f rows any seen is truth_value number far same = absurd (cc)
same_head own all f rows any seen is truth_value some_token far same = absurd (cc)
same_head own all f rows any seen is some_token number far same = absurd (cc)
same_head own all f rows any seen is some_token truth_value far same = absurd (cc)
same_head own all f rows any seen is number (constructor_named c) far same = absurd (not_literal (unwrap_or (f c) 0) 1 (beyond own all f rows any seen is c) (omega arith) same far)
same_head own all f rows any seen is truth_value (constructor_named c) far same = absurd (not_literal (unwrap_or (f c) 0) 2 (beyond own all f rows any seen is c) (omega arith) same far)
same_head own all f rows any seen is some_token (constructor_named c) far same = absurd (not_literal (unwrap_or (f c) 0) 3 (beyond own all f rows any seen is c) (omega arith) same far)
same_head own all f rows any seen is (constructor_named c) number far same = absurd (not_literal (unwrap_or (f c) 0) 1 (beyond own all f rows any seen is c) (omega arith) (sym same) (λ e. far (sym same ∙ e)))
same_head own all f rows any seen is (constructor_named c) truth_value far same = absurd (not_literal (unwrap_or (f c) 0) 2 (beyond own all f rows any seen is c) (omega arith) (sym same) (λ e. far (sym same ∙ e)))
same_head own all f rows any seen is (constructor_named c) some_token far same = absurd (not_literal (unwrap_or (f c) 0) 3 (beyond own all f rows any seen is c) (omega arith) (sym same) (λ e. far (sym same ∙ e)))
same_head own all f rows any seen is (constructor_named c) (constructor_named d) far same = by (f c) (f d) refl refl far same
  where
    by : (o p : Option ℕ) → f c ≡ o → f d ≡ p → unwrap_or o 0 ≢ 0 → unwrap_or p 0 ≡ unwrap_or o 0 → bytes_eq c d ≡ true
    by None p e k far same = absurd (far refl)
    by (Some n) None e k far same = absurd (far (sym same))
    by (Some n) (Some m) e k far same = (bytes_eq-Decides c d).1 (is.apart c d n e (k ∙ ap Some same))

-- ---- one more place

one_more : (p : Ranked → Bool) (seen : List Ranked) (i : Ranked) → filter p (seen ++ i ∷ []) ≡ filter p seen ++ cond (p i) (i ∷ []) []
one_more p seen i = filter-append p seen (i ∷ [])

-- it isn't among those that are wanted
stays : (p : Ranked → Bool) (seen old : List Ranked) (i : Ranked) → old ≡ filter p seen → p i ≡ false → old ≡ filter p (seen ++ i ∷ [])
stays p seen old i is isnt = is ∙ sym (append-nil (filter p seen)) ∙ ap (λ b. filter p seen ++ cond b (i ∷ []) []) (sym isnt) ∙ sym (one_more p seen i)

-- it is
grows : (p : Ranked → Bool) (seen old : List Ranked) (i : Ranked) → old ≡ filter p seen → p i ≡ true → old ++ i ∷ [] ≡ filter p (seen ++ i ∷ [])
grows p seen old i is wanted = ap (λ l. l ++ i ∷ []) is ∙ ap (λ b. filter p seen ++ cond b (i ∷ []) []) (sym wanted) ∙ sym (one_more p seen i)

-- of all heads
pub to_all : (own : Top → ℕ → Bool) (all : ℕ → Bool) (f : Text → Option ℕ) (rows : List (List Ranked)) (any new seen : List Ranked) (i : Ranked) → IsFilled own all f rows any seen →
    new ≡ any ++ i ∷ [] → ((h : Top) → own h i.place ≡ false) → all i.place ≡ true → IsFilled own all f rows new (seen ++ i ∷ [])
to_all own all f rows any new seen i is e none wanted = record {
  told = λ h. stays (λ t. own h t.place) seen (get_or rows (row_of f h) []) i (is.told h) (none h);
  shared = e ∙ grows (λ t. all t.place) seen any i is.shared wanted;
  empty = is.empty;
  literals = is.literals;
  low = is.low;
  high = is.high;
  apart = is.apart;
}

-- of none
pub to_none : (own : Top → ℕ → Bool) (all : ℕ → Bool) (f : Text → Option ℕ) (rows : List (List Ranked)) (any seen : List Ranked) (i : Ranked) → IsFilled own all f rows any seen →
    ((h : Top) → own h i.place ≡ false) → all i.place ≡ false → IsFilled own all f rows any (seen ++ i ∷ [])
to_none own all f rows any seen i is none isnt = record {
  told = λ h. stays (λ t. own h t.place) seen (get_or rows (row_of f h) []) i (is.told h) (none h);
  shared = stays (λ t. all t.place) seen any i is.shared isnt;
  empty = is.empty;
  literals = is.literals;
  low = is.low;
  high = is.high;
  apart = is.apart;
}

-- of one head
pub to_one : (own : Top → ℕ → Bool) (all : ℕ → Bool) (f : Text → Option ℕ) (rows new : List (List Ranked)) (any seen : List Ranked) (i : Ranked) (g : Top) → IsFilled own all f rows any seen → row_of f g ≢ 0 →
    new ≡ set rows (row_of f g) (get_or rows (row_of f g) [] ++ i ∷ []) → ((h : Top) → own h i.place ≡ tops_same g h) → all i.place ≡ false → IsFilled own all f new any (seen ++ i ∷ [])
to_one own all f rows new any seen i g is far e tells isnt = record {
  told = λ h. ap (λ l. get_or l (row_of f h) []) e ∙ by h (row_of f h == row_of f g) refl;
  shared = stays (λ t. all t.place) seen any i is.shared isnt;
  empty = ap (λ l. get_or l 0 []) e ∙ get_or-set_other rows (row_of f g) 0 (get_or rows (row_of f g) [] ++ i ∷ []) [] (λ z. far (sym z)) ∙ is.empty;
  literals = subst (λ n. 4 ≤ n) (sym as_many) is.literals;
  low = is.low;
  high = λ c n k. subst (λ m. n < m) (sym as_many) (is.high c n k);
  apart = is.apart;
}
  where
    as_many : length new ≡ length rows
    as_many = ap length e ∙ length-set rows (row_of f g) (get_or rows (row_of f g) [] ++ i ∷ [])

    by : (h : Top) (b : Bool) → (row_of f h == row_of f g) ≡ b → get_or (set rows (row_of f g) (get_or rows (row_of f g) [] ++ i ∷ [])) (row_of f h) [] ≡ filter (λ t. own h t.place) (seen ++ i ∷ [])
    by h true q =
        let same : row_of f h ≡ row_of f g = (Decides-eqb (row_of f h) (row_of f g)).0 q in
        ap (λ n. get_or (set rows (row_of f g) (get_or rows (row_of f g) [] ++ i ∷ [])) n []) same
        ∙ get_or-set_same rows (row_of f g) (get_or rows (row_of f g) [] ++ i ∷ []) [] (within own all f rows any seen is g)
        ∙ ap (λ n. get_or rows n [] ++ i ∷ []) (sym same)
        ∙ grows (λ t. own h t.place) seen (get_or rows (row_of f h) []) i (is.told h) (tells h ∙ same_head own all f rows any seen is g h far same)
    by h false q =
        get_or-set_other rows (row_of f g) (row_of f h) (get_or rows (row_of f g) [] ++ i ∷ []) [] (λ same. yes_no ((Decides-eqb (row_of f h) (row_of f g)).1 same) q)
        ∙ stays (λ t. own h t.place) seen (get_or rows (row_of f h) []) i (is.told h) (tells h ∙ other g h q)
      where
        yes_no : {b : Bool} → b ≡ true → b ≡ false → ⊥
        yes_no y n = absurd (cc)

        other : (g h : Top) → (row_of f h == row_of f g) ≡ false → tops_same g h ≡ false
        other number number q = absurd (cc)
        other truth_value truth_value q = absurd (cc)
        other some_token some_token q = absurd (cc)
        other number truth_value q = refl
        other number some_token q = refl
        other truth_value number q = refl
        other truth_value some_token q = refl
        other some_token number q = refl
        other some_token truth_value q = refl
        other number (constructor_named c) q = refl
        other truth_value (constructor_named c) q = refl
        other some_token (constructor_named c) q = refl
        other (constructor_named c) number q = refl
        other (constructor_named c) truth_value q = refl
        other (constructor_named c) some_token q = refl
        other (constructor_named c) (constructor_named d) q = named (bytes_eq c d) refl
          where
            named : (b : Bool) → bytes_eq c d ≡ b → b ≡ false
            named false e = refl
            named true e = absurd (yes_no ((Decides-eqb (unwrap_or (f d) 0) (unwrap_or (f c) 0)).1 (ap (λ n. unwrap_or (f n) 0) (sym ((bytes_eq-Decides c d).0 e)))) q)

-- ---- one more row

pub one_row_more : (own : Top → ℕ → Bool) (all : ℕ → Bool) (f g : Text → Option ℕ) (rows new : List (List Ranked)) (any seen : List Ranked) (c : Text) → IsFilled own all f rows any seen → is_some (f c) ≡ false →
    new ≡ rows ++ [] ∷ [] → ((d : Text) → g d ≡ cond (bytes_eq c d) (Some (length rows)) (f d)) → IsFilled own all g new any seen
one_row_more own all f g rows new any seen c is fresh e after = record {
  told = λ h. ap (λ l. get_or l (row_of g h) []) e ∙ by h;
  shared = is.shared;
  empty = ap (λ l. get_or l 0 []) e ∙ get_or_append_left rows ([] ∷ []) [] 0 (let four : 4 ≤ length rows = is.literals in omega arith) ∙ is.empty;
  literals = let four : 4 ≤ length rows = is.literals in let n : length new ≡ suc (length rows) = as_many in omega arith;
  low = λ d n k. low d n (bytes_eq c d) refl k;
  high = λ d n k. high d n (bytes_eq c d) refl k;
  apart = λ d h n k l. apart d h n (bytes_eq c d) (bytes_eq c h) refl refl k l;
}
  where
    as_many : length new ≡ suc (length rows)
    as_many =
        let plus : length (rows ++ [] ∷ []) ≡ length rows + 1 = length-append rows ([] ∷ []) in
        ap length e ∙ plus ∙ (let one : length rows + 1 ≡ suc (length rows) = omega arith in one)

    at : (d : Text) (b : Bool) → bytes_eq c d ≡ b → g d ≡ cond b (Some (length rows)) (f d)
    at d b q = after d ∙ ap (λ x. cond x (Some (length rows)) (f d)) q

    none_of : (o : Option ℕ) → is_some o ≡ false → o ≡ None
    none_of None h = refl
    none_of (Some n) h = absurd (cc)

    none_here : f c ≡ None
    none_here = none_of (f c) fresh

    some_same : {k n : ℕ} → Some k ≡ Some n → k ≡ n
    some_same q = ap (λ o. unwrap_or o 0) q

    low : (d : Text) (n : ℕ) (b : Bool) → bytes_eq c d ≡ b → g d ≡ Some n → 4 ≤ n
    low d n true q k = subst (λ m. 4 ≤ m) (some_same (sym (at d true q) ∙ k)) is.literals
    low d n false q k = is.low d n (sym (at d false q) ∙ k)

    high : (d : Text) (n : ℕ) (b : Bool) → bytes_eq c d ≡ b → g d ≡ Some n → n < length new
    high d n true q k =
        let same : length rows ≡ n = some_same (sym (at d true q) ∙ k) in
        let many : length new ≡ suc (length rows) = as_many in
        omega arith
    high d n false q k =
        let below : n < length rows = is.high d n (sym (at d false q) ∙ k) in
        let many : length new ≡ suc (length rows) = as_many in
        omega arith

    apart : (d h : Text) (n : ℕ) (b p : Bool) → bytes_eq c d ≡ b → bytes_eq c h ≡ p → g d ≡ Some n → g h ≡ Some n → d ≡ h
    apart d h n true true q r k l = sym ((bytes_eq-Decides c d).0 q) ∙ (bytes_eq-Decides c h).0 r
    apart d h n false false q r k l = is.apart d h n (sym (at d false q) ∙ k) (sym (at h false r) ∙ l)
    apart d h n true false q r k l =
        let same : length rows ≡ n = some_same (sym (at d true q) ∙ k) in
        let below : n < length rows = is.high h n (sym (at h false r) ∙ l) in
        absurd (omega arith)
    apart d h n false true q r k l =
        let same : length rows ≡ n = some_same (sym (at h true r) ∙ l) in
        let below : n < length rows = is.high d n (sym (at d false q) ∙ k) in
        absurd (omega arith)

    before : (h : Top) → row_of f h < length rows
    before h = within own all f rows any seen is h

    old_row : (h : Top) → row_of g h ≡ row_of f h → get_or (rows ++ [] ∷ []) (row_of g h) [] ≡ filter (λ t. own h t.place) seen
    old_row h same = ap (λ n. get_or (rows ++ [] ∷ []) n []) same ∙ get_or_append_left rows ([] ∷ []) [] (row_of f h) (before h) ∙ is.told h

    by : (h : Top) → get_or (rows ++ [] ∷ []) (row_of g h) [] ≡ filter (λ t. own h t.place) seen
    by number = old_row number refl
    by truth_value = old_row truth_value refl
    by some_token = old_row some_token refl
    by (constructor_named d) = named (bytes_eq c d) refl
      where
        named : (b : Bool) → bytes_eq c d ≡ b → get_or (rows ++ [] ∷ []) (unwrap_or (g d) 0) [] ≡ filter (λ t. own (constructor_named d) t.place) seen
        named false q = old_row (constructor_named d) (ap (λ o. unwrap_or o 0) (at d false q))
        named true q =
            ap (λ o. get_or (rows ++ [] ∷ []) (unwrap_or o 0) []) (at d true q)
            ∙ get_or-append_seam rows [] [] []
            ∙ sym is.empty
            ∙ ap (λ o. get_or rows (unwrap_or o 0) []) (sym (ap f (sym ((bytes_eq-Decides c d).0 q)) ∙ none_here))
            ∙ is.told (constructor_named d)

-- the row that was added isn't that of the others
pub row_found : (own : Top → ℕ → Bool) (all : ℕ → Bool) (f : Text → Option ℕ) (rows : List (List Ranked)) (any seen : List Ranked) (c : Text) → IsFilled own all f rows any seen → is_some (f c) ≡ true → row_of f (constructor_named c) ≢ 0
row_found own all f rows any seen c is there = by (f c) refl there
  where
    by : (o : Option ℕ) → f c ≡ o → is_some o ≡ true → unwrap_or o 0 ≢ 0
    by None e h z = absurd (cc)
    by (Some n) e h z = let four : 4 ≤ n = is.low c n e in absurd (omega arith)

pub row_made : (f g : Text → Option ℕ) (n : ℕ) (c : Text) → ((d : Text) → g d ≡ cond (bytes_eq c d) (Some n) (f d)) → 4 ≤ n → row_of g (constructor_named c) ≢ 0
row_made f g n c after four z =
    let made : g c ≡ Some n = after c ∙ ap (λ b. cond b (Some n) (f c)) ((bytes_eq-Decides c c).1 refl) in
    let same : n ≡ 0 = ap (λ o. unwrap_or o 0) (sym made) ∙ z in
    absurd (omega arith)
