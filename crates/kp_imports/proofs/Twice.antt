-- Names that stand at most once, and one more.
use Rattle.std.proofs.Common.{◌≡◌, refl, sym, ap, subst, ◌∙◌, ℕ, suc, ◌+◌, ◌<◌, ◌≤◌, Bool, true, false, ◌||◌, not, cond, List, [], ◌∷◌, ◌++◌, length, take, drop, get_or, count_by, string_bytes, String, Global, Bor, Option, Some, is_some, arith}
use Rattle.std.specs.Str.{bytes_eq}
use Rattle.std.proofs.Math.Seq.{take-suc}
use Rattle.std.proofs.lemmas.List.{append_assoc, map-append, take-append-drop}
use Rattle.std.proofs.lemmas.List.Sums.{sum_by-append, sum_by-cons}
use Rattle.std.proofs.lemmas.Slice.Eq.{bytes_eq-Decides}
use Rattle.indexmap.specs.IndexMap.{IndexMap}
use Rattle.kp_kore.specs.Syntax.{Text}
use Rattle.kp_imports.specs.Names.{IsFirstRepeated, AreOnce, Lists, texts_of}
use Rattle.kp_imports.specs.Reaching.{has}
use Rattle.kp_imports.proofs.Collect.{has_more, or_true, or_false, false_true}

count_cons : (n x : Text) (names : List Text) → count_by (bytes_eq n) (x ∷ names) ≡ cond (bytes_eq n x) 1 0 + count_by (bytes_eq n) names
count_cons n x names = sum_by-cons (λ y. cond (bytes_eq n y) 1 0) x names

pub count_more : (n x : Text) (names : List Text) → count_by (bytes_eq n) (names ++ x ∷ []) ≡ count_by (bytes_eq n) names + cond (bytes_eq n x) 1 0
count_more n x names =
    let all : count_by (bytes_eq n) (names ++ x ∷ []) ≡ count_by (bytes_eq n) names + count_by (bytes_eq n) (x ∷ []) = sum_by-append (λ y. cond (bytes_eq n y) 1 0) names (x ∷ []) in
    let last : count_by (bytes_eq n) (x ∷ []) ≡ cond (bytes_eq n x) 1 0 + 0 = count_cons n x [] in
    omega arith

count_most : (n : Text) (xs ys : List Text) → count_by (bytes_eq n) xs ≤ count_by (bytes_eq n) (xs ++ ys)
count_most n xs ys =
    let all : count_by (bytes_eq n) (xs ++ ys) ≡ count_by (bytes_eq n) xs + count_by (bytes_eq n) ys = sum_by-append (λ y. cond (bytes_eq n y) 1 0) xs ys in
    omega arith

pub none_counted : (n : Text) (names : List Text) → has n names ≡ false → count_by (bytes_eq n) names ≡ 0
none_counted n [] h = refl
none_counted n (x ∷ xs) h = count_cons n x xs ∙ by (bytes_eq n x) h (none_counted n xs)
  where
    by : (b : Bool) → (b || has n xs) ≡ false → (has n xs ≡ false → count_by (bytes_eq n) xs ≡ 0) → cond b 1 0 + count_by (bytes_eq n) xs ≡ 0
    by true k r = absurd (cc)
    by false k r = let e : count_by (bytes_eq n) xs ≡ 0 = r k in omega arith

pub some_counted : (n : Text) (names : List Text) → has n names ≡ true → 0 < count_by (bytes_eq n) names
some_counted n [] h = false_true h
some_counted n (x ∷ xs) h = subst (λ k. 0 < k) (sym (count_cons n x xs)) (by (bytes_eq n x) h (some_counted n xs))
  where
    by : (b : Bool) → (b || has n xs) ≡ true → (has n xs ≡ true → 0 < count_by (bytes_eq n) xs) → 0 < cond b 1 0 + count_by (bytes_eq n) xs
    by true k r = omega arith
    by false k r = let e : 0 < count_by (bytes_eq n) xs = r k in omega arith

-- a new name
pub once_more : (names : List Text) (x : Text) → AreOnce names → has x names ≡ false → AreOnce (names ++ x ∷ [])
once_more names x once new n = by (bytes_eq n x) refl
  where
    by : (b : Bool) → bytes_eq n x ≡ b → count_by (bytes_eq n) (names ++ x ∷ []) ≤ 1
    by true e =
        let none : count_by (bytes_eq n) names ≡ 0 = none_counted n names (subst (λ m. has m names ≡ false) (sym ((bytes_eq-Decides n x).0 e)) new) in
        let all : count_by (bytes_eq n) (names ++ x ∷ []) ≡ count_by (bytes_eq n) names + 1 = count_more n x names ∙ ap (λ b. count_by (bytes_eq n) names + cond b 1 0) e in
        omega arith
    by false e =
        let most : count_by (bytes_eq n) names ≤ 1 = once n in
        let all : count_by (bytes_eq n) (names ++ x ∷ []) ≡ count_by (bytes_eq n) names + 0 = count_more n x names ∙ ap (λ b. count_by (bytes_eq n) names + cond b 1 0) e in
        omega arith

-- a name that is there
repeated : (names rest : List Text) (x : Text) → has x names ≡ true → 1 < count_by (bytes_eq x) ((names ++ x ∷ []) ++ rest)
repeated names rest x old =
    let some : 0 < count_by (bytes_eq x) names = some_counted x names old in
    let all : count_by (bytes_eq x) (names ++ x ∷ []) ≡ count_by (bytes_eq x) names + 1 = count_more x x names ∙ ap (λ b. count_by (bytes_eq x) names + cond b 1 0) ((bytes_eq-Decides x x).1 refl) in
    let most : count_by (bytes_eq x) (names ++ x ∷ []) ≤ count_by (bytes_eq x) ((names ++ x ∷ []) ++ rest) = count_most x (names ++ x ∷ []) rest in
    omega arith

pub stands_twice : (n : Text) (names : List Text) → IsFirstRepeated n names → 1 < count_by (bytes_eq n) names
stands_twice n names h = subst (λ l. 1 < count_by (bytes_eq n) l) (append_assoc h.before (n ∷ []) h.after ∙ sym h.are) (repeated h.before h.after n h.again)

pub texts_more : (names : List (Bor (String Global))) (i : ℕ) (d : Bor (String Global)) → i < length names → texts_of (take (i + 1) names) ≡ texts_of (take i names) ++ string_bytes (get_or names i d).now ∷ []
texts_more names i d h =
    let more : i + 1 ≡ suc i = omega arith in
    ap (λ k. texts_of (take k names)) more ∙ ap texts_of (take-suc names i d h) ∙ map-append (λ n. string_bytes n.now) (take i names) (get_or names i d ∷ [])

-- a name that is listed twice, or once more
pub listed : {V S : Type 0} (names : List Text) (x : Text) (met : IndexMap (String Global) V S) → Lists names met → has x names ≡ true → Lists (names ++ x ∷ []) met
listed names x met is old n = is n ∙ by (bytes_eq n x) refl ∙ sym (has_more n x names)
  where
    by : (b : Bool) → bytes_eq n x ≡ b → has n names ≡ (has n names || (b || false))
    by true e = subst (λ m. has m names ≡ true) (sym ((bytes_eq-Decides n x).0 e)) old ∙ sym (or_true (has n names))
    by false e = or_false (has n names)

pub newly_listed : {V : Type 0} (names : List Text) (x : Text) (f g : Text → Option V) (v : V) → ((n : Text) → is_some (f n) ≡ has n names) → ((n : Text) → g n ≡ cond (bytes_eq x n) (Some v) (f n)) → (n : Text) → is_some (g n) ≡ has n (names ++ x ∷ [])
newly_listed names x f g v is new n = ap is_some (new n) ∙ by (bytes_eq x n) (bytes_eq n x) refl refl ∙ sym (has_more n x names)
  where
    by : (a b : Bool) → bytes_eq x n ≡ a → bytes_eq n x ≡ b → is_some (cond a (Some v) (f n)) ≡ (has n names || (b || false))
    by true true p q = sym (or_true (has n names))
    by true false p q = false_true (sym q ∙ (bytes_eq-Decides n x).1 (sym ((bytes_eq-Decides x n).0 p)))
    by false true p q = false_true (sym p ∙ (bytes_eq-Decides x n).1 (sym ((bytes_eq-Decides n x).0 q)))
    by false false p q = is n ∙ or_false (has n names)

pub was_there : (b : Bool) → not b ≡ false → b ≡ true
was_there true h = refl
was_there false h = false_true (sym h)

pub was_not_there : (b : Bool) → not b ≡ true → b ≡ false
was_not_there true h = false_true h
was_not_there false h = refl

pub repeated_here : (names : List (Bor (String Global))) (i : ℕ) (d : Bor (String Global)) → i < length names → d ≡ get_or names i d → AreOnce (texts_of (take i names)) → has (string_bytes d.now) (texts_of (take i names)) ≡ true →
    IsFirstRepeated (string_bytes d.now) (texts_of names)
repeated_here names i d within read once old =
    let up_to : texts_of (take (i + 1) names) ≡ texts_of (take i names) ++ string_bytes d.now ∷ [] = texts_more names i d within ∙ ap (λ x. texts_of (take i names) ++ string_bytes x.now ∷ []) (sym read) in
    let all : (texts_of (take i names) ++ string_bytes d.now ∷ []) ++ texts_of (drop (i + 1) names) ≡ texts_of names =
    ap (λ l. l ++ texts_of (drop (i + 1) names)) (sym up_to) ∙ sym (map-append (λ n. string_bytes n.now) (take (i + 1) names) (drop (i + 1) names)) ∙ ap texts_of (take-append-drop (i + 1) names) in
    record {
      before = texts_of (take i names);
      after = texts_of (drop (i + 1) names);
      are = sym all ∙ append_assoc (texts_of (take i names)) (string_bytes d.now ∷ []) (texts_of (drop (i + 1) names));
      once = once;
      again = old;
    }
