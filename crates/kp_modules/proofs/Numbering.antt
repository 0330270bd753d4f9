-- Names by number tell axioms apart.
use Rattle.std.proofs.Common.{◌≡◌, refl, sym, ap, ◌∙◌, ℕ, ◌<◌, ◌^◌, ◌%◌, ◌+◌, ◌==◌, Bool, true, false, ◌&&◌, ◌||◌, List, [], ◌∷◌, ◌++◌, map, arith}
use Rattle.std.specs.Fmt.{decimal}
use Rattle.std.specs.List.{AllByRecursion, list_any}
use Rattle.std.specs.Str.{bytes_eq}
use Rattle.std.proofs.lemmas.Bool.Decides.{nat_tests}
use Rattle.std.proofs.lemmas.Fmt.{decimal_by_steps, decimal_injective}
use Rattle.std.proofs.lemmas.List.{append_assoc}
use Rattle.std.proofs.lemmas.Slice.Eq.{bytes_eq-Decides}
use Rattle.kp_kore.specs.Syntax.{Text}
use Rattle.kp_kore.specs.Theory.{NumberedAxiom}
use Rattle.kp_book.specs.Books.{is_same_axiom}
use Rattle.kp_modules.specs.Extending.{name_by_number}
use Rattle.kp_imports.specs.Reaching.{has}
use Rattle.kp_imports.proofs.Collect.{all_append, false_true}

-- no mark that stands before a number
abbrev HasNoMark : List ℕ → Type 0
HasNoMark = AllByRecursion (λ c. ¬ (c ≡ 35))

unmarked : (n : ℕ) → n < 2 ^ 64 → HasNoMark (decimal n)
unmarked = decimal_by_steps (λ m ds. HasNoMark ds) (λ m l. (λ e. absurd (omega arith), tt)) (λ m ds l h. all_append (λ c. ¬ (c ≡ 35)) ds ((48 + m % 10) ∷ []) h (λ e. absurd (omega arith), tt))

-- a mark stands in no text without one
not_within : (k xs ys : List ℕ) → HasNoMark xs → xs ≡ k ++ 35 ∷ ys → ⊥
not_within [] [] ys h e = absurd (cc)
not_within (c ∷ k) [] ys h e = absurd (cc)
not_within [] (x ∷ xs) ys h e = h.0 (first_of e)
  where
    first_of : x ∷ xs ≡ 35 ∷ ys → x ≡ 35
    first_of e = search
not_within (c ∷ k) (x ∷ xs) ys h e = not_within k xs ys h.1 (rest_of e)
  where
    rest_of : x ∷ xs ≡ c ∷ (k ++ 35 ∷ ys) → xs ≡ k ++ 35 ∷ ys
    rest_of e = search

-- texts are cut at the last mark in one way
cut_once : (j k xs ys : List ℕ) → HasNoMark xs → HasNoMark ys → j ++ 35 ∷ xs ≡ k ++ 35 ∷ ys → (j ≡ k) × (xs ≡ ys)
cut_once [] [] xs ys h l e = (refl, rest_of e)
  where
    rest_of : 35 ∷ xs ≡ 35 ∷ ys → xs ≡ ys
    rest_of e = search
cut_once [] (c ∷ k) xs ys h l e = absurd (not_within k xs ys h (rest_of e))
  where
    rest_of : 35 ∷ xs ≡ c ∷ (k ++ 35 ∷ ys) → xs ≡ k ++ 35 ∷ ys
    rest_of e = search
cut_once (c ∷ j) [] xs ys h l e = absurd (not_within j ys xs l (rest_of e))
  where
    rest_of : c ∷ (j ++ 35 ∷ xs) ≡ 35 ∷ ys → ys ≡ j ++ 35 ∷ xs
    rest_of e = search
cut_once (c ∷ j) (d ∷ k) xs ys h l e = let r = cut_once j k xs ys h l (rest_of e) in (both c d j k (first_of e) r.0, r.1)
  where
    first_of : c ∷ (j ++ 35 ∷ xs) ≡ d ∷ (k ++ 35 ∷ ys) → c ≡ d
    first_of e = search

    rest_of : c ∷ (j ++ 35 ∷ xs) ≡ d ∷ (k ++ 35 ∷ ys) → j ++ 35 ∷ xs ≡ k ++ 35 ∷ ys
    rest_of e = search

    both : (a b : ℕ) (p q : List ℕ) → a ≡ b → p ≡ q → a ∷ p ≡ b ∷ q
    both a b p q e f = ap (λ x. x ∷ p) e ∙ ap (λ l. b ∷ l) f

spelled : (a : NumberedAxiom) → name_by_number a ≡ a.key ++ 35 ∷ decimal a.number
spelled a = append_assoc a.key (35 ∷ []) (decimal a.number)

-- two axioms of one name by number are one
pub same_name : (a b : NumberedAxiom) → a.number < 2 ^ 64 → b.number < 2 ^ 64 → bytes_eq (name_by_number a) (name_by_number b) ≡ is_same_axiom a b
same_name a b h k = by (bytes_eq (name_by_number a) (name_by_number b)) refl
  where
    parts : name_by_number a ≡ name_by_number b → (a.key ≡ b.key) × (decimal a.number ≡ decimal b.number)
    parts e = cut_once a.key b.key (decimal a.number) (decimal b.number) (unmarked a.number h) (unmarked b.number k) (sym (spelled a) ∙ e ∙ spelled b)

    number_test : (m n : ℕ) → m ≡ n → (m == n) ≡ true
    number_test m n e = grind (arith, nat_tests)

    number_told : (m n : ℕ) → (m == n) ≡ true → m ≡ n
    number_told m n e = grind (arith, nat_tests)

    both_true : (p q : Bool) → p ≡ true → q ≡ true → (p && q) ≡ true
    both_true true true e f = refl
    both_true true false e f = false_true f
    both_true false q e f = false_true e

    first_true : (p q : Bool) → (p && q) ≡ true → p ≡ true
    first_true true q e = refl
    first_true false q e = false_true e

    second_true : (p q : Bool) → (p && q) ≡ true → q ≡ true
    second_true true q e = e
    second_true false q e = false_true e

    named : (i : ℕ) (j : ℕ) (x y : Text) → x ≡ y → i ≡ j → x ++ 35 ∷ decimal i ≡ y ++ 35 ∷ decimal j
    named i j x y e f = ap (λ t. t ++ 35 ∷ decimal i) e ∙ ap (λ n. y ++ 35 ∷ decimal n) f

    is_false : (c : Bool) → is_same_axiom a b ≡ c → bytes_eq (name_by_number a) (name_by_number b) ≡ false → false ≡ c
    is_false false e f = refl
    is_false true e f = sym f ∙ (bytes_eq-Decides (name_by_number a) (name_by_number b)).1
        (spelled a ∙ named a.number b.number a.key b.key ((bytes_eq-Decides a.key b.key).0 (first_true (bytes_eq a.key b.key) (a.number == b.number) e)) (number_told a.number b.number (second_true (bytes_eq a.key b.key) (a.number == b.number) e)) ∙ sym (spelled b))

    by : (c : Bool) → bytes_eq (name_by_number a) (name_by_number b) ≡ c → bytes_eq (name_by_number a) (name_by_number b) ≡ is_same_axiom a b
    by true e =
        let p = parts ((bytes_eq-Decides (name_by_number a) (name_by_number b)).0 e) in
        e ∙ sym (both_true (bytes_eq a.key b.key) (a.number == b.number) ((bytes_eq-Decides a.key b.key).1 p.0) (number_test a.number b.number (decimal_injective a.number b.number h k p.1)))
    by false e = e ∙ is_false (is_same_axiom a b) refl e

-- the names tell whether an axiom is among others
pub same_among : (a : NumberedAxiom) (passed : List NumberedAxiom) → a.number < 2 ^ 64 → AllByRecursion (λ b. b.number < 2 ^ 64) passed → has (name_by_number a) (map name_by_number passed) ≡ list_any (is_same_axiom a) passed
same_among a [] h k = refl
same_among a (b ∷ bs) h k = ap (λ c. c || has (name_by_number a) (map name_by_number bs)) (same_name a b h k.0) ∙ ap (λ c. is_same_axiom a b || c) (same_among a bs h k.1)
