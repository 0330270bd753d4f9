-- Digits of a text, one after another.
use Rattle.std.proofs.Common.{◌≡◌, refl, sym, ◌∙◌, ap, ℕ, zero, suc, ◌+◌, ◌-◌, ◌<◌, ◌≤◌, ◌==◌, nat_lt, Bool, true, false, ◌&&◌, List, [], ◌∷◌, length, drop, get_or, drop-cons, arith}
use Rattle.std.specs.List.{list_all}
use Rattle.std.specs.Char.{is_ascii_digit}
use Rattle.kp_kore.specs.ClaimRules.{is_lower_hexadecimal, is_digest_and_number}

-- ---- the text from a place on

cut_at : (text : List ℕ) (place x : ℕ) → place < length text → x ≡ get_or text place x → drop place text ≡ x ∷ drop (place + 1) text
cut_at text place x within at =
    let next : suc place ≡ place + 1 = omega arith in
    drop-cons text place x within ∙ ap (λ y. y ∷ drop (suc place) text) (sym at) ∙ ap (λ k. x ∷ drop k text) next

nothing_at : (text : List ℕ) (place : ℕ) → length text ≤ place → drop place text ≡ []
nothing_at [] zero l = refl
nothing_at [] (suc p) l = refl
nothing_at (x ∷ xs) zero l = absurd (omega (arith, l))
nothing_at (x ∷ xs) (suc p) l = nothing_at xs p (omega (arith, l))

-- ---- digits alone

pub next_of_number : (text : List ℕ) (place x : ℕ) → place < length text → x ≡ get_or text place x → is_ascii_digit x ≡ true → list_all is_ascii_digit (drop place text) ≡ list_all is_ascii_digit (drop (place + 1) text)
next_of_number text place x within at digit = ap (list_all is_ascii_digit) (cut_at text place x within at) ∙ rw digit refl

pub not_of_number : (text : List ℕ) (place x : ℕ) → place < length text → x ≡ get_or text place x → is_ascii_digit x ≡ false → list_all is_ascii_digit (drop place text) ≡ false
not_of_number text place x within at other = ap (list_all is_ascii_digit) (cut_at text place x within at) ∙ rw other refl

pub all_of_number : (text : List ℕ) (place : ℕ) → length text ≤ place → list_all is_ascii_digit (drop place text) ≡ true
all_of_number text place l = ap (list_all is_ascii_digit) (nothing_at text place l)

-- ---- a digest and a number

pub next_digit : (text : List ℕ) (place x : ℕ) → place < 64 → place < length text → x ≡ get_or text place x → is_lower_hexadecimal x ≡ true → is_digest_and_number (64 - place) (drop place text) ≡ is_digest_and_number (64 - (place + 1)) (drop (place + 1) text)
next_digit text place x less within at digit =
    let left : 64 - place ≡ suc (64 - (place + 1)) = omega (arith, less) in
    ap (λ k. is_digest_and_number k (drop place text)) left ∙ ap (is_digest_and_number (suc (64 - (place + 1)))) (cut_at text place x within at) ∙ rw digit refl

pub no_digit : (text : List ℕ) (place x : ℕ) → place < 64 → place < length text → x ≡ get_or text place x → is_lower_hexadecimal x ≡ false → is_digest_and_number (64 - place) (drop place text) ≡ false
no_digit text place x less within at other =
    let left : 64 - place ≡ suc (64 - (place + 1)) = omega (arith, less) in
    ap (λ k. is_digest_and_number k (drop place text)) left ∙ ap (is_digest_and_number (suc (64 - (place + 1)))) (cut_at text place x within at) ∙ rw other refl

none_in : (k : ℕ) → is_digest_and_number k [] ≡ false
none_in zero = refl
none_in (suc k) = refl

pub ends_early : (text : List ℕ) (place : ℕ) → length text ≤ place → is_digest_and_number (64 - place) (drop place text) ≡ false
ends_early text place l = ap (is_digest_and_number (64 - place)) (nothing_at text place l) ∙ none_in (64 - place)

pub behind_digits : (text : List ℕ) (place x : ℕ) → 64 ≤ place → place < length text → x ≡ get_or text place x → is_digest_and_number (64 - place) (drop place text) ≡ ((x == 35) && (nat_lt 0 (length (drop (place + 1) text)) && list_all is_ascii_digit (drop (place + 1) text)))
behind_digits text place x most within at =
    let none : 64 - place ≡ 0 = omega (arith, most) in
    ap (λ k. is_digest_and_number k (drop place text)) none ∙ ap (is_digest_and_number 0) (cut_at text place x within at) ∙ same (x == 35) (nat_lt 0 (length (drop (place + 1) text))) (list_all is_ascii_digit (drop (place + 1) text))
  where
    same : (a b c : Bool) → (a && b && c) ≡ (a && (b && c))
    same true b c = refl
    same false b c = refl

pub no_number : (text : List ℕ) (place x : ℕ) → 64 ≤ place → place < length text → x ≡ get_or text place x → (x == 35) ≡ false → is_digest_and_number (64 - place) (drop place text) ≡ false
no_number text place x most within at other = behind_digits text place x most within at ∙ rw other refl
