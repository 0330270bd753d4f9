-- The longest front that is UTF-8, as std finds it.
use Rattle.std.proofs.Common.{◌≡◌, ℕ, ◌<◌, zero, suc, List, ◌∷◌, [], length, take, drop, Some, None, refl, sym, ap, ◌∙◌, arith}
use Rattle.std.specs.Prelude.{IsUtf8}
use Rattle.std.specs.Str.{IsValidUpTo}
use Rattle.std.specs.Str.Lossy.{utf8_error_len}
use Rattle.std.proofs.lemmas.Str.{utf8_valid_len-IsUtf8, utf8_valid_len-IsValidUpTo}
use Rattle.kp_text.specs.Tokens.{utf8_front, utf8_tail, tail_of_bytes}
use Rattle.kp_text.specs.declared.tail.Tail.TheVariants.{Whole, Bad, Cut}

pub whole_front : (bytes : List ℕ) → IsUtf8 bytes → bytes ≡ utf8_front bytes
whole_front bytes h = rw (utf8_valid_len-IsUtf8 bytes h) (sym (take_whole bytes))
  where
    take_whole : (xs : List ℕ) → take (length xs) xs ≡ xs
    take_whole [] = refl
    take_whole (x ∷ xs) = ap (λ (ys : List ℕ). x ∷ ys) (take_whole xs)

pub whole_tail : (bytes : List ℕ) → IsUtf8 bytes → Whole ≡ utf8_tail bytes
whole_tail bytes h = rw (utf8_valid_len-IsUtf8 bytes h) (ap tail_of_bytes (sym (drop_whole bytes)))
  where
    drop_whole : (xs : List ℕ) → drop (length xs) xs ≡ []
    drop_whole [] = refl
    drop_whole (x ∷ xs) = drop_whole xs

pub cut_front : (bytes : List ℕ) (n : ℕ) → IsValidUpTo bytes n → take n bytes ≡ utf8_front bytes
cut_front bytes n h = rw (utf8_valid_len-IsValidUpTo bytes n h) refl

drop_some : (xs : List ℕ) (n : ℕ) → n < length xs → (y : ℕ) × (ys : List ℕ) × (drop n xs ≡ y ∷ ys)
drop_some [] n h = absurd (omega arith)
drop_some (x ∷ xs) zero h = (x, xs, refl)
drop_some (x ∷ xs) (suc n) h = drop_some xs n (omega arith)

pub bad_tail : (bytes : List ℕ) (n k : ℕ) → IsValidUpTo bytes n → Some k ≡ utf8_error_len (drop n bytes) → Bad ≡ utf8_tail bytes
bad_tail bytes n k h e =
    let some = drop_some bytes n h.short in
    let e2 : utf8_error_len (some.0 ∷ some.1) ≡ Some k = ap utf8_error_len (sym some.2) ∙ sym e in
    rw (utf8_valid_len-IsValidUpTo bytes n h, some.2, e2) refl

pub cut_tail : (bytes : List ℕ) (n : ℕ) → IsValidUpTo bytes n → None ≡ utf8_error_len (drop n bytes) → Cut ≡ utf8_tail bytes
cut_tail bytes n h e =
    let some = drop_some bytes n h.short in
    let e2 : utf8_error_len (some.0 ∷ some.1) ≡ None = ap utf8_error_len (sym some.2) ∙ sym e in
    rw (utf8_valid_len-IsValidUpTo bytes n h, some.2, e2) refl
