-- The names of a claim whose sides have no fault.
use Rattle.std.proofs.Common.{◌≡◌, ℕ, zero, suc, ◌<◌, ◌/◌, ◌%◌, Bool, true, false, cond, ◌&&◌, ◌||◌, ◌==◌, List, [], ◌∷◌, ◌++◌, length, Option, Some, None, codes, decimal, refl, sym, ap, ◌∙◌, subst, arith}
use Rattle.std.proofs.lemmas.Bool.{and_from}
use Rattle.std.proofs.lemmas.Bool.Decides.{nat_tests}
use Rattle.std.proofs.lemmas.Slice.Eq.{bytes_eq-Decides}
use Rattle.std.specs.Prelude.{nat_lt}
use Rattle.std.specs.List.{AllByRecursion, find, list_all, list_any}
use Rattle.std.specs.Char.{is_ascii_digit}
use Rattle.std.specs.Fmt.{digits, digits_onto, digit_glyph}
use Rattle.std.specs.Option.{option_map}
use Rattle.std.specs.Str.{bytes_eq}
use Rattle.kp_kore.specs.Syntax.{Text}
use Rattle.kp_kore.specs.Parts.{free_variables, variable_names}
use Rattle.kp_kore.specs.Signature.{KoreSignature}
use Rattle.kp_kore.specs.Replies.{IsFreshName}
use Rattle.kp_kore.specs.Cases.{HaveOneSort}
use Rattle.kp_kore.proofs.ListLemmas.{all_left, all_map}
use Rattle.kp_kore.proofs.StandingNames.{free_stands_names}
use Rattle.kp_signature.specs.Places.{earlier, the_top}
use Rattle.kp_signature.specs.Verify.{VerifyFault, first_fault}
use Rattle.kp_signature.proofs.OneSort.{agrees, one_sort_among}
use Rattle.kp_claims.specs.Claims.{ClaimSides}
use Rattle.kp_claims.specs.Faults.{Fault, bare_claim, unverified, fresh_name}
use Rattle.kp_claim_sentences.specs.Faults.{is_fresh_text, meaning_fault, name_fault, sides_fault}
use Rattle.kp_claim_sentences.specs.Sound.{IsSoundClaim}

-- ---- sorts

-- the names of both sides of a verified claim
pub sides_have_one_sort : (g : KoreSignature) (c : ClaimSides) → first_fault g the_top (bare_claim c) ≡ None → HaveOneSort (free_variables c.left ++ free_variables c.right)
sides_have_one_sort g c h =
    let vs = free_variables c.left ++ free_variables c.right in
    let a = agrees g the_top (bare_claim c) h in
    one_sort_among vs vs vs a a

-- ---- names

-- one digit or more
abbrev IsDigits : List ℕ → Type 0
IsDigits [] = ⊥
IsDigits (c ∷ cs) = list_all is_ascii_digit (c ∷ cs) ≡ true

glyph_is_digit : (d : ℕ) → d < 10 → is_ascii_digit (digit_glyph false d) ≡ true
glyph_is_digit d h = grind (arith, nat_tests)

one_more : (n : ℕ) (acc : List ℕ) → list_all is_ascii_digit acc ≡ true → list_all is_ascii_digit (digit_glyph false (n % 10) ∷ acc) ≡ true
one_more n acc h = and_from _ _ (glyph_is_digit (n % 10) (omega arith)) h

chosen : (b : Bool) (x y : List ℕ) → IsDigits x → IsDigits y → IsDigits (cond b x y)
chosen true x y h k = h
chosen false x y h k = k

onto_digits : (k n : ℕ) (acc : List ℕ) → list_all is_ascii_digit acc ≡ true → IsDigits (digits_onto (suc k) 10 false n acc)
onto_digits zero n acc h = let d = one_more n acc h in chosen (n / 10 == 0) _ _ d d
onto_digits (suc k) n acc h = let d = one_more n acc h in chosen (n / 10 == 0) _ _ d (onto_digits k (n / 10) (digit_glyph false (n % 10) ∷ acc) d)

decimal_digits : (n : ℕ) → IsDigits (decimal n)
unfolding digits
decimal_digits n = onto_digits 63 n [] refl

longer : (c : ℕ) (cs : List ℕ) → nat_lt 5 (length (codes "Fresh" ++ c ∷ cs)) ≡ true
longer c cs = grind (arith, nat_tests)

of_digits : (ds : List ℕ) → IsDigits ds → is_fresh_text (codes "Fresh" ++ ds) ≡ true
of_digits [] h = absurd h
of_digits (c ∷ cs) h = ap (λ b. b && list_all is_ascii_digit (c ∷ cs)) (longer c cs) ∙ h

is_fresh : (x : Text) → IsFreshName x → is_fresh_text x ≡ true
is_fresh x f = subst (λ y. is_fresh_text y ≡ true) (sym f.2) (of_digits (decimal f.0) (decimal_digits f.0))

-- a name among those of which none is such
none_found : (x : Text) (xs : List Text) → find is_fresh_text xs ≡ None → list_any (bytes_eq x) xs ≡ true → is_fresh_text x ≡ true → ⊥
none_found x [] none any fresh = absurd (cc)
none_found x (y ∷ ys) none any fresh = by (bytes_eq x y) (is_fresh_text y) refl refl none any (λ k l. none_found x ys k l fresh)
  where
    by : (a b : Bool) → bytes_eq x y ≡ a → is_fresh_text y ≡ b → cond b (Some y) (find is_fresh_text ys) ≡ None → a || list_any (bytes_eq x) ys ≡ true →
        (find is_fresh_text ys ≡ None → list_any (bytes_eq x) ys ≡ true → ⊥) → ⊥
    by a true e f k l more = absurd (cc (k))
    by true false e f k l more = absurd (cc (sym f ∙ ap is_fresh_text (sym ((bytes_eq-Decides x y).0 e)) ∙ fresh))
    by false false e f k l more = more k l

pub none_is_fresh : (c : ClaimSides) → name_fault c ≡ None → AllByRecursion (λ x. ¬ IsFreshName x.name) (free_variables c.left)
none_is_fresh c h =
    let names = variable_names (bare_claim c) in
    all_map (λ x. list_any (bytes_eq x.name) names ≡ true) (λ x. ¬ IsFreshName x.name) (free_variables c.left)
    (λ x stands f. none_found x.name names (nothing (find is_fresh_text names) h) stands (is_fresh x.name f))
    (all_left (λ x. list_any (bytes_eq x.name) names ≡ true) (free_variables c.left) (free_variables c.right) (free_stands_names (bare_claim c)))
  where
    nothing : (o : Option Text) → option_map fresh_name o ≡ None → o ≡ None
    nothing None e = refl
    nothing (Some x) e = absurd (cc)

-- ---- sides

pub first_none : {A : Type 0} (a b : Option A) → earlier a b ≡ None → a ≡ None
first_none None b h = refl
first_none (Some x) b h = absurd (cc)

pub later_none : {A : Type 0} (a b : Option A) → earlier a b ≡ None → b ≡ None
later_none None b h = h
later_none (Some x) b h = absurd (cc)

pub verified : (o : Option VerifyFault) (more : Option Fault) → earlier (option_map unverified o) more ≡ None → o ≡ None
verified None more h = refl
verified (Some f) more h = absurd (cc)

-- a claim whose sides have no fault
pub sound_sides : (g : KoreSignature) (c : ClaimSides) → sides_fault g (Some c) ≡ None → IsSoundClaim (record { sort = c.sort; claim = record { left = c.left; right = c.right } })
sound_sides g c h = record {
  no_fresh = none_is_fresh c (later_none (meaning_fault g c) (name_fault c) h);
  one_sort = sides_have_one_sort g c (verified (first_fault g the_top (bare_claim c)) _ (first_none (meaning_fault g c) (name_fault c) h));
}
