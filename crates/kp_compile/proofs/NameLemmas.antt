-- Numbers of names in sets of names.
use Rattle.std.proofs.Common.{◌≡◌, refl, sym, ◌∙◌, ap, ap₂, ℕ, zero, suc, ◌<◌, Bool, true, false, ◌||◌, if◌then◌else◌, List, [], ◌∷◌, ◌++◌, map, length, get_or, Some, Global, string_bytes, arith}
use Rattle.std.specs.Prelude.{String, slice_get, position}
use Rattle.std.specs.List.{list_any}
use Rattle.std.specs.Str.{bytes_eq}
use Rattle.std.proofs.lemmas.Slice.Eq.{bytes_eq-Decides}
use Rattle.std.proofs.lemmas.Bool.Decides.{same_from_decides}
use Rattle.std.proofs.lemmas.List.{map-append}
use Rattle.std.proofs.lemmas.List.Quantifiers.{position-Some}
use Rattle.kp_kore.specs.Syntax.{Text}
use Rattle.kp_ground.specs.Slots.{is_one_of, stands_at, with_name}

bytes_turned : (x y : Text) → bytes_eq x y ≡ bytes_eq y x
bytes_turned x y = same_from_decides (bytes_eq x y) (bytes_eq y x) (bytes_eq-Decides x y) ((λ e. sym ((bytes_eq-Decides y x).0 e)), (λ e. (bytes_eq-Decides y x).1 (sym e)))

pub among_texts : (x : Text) (ks : List (String Global)) → is_one_of x (map string_bytes ks) ≡ list_any (λ k. bytes_eq x (string_bytes k)) ks
among_texts x [] = refl
among_texts x (k ∷ ks) = ap₂ (λ a b. a || b) (bytes_turned (string_bytes k) x) (among_texts x ks)

read_there : (x : Text) (ks : List (String Global)) (i : ℕ) (d : String Global) → i < length ks → bytes_eq x (string_bytes (get_or ks i d)) ≡ true → stands_at (map string_bytes ks) x i ≡ true
read_there x [] i d h e = absurd (omega arith)
read_there x (k ∷ ks) zero d h e = bytes_turned (string_bytes k) x ∙ e
read_there x (k ∷ ks) (suc i) d h e = read_there x ks i d (omega arith) e

-- where a name was found
pub slot_found : (x : Text) (ks : List (String Global)) (i : ℕ) → position (λ k. bytes_eq x (string_bytes k)) ks ≡ Some i → stands_at (map string_bytes ks) x i ≡ true
slot_found x [] i e = absurd (cc)
slot_found x (k ∷ ks) i e =
    let there = position-Some (λ k. bytes_eq x (string_bytes k)) (k ∷ ks) i k e in
    read_there x (k ∷ ks) i k there.0 there.1

-- where one was put
pub slot_stored : (x : Text) (ks : List (String Global)) (i : ℕ) (k : String Global) → slice_get ks i ≡ Some k → bytes_eq x (string_bytes k) ≡ true → stands_at (map string_bytes ks) x i ≡ true
slot_stored x [] i k e same = absurd (cc)
slot_stored x (l ∷ ks) zero k e same =
    let is : l ≡ k = cc in
    bytes_turned (string_bytes l) x ∙ ap (λ m. bytes_eq x (string_bytes m)) is ∙ same
slot_stored x (l ∷ ks) (suc i) k e same = slot_stored x ks i k e same

-- one more name
pub names_with : (ks : List (String Global)) (k : String Global) → map string_bytes (if list_any (λ l. bytes_eq (string_bytes k) (string_bytes l)) ks then ks else (ks ++ k ∷ [])) ≡ with_name (map string_bytes ks) (string_bytes k)
names_with ks k = by (list_any (λ l. bytes_eq (string_bytes k) (string_bytes l)) ks) (is_one_of (string_bytes k) (map string_bytes ks)) (among_texts (string_bytes k) ks)
  where
    by : (b c : Bool) → c ≡ b → map string_bytes (if b then ks else (ks ++ k ∷ [])) ≡ (if c then map string_bytes ks else (map string_bytes ks ++ string_bytes k ∷ []))
    by true true e = refl
    by false false e = map-append string_bytes ks (k ∷ [])
    by true false e = absurd (cc)
    by false true e = absurd (cc)
