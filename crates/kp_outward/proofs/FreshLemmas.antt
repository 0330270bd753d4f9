-- One name more, and the first number whose name isn't used.
use Rattle.std.proofs.Common.{◌≡◌, refl, sym, ap, ◌∙◌, ℕ, zero, suc, ◌+◌, ◌-◌, ◌<◌, true, false, List, [], ◌∷◌, ◌++◌, length, map, take, get_or, string_bytes, arith}
use Rattle.std.specs.Prelude.{if◌then◌else◌, String}
use Rattle.std.specs.List.{list_any}
use Rattle.std.specs.Str.{bytes_eq}
use Rattle.std.specs.declared.alloc.Global.{Global}
use Rattle.std.proofs.Math.Seq.{take-suc}
use Rattle.std.proofs.lemmas.List.{map-append, append_assoc}
use Rattle.kp_kore.specs.Syntax.{Text}
use Rattle.kp_symbolic.specs.Writing.{fresh_name, fresh_from, least_fresh}

pub names_more : (before : List Text) (used : List (String Global)) (i : ℕ) (x : String Global) → i < length used → x ≡ get_or used i x →
    (before ++ map string_bytes (take i used)) ++ string_bytes x ∷ [] ≡ before ++ map string_bytes (take (i + 1) used)
names_more before used i x h is =
    let more : i + 1 ≡ suc i = omega arith in
    append_assoc before (map string_bytes (take i used)) (string_bytes x ∷ [])
    ∙ ap (λ l. before ++ l) (ap (λ y. map string_bytes (take i used) ++ string_bytes y ∷ []) is
    ∙ sym (ap (λ k. map string_bytes (take k used)) more ∙ ap (map string_bytes) (take-suc used i x h) ∙ map-append string_bytes (take i used) (get_or used i x ∷ [])))

-- ---- the first number whose name isn't used

-- with so many numbers tried, the first of those left is the first of all
abbrev pub Leaves : ℕ → ℕ → List Text → Type 0
Leaves count before used = fresh_from (count - before) (before + 1) used ≡ fresh_from (length used) 1 used

free_at : (k n : ℕ) (used : List Text) → list_any (bytes_eq (fresh_name n)) used ≡ false → n ≡ fresh_from k n used
free_at zero n used e = refl
free_at (suc k) n used e = sym (ap (λ b. if b then fresh_from k (suc n) used else n) e)

pub is_free : (count before : ℕ) (used : List Text) (x : Text) → x ≡ fresh_name (before + 1) → list_any (bytes_eq x) used ≡ false → Leaves count before used → x ≡ least_fresh used
is_free count before used x is no_use left =
    is ∙ ap fresh_name (free_at (count - before) (before + 1) used (sym (ap (λ y. list_any (bytes_eq y) used) is) ∙ no_use) ∙ left)

used_at : (count before : ℕ) (used : List Text) → before < count → list_any (bytes_eq (fresh_name (before + 1))) used ≡ true →
    fresh_from (count - (before + 1)) (before + 1 + 1) used ≡ fresh_from (count - before) (before + 1) used
used_at count before used h e =
    let fuel : count - before ≡ suc (count - (before + 1)) = omega (arith, h) in
    let next : before + 1 + 1 ≡ suc (before + 1) = omega arith in
    ap (λ n. fresh_from (count - (before + 1)) n used) next
    ∙ sym (ap (λ b. if b then fresh_from (count - (before + 1)) (suc (before + 1)) used else before + 1) e)
    ∙ sym (ap (λ k. fresh_from k (before + 1) used) fuel)

pub is_used : (count before : ℕ) (used : List Text) (x : Text) → before < count → x ≡ fresh_name (before + 1) → list_any (bytes_eq x) used ≡ true → Leaves count before used → Leaves count (before + 1) used
is_used count before used x h is in_use left = used_at count before used h (sym (ap (λ y. list_any (bytes_eq y) used) is) ∙ in_use) ∙ left

pub is_last : (count before : ℕ) (used : List Text) (x : Text) → before ≡ count → x ≡ fresh_name (count + 1) → Leaves count before used → x ≡ least_fresh used
is_last count before used x same is left = is ∙ ap fresh_name (none (count - before) (omega (arith, same)) ∙ left)
  where
    none : (k : ℕ) → k ≡ 0 → count + 1 ≡ fresh_from k (before + 1) used
    none zero e = omega (arith, same)
    none (suc k) e = absurd (omega (arith, e))

-- ---- all names

pub as_many : (used : List (String Global)) → length used ≡ length (map string_bytes used)
as_many [] = refl
as_many (x ∷ used) = ap suc (as_many used)
