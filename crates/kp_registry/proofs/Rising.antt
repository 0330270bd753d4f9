-- Names that rise by their bytes, and where one stands among them.
use Rattle.std.proofs.Common.{◌≡◌, refl, sym, ap, subst, ◌∙◌, ℕ, zero, suc, ◌<◌, ◌+◌, true, false, cond, List, [], ◌∷◌, length, map, take, drop, get_or, Option, Some, None, arith}
use Rattle.std.specs.List.{AllByRecursion}
use Rattle.std.specs.Str.{bytes_eq}
use Rattle.std.specs.Ordering.{ordering_reverse, is_eq}
use Rattle.std.specs.declared.cmp.Ordering.TheVariants.{Less, Equal, Greater}
use Rattle.std.proofs.lemmas.Cmp.{nat_list_cmp_total}
use Rattle.std.proofs.lemmas.Map.Text.{is_eq-slice_cmp}
use Rattle.kp_kore.specs.Syntax.{Text}
use Rattle.kp_registry.specs.Passes.{compare, AreBelow, AreAbove, IsRising, name_of, place_named}
use Rattle.kp_registry.specs.declared.seen.NameBinding.{NameBinding}

turned : (x y : Text) → compare x y ≡ Greater → compare y x ≡ Less
turned x y h = nat_list_cmp_total.antisymm y x ∙ ap ordering_reverse h

at : (P : Text → Type 0) (xs : List Text) (i : ℕ) (d : Text) → AllByRecursion P xs → i < length xs → P (get_or xs i d)
at P [] i d h k = absurd (omega (arith, k))
at P (x ∷ xs) zero d h k = h.0
at P (x ∷ xs) (suc i) d h k = at P xs i d h.1 (omega arith)

further : (P Q : Text → Type 0) (xs : List Text) → AllByRecursion P xs → ((x : Text) → P x → Q x) → AllByRecursion Q xs
further P Q [] h k = tt
further P Q (x ∷ xs) h k = (k x h.0, further P Q xs h.1 k)

below : (xs : List Text) (i : ℕ) (d n : Text) → IsRising xs → i < length xs → compare (get_or xs i d) n ≡ Less → AreBelow n (take (suc i) xs)
below [] i d n h k e = absurd (omega (arith, k))
below (x ∷ xs) zero d n h k e = (e, tt)
below (x ∷ xs) (suc i) d n h k e = (nat_list_cmp_total.trans x (get_or xs i d) n (at (λ y. compare x y ≡ Less) xs i d h.0 (omega arith)) e, below xs i d n h.1 (omega arith) e)

-- all up to a name that is below
pub below_up_to : (xs : List Text) (i : ℕ) (d n : Text) → IsRising xs → i < length xs → compare (get_or xs i d) n ≡ Less → AreBelow n (take (i + 1) xs)
below_up_to xs i d n h k e = let more : suc i ≡ i + 1 = omega arith in subst (λ j. AreBelow n (take j xs)) more (below xs i d n h k e)

-- all from a name on that is above
pub above_from : (xs : List Text) (i : ℕ) (d n : Text) → IsRising xs → i < length xs → compare (get_or xs i d) n ≡ Greater → AreAbove n (drop i xs)
above_from [] i d n h k e = absurd (omega (arith, k))
above_from (x ∷ xs) zero d n h k e = (turned x n e, further (λ y. compare x y ≡ Less) (λ y. compare n y ≡ Less) xs h.0 (λ y l. nat_list_cmp_total.trans n x y (turned x n e) l))
above_from (x ∷ xs) (suc i) d n h k e = above_from xs i d n h.1 (omega arith) e

-- ---- the table

differs : (x y : Text) → compare x y ≡ Less → bytes_eq y x ≡ false
differs x y e = sym (is_eq-slice_cmp y x) ∙ ap is_eq (nat_list_cmp_total.antisymm y x ∙ ap ordering_reverse e)

alike : (x y : Text) → compare x y ≡ Equal → bytes_eq y x ≡ true
alike x y e = sym (is_eq-slice_cmp y x) ∙ ap is_eq (nat_list_cmp_total.antisymm y x ∙ ap ordering_reverse e)

unlike : (x y : Text) → compare y x ≡ Less → bytes_eq y x ≡ false
unlike x y e = sym (is_eq-slice_cmp y x) ∙ ap is_eq e

passed_over : (b : NameBinding) (bs : List NameBinding) (n : Text) (o : Option ℕ) → bytes_eq n (name_of b) ≡ false → place_named bs n ≡ o → place_named (b ∷ bs) n ≡ o
passed_over b bs n o e h = ap (λ t. cond t (Some b.place) (place_named bs n)) e ∙ h

pub named_at : (bs : List NameBinding) (i : ℕ) (d : NameBinding) → i < length bs → get_or (map name_of bs) i (name_of d) ≡ name_of (get_or bs i d)
named_at [] i d k = absurd (omega (arith, k))
named_at (b ∷ bs) zero d k = refl
named_at (b ∷ bs) (suc i) d k = named_at bs i d (omega arith)

pub long : (bs : List NameBinding) → length (map name_of bs) ≡ length bs
long [] = refl
long (b ∷ bs) = ap suc (long bs)

-- a name that is found
pub found_at : (bs : List NameBinding) (i : ℕ) (d : NameBinding) (n : Text) → IsRising (map name_of bs) → i < length bs → compare (name_of (get_or bs i d)) n ≡ Equal → place_named bs n ≡ Some (get_or bs i d).place
found_at [] i d n h k e = absurd (omega (arith, k))
found_at (b ∷ bs) zero d n h k e = ap (λ t. cond t (Some b.place) (place_named bs n)) (alike (name_of b) n e)
found_at (b ∷ bs) (suc i) d n h k e =
    let within : i < length bs = omega arith in
    let before : compare (name_of b) (name_of (get_or bs i d)) ≡ Less =
    subst (λ x. compare (name_of b) x ≡ Less) (named_at bs i d within) (at (λ y. compare (name_of b) y ≡ Less) (map name_of bs) i (name_of d) h.0 (omega (arith, within, long bs))) in
    let equal : compare n (name_of (get_or bs i d)) ≡ Equal = nat_list_cmp_total.antisymm n (name_of (get_or bs i d)) ∙ ap ordering_reverse e in
    let less : compare (name_of b) n ≡ Less =
    nat_list_cmp_total.antisymm (name_of b) n ∙ ap ordering_reverse (nat_list_cmp_total.congr n (name_of (get_or bs i d)) (name_of b) equal ∙ nat_list_cmp_total.antisymm (name_of (get_or bs i d)) (name_of b) ∙ ap ordering_reverse before) in
    passed_over b bs n (Some (get_or bs i d).place) (differs (name_of b) n less) (found_at bs i d n h.1 within e)

above_absent : (bs : List NameBinding) (n : Text) → AreAbove n (map name_of bs) → place_named bs n ≡ None
above_absent [] n h = refl
above_absent (b ∷ bs) n h = passed_over b bs n None (unlike (name_of b) n h.0) (above_absent bs n h.1)

-- a name that stands in a gap
pub absent_at : (bs : List NameBinding) (i : ℕ) (n : Text) → AreBelow n (take i (map name_of bs)) → AreAbove n (drop i (map name_of bs)) → place_named bs n ≡ None
absent_at bs zero n h k = above_absent bs n k
absent_at [] (suc i) n h k = refl
absent_at (b ∷ bs) (suc i) n h k = passed_over b bs n None (differs (name_of b) n h.0) (absent_at bs i n h.1 k)

pub same_read : (bs : List NameBinding) (i : ℕ) (d e : NameBinding) → i < length bs → get_or bs i d ≡ get_or bs i e
same_read [] i d e k = absurd (omega (arith, k))
same_read (b ∷ bs) zero d e k = refl
same_read (b ∷ bs) (suc i) d e k = same_read bs i d e (omega arith)
