-- What slots tell.
use Rattle.std.proofs.Common.{◌≡◌, refl, sym, ◌∙◌, ap, subst, ℕ, zero, suc, ◌<◌, ◌≤◌, ◌+◌, Bool, true, false, ◌&&◌, ◌||◌, if◌then◌else◌, List, [], ◌∷◌, ◌++◌, map, drop, length, get_or, add-one, arith, string_bytes}
use Rattle.std.specs.Prelude.{◌≢◌, Option, Some, None, Vec, MatchOption, IfSome}
use Rattle.std.specs.declared.alloc.Global.{Global}
use Rattle.std.specs.List.{AllByRecursion, list_all}
use Rattle.std.specs.Str.{bytes_eq}
use Rattle.std.proofs.lemmas.Slice.Eq.{bytes_eq-Decides}
use Rattle.std.proofs.lemmas.List.Folds.{list_all-map}
use Rattle.kp_kore.specs.Syntax.{Text}
use Rattle.kp_kore.specs.Instance.{Valuation}
use Rattle.kp_ground.specs.Slots.{Place, is_one_of, stands_at, with_name, names_after, is_numbered, joined, left_places}
use Rattle.kp_ground.specs.Solves.{Solves, bound_names}
use Rattle.kp_ground.specs.View.{value_view}
use Rattle.kp_ground.specs.declared.binding.Binding.{Binding}
use Rattle.kp_ground.specs.declared.left_side.CompiledLeft.{CompiledLeft}

pub first_so : (b c : Bool) → b && c ≡ true → b ≡ true
first_so true c h = refl
first_so false c h = h

pub second_so : (b c : Bool) → b && c ≡ true → c ≡ true
second_so true c h = h
second_so false c h = absurd (cc)

-- ---- names

pub stands_below : (xs : List Text) (x : Text) (i : ℕ) → stands_at xs x i ≡ true → i < length xs
stands_below [] x i h = absurd (cc)
stands_below (y ∷ ys) x zero h = omega arith
stands_below (y ∷ ys) x (suc i) h = omega (arith, stands_below ys x i h)

stands_in_front : (xs ys : List Text) (x : Text) (i : ℕ) → i < length xs → stands_at (xs ++ ys) x i ≡ true → stands_at xs x i ≡ true
stands_in_front [] ys x i h s = absurd (omega arith)
stands_in_front (z ∷ zs) ys x zero h s = s
stands_in_front (z ∷ zs) ys x (suc i) h s = stands_in_front zs ys x i (omega arith) s

or_so : (b c : Bool) → c ≡ true → b || c ≡ true
or_so true c h = refl
or_so false c h = h

pub stands_among : (xs : List Text) (x : Text) (i : ℕ) → stands_at xs x i ≡ true → is_one_of x xs ≡ true
stands_among [] x i h = h
stands_among (y ∷ ys) x zero h = ap (λ b. b || is_one_of x ys) h
stands_among (y ∷ ys) x (suc i) h = or_so (bytes_eq y x) (is_one_of x ys) (stands_among ys x i h)

-- a later place of a variable: it is among the names so far
pub stands_before : (xs : List Text) (x : Text) (i : ℕ) → i < length xs → stands_at (with_name xs x) x i ≡ true → stands_at xs x i ≡ true
stands_before xs x i h s = by (is_one_of x xs) s
  where
    by : (b : Bool) → stands_at (if b then xs else (xs ++ x ∷ [])) x i ≡ true → stands_at xs x i ≡ true
    by true s = s
    by false s = stands_in_front xs (x ∷ []) x i h s

pub with_old : (xs : List Text) (x : Text) (i : ℕ) → i < length xs → stands_at (with_name xs x) x i ≡ true → with_name xs x ≡ xs
with_old xs x i h s = ap (λ b. if b then xs else (xs ++ x ∷ [])) (stands_among xs x i (stands_before xs x i h s))

-- a first place: the name isn't one of those so far
pub is_new : (xs : List Text) (x : Text) (i : ℕ) → length xs ≤ i → stands_at (with_name xs x) x i ≡ true → is_one_of x xs ≡ false
is_new xs x i h s = by (is_one_of x xs) s
  where
    by : (b : Bool) → stands_at (if b then xs else (xs ++ x ∷ [])) x i ≡ true → b ≡ false
    by true s = absurd (omega (arith, h, stands_below xs x i s))
    by false s = refl

pub with_new : (xs : List Text) (x : Text) (i : ℕ) → length xs ≤ i → stands_at (with_name xs x) x i ≡ true → with_name xs x ≡ xs ++ x ∷ []
with_new xs x i h s = ap (λ b. if b then xs else (xs ++ x ∷ [])) (is_new xs x i h s)

differs : (x y : Text) (b : Bool) → bytes_eq y x ≡ b → b ≡ false → y ≢ x
differs x y true e f s = absurd (cc)
differs x y false e f s =
    let is : bytes_eq y x ≡ true = (bytes_eq-Decides y x).1 s in
    absurd (cc)

no_left : (b c : Bool) → b || c ≡ false → b ≡ false
no_left true c h = h
no_left false c h = refl

no_right : (b c : Bool) → b || c ≡ false → c ≡ false
no_right true c h = absurd (cc)
no_right false c h = h

pub others : (x : Text) (bs : List Binding) → is_one_of x (bound_names bs) ≡ false → AllByRecursion (λ b. string_bytes b.name.value ≢ x) bs
others x [] h = tt
others x (b ∷ bs) h =
    let here : bytes_eq (string_bytes b.name.value) x ≡ false = no_left (bytes_eq (string_bytes b.name.value) x) (is_one_of x (bound_names bs)) h in
    (differs x (string_bytes b.name.value) (bytes_eq (string_bytes b.name.value) x) refl here, others x bs (no_right (bytes_eq (string_bytes b.name.value) x) (is_one_of x (bound_names bs)) h))

-- a slot that reads a name is that of a binding
pub slot_within : (bs : List Binding) (x : Text) (i : ℕ) → stands_at (bound_names bs) x i ≡ true → i < length bs
slot_within [] x i h = absurd (cc)
slot_within (b ∷ bs) x zero h = omega arith
slot_within (b ∷ bs) x (suc i) h = omega (arith, slot_within bs x i h)

pub below_names : (bs : List Binding) (i : ℕ) → i < length bs → i < length (bound_names bs)
below_names [] i h = absurd (omega arith)
below_names (b ∷ bs) zero h = omega arith
below_names (b ∷ bs) (suc i) h = omega (arith, below_names bs i (omega arith))

pub past_names : (bs : List Binding) (i : ℕ) → length bs ≤ i → length (bound_names bs) ≤ i
past_names [] i h = omega arith
past_names (b ∷ bs) zero h = absurd (omega arith)
past_names (b ∷ bs) (suc i) h = omega (arith, past_names bs i (omega arith))

-- kept bindings have the names that they had
pub kept_names : (r : Option (Vec Binding Global)) (old : List Binding) (P Q : Type 0) (ys : List Text) → MatchOption r P (λ kept. (kept.items ≡ old) × Q) → ys ≡ bound_names old → IfSome r (λ new. bound_names new.items ≡ ys)
kept_names None old P Q ys h e = tt
kept_names (Some kept) old P Q ys h e = ap bound_names h.0 ∙ sym e

-- what a slot's variable is bound to
pub found_at : (v : Valuation) (bs : List Binding) (x : Text) (i : ℕ) (d : Binding) → Solves v bs → stands_at (bound_names bs) x i ≡ true → v x ≡ value_view (get_or bs i d).value
found_at v [] x i d s h = absurd (cc)
found_at v (b ∷ bs) x zero d s h = subst (λ y. v y ≡ value_view b.value) ((bytes_eq-Decides (string_bytes b.name.value) x).0 h) s.0
found_at v (b ∷ bs) x (suc i) d s h = found_at v bs x i d s.1 h

-- ---- places, one after the other

and_after : (b c d : Bool) → (b && (c && d)) ≡ ((b && c) && d)
and_after true c d = refl
and_after false c d = refl

pub numbered_both : (xs : List Text) (ps qs : List Place) → is_numbered xs (ps ++ qs) ≡ (is_numbered xs ps && is_numbered (names_after xs ps) qs)
numbered_both xs [] qs = refl
numbered_both xs (p ∷ ps) qs =
    ap (λ b. stands_at (with_name xs p.name) p.name p.slot && b) (numbered_both (with_name xs p.name) ps qs)
    ∙ and_after (stands_at (with_name xs p.name) p.name p.slot) (is_numbered (with_name xs p.name) ps) (is_numbered (names_after (with_name xs p.name) ps) qs)

pub names_both : (xs : List Text) (ps qs : List Place) → names_after xs (ps ++ qs) ≡ names_after (names_after xs ps) qs
names_both xs [] qs = refl
names_both xs (p ∷ ps) qs = names_both (with_name xs p.name) ps qs

places_at : (ts : List CompiledLeft) (i : ℕ) (d : CompiledLeft) → i < length ts → joined (map left_places (drop i ts)) ≡ left_places (get_or ts i d) ++ joined (map left_places (drop (suc i) ts))
places_at [] i d h = absurd (omega arith)
places_at (t ∷ ts) zero d h = refl
places_at (t ∷ ts) (suc i) d h = places_at ts i d (omega arith)

-- the places of the left terms from one on: its own, and those of the rest
pub places_from : (ts : List CompiledLeft) (i : ℕ) (t : CompiledLeft) → i < length ts → t ≡ get_or ts i t → joined (map left_places (drop i ts)) ≡ left_places t ++ joined (map left_places (drop (i + 1) ts))
places_from ts i t h is = rw add-one (places_at ts i t h ∙ ap (λ s. left_places s ++ joined (map left_places (drop (suc i) ts))) (sym is))

pub no_places : (ts : List CompiledLeft) (i : ℕ) → length ts ≤ i → joined (map left_places (drop i ts)) ≡ []
no_places [] zero h = refl
no_places [] (suc i) h = refl
no_places (t ∷ ts) zero h = absurd (omega arith)
no_places (t ∷ ts) (suc i) h = no_places ts i (omega arith)

-- one of many that pass
pub passes_at : {X : Type 0} (p : X → Bool) (xs : List X) (i : ℕ) (d : X) → i < length xs → list_all p xs ≡ true → p (get_or xs i d) ≡ true
passes_at p [] i d h s = absurd (omega arith)
passes_at p (x ∷ xs) zero d h s = first_so (p x) (list_all p xs) s
passes_at p (x ∷ xs) (suc i) d h s = passes_at p xs i d (omega arith) (second_so (p x) (list_all p xs) s)

pub all_pass : {X : Type 0} (p : X → Bool) (xs : List X) → list_all (λ b. b) (map p xs) ≡ true → list_all p xs ≡ true
all_pass p xs h = sym (list_all-map (λ b. b) p xs) ∙ h
