-- The first places of names, once one more name stands after the others.
use Rattle.std.proofs.Common.{◌≡◌, refl, sym, ap, ◌∙◌, ℕ, suc, Bool, true, false, cond, List, [], ◌∷◌, ◌++◌, length, Option, Some, None, is_some, map, slice_get, Bor, IfSome, get_or, nat_lt, ◌<◌, ◌+◌, drop}
use Rattle.std.specs.Option.{option_map, option_and_then, option_copied}
use Rattle.std.specs.List.{find}
use Rattle.std.specs.Str.{bytes_eq}
use Rattle.std.proofs.lemmas.Option.{slice_get_read, slice_get_past, slice_get-map}
use Rattle.std.proofs.lemmas.Bool.{ltb-true, ltb-false}
use Rattle.std.proofs.lemmas.List.{drop_more}
use Rattle.std.proofs.lemmas.Slice.Eq.{bytes_eq-Decides}
use Rattle.kp_kore.specs.Syntax.{Text}
use Rattle.kp_signature.specs.Places.{earlier}
use Rattle.kp_signature.specs.Names.{first_place}

one_later : (o : Option ℕ) (b : Bool) (k : ℕ) → option_map suc (earlier o (cond b (Some k) None)) ≡ earlier (option_map suc o) (cond b (Some (suc k)) None)
one_later (Some i) b k = refl
one_later None true k = refl
one_later None false k = refl

place_push : (n x : Text) (names : List Text) → first_place n (names ++ x ∷ []) ≡ earlier (first_place n names) (cond (bytes_eq x n) (Some (length names)) None)
place_push n x [] = refl
place_push n x (m ∷ ms) = by (bytes_eq m n) (place_push n x ms)
  where
    by : (b : Bool) → first_place n (ms ++ x ∷ []) ≡ earlier (first_place n ms) (cond (bytes_eq x n) (Some (length ms)) None) → cond b (Some 0) (option_map suc (first_place n (ms ++ x ∷ []))) ≡ earlier (cond b (Some 0) (option_map suc (first_place n ms))) (cond (bytes_eq x n) (Some (suc (length ms))) None)
    by true rest = refl
    by false rest = ap (option_map suc) rest ∙ one_later (first_place n ms) (bytes_eq x n) (length ms)

-- a name that isn't there yet stands at the end
pub new_name : (names : List Text) (x : Text) (place : ℕ) (f g : Text → Option ℕ) →
    ((n : Text) → f n ≡ first_place n names) → place ≡ length names → f x ≡ None → ((n : Text) → g n ≡ cond (bytes_eq x n) (Some place) (f n)) →
    (n : Text) → g n ≡ first_place n (names ++ x ∷ [])
new_name names x place f g is e none h n = h n ∙ by (bytes_eq x n) refl ∙ sym (place_push n x names)
  where
    by : (b : Bool) → bytes_eq x n ≡ b → cond b (Some place) (f n) ≡ earlier (first_place n names) (cond b (Some (length names)) None)
    by true q = ap Some e ∙ ap (λ o. earlier o (Some (length names))) (sym (sym (is n) ∙ ap f (sym ((bytes_eq-Decides x n).0 q)) ∙ none))
    by false q = is n ∙ unchanged (first_place n names)
      where
        unchanged : (o : Option ℕ) → o ≡ earlier o None
        unchanged (Some i) = refl
        unchanged None = refl

-- a name that is there keeps its place
pub known_name : (names : List Text) (x : Text) (f : Text → Option ℕ) →
    ((n : Text) → f n ≡ first_place n names) → is_some (f x) ≡ true → (n : Text) → f n ≡ first_place n (names ++ x ∷ [])
known_name names x f is there n = is n ∙ by (bytes_eq x n) refl ∙ sym (place_push n x names)
  where
    some_stays : (o : Option ℕ) (k : Option ℕ) → is_some o ≡ true → o ≡ earlier o k
    some_stays (Some i) k h = refl
    some_stays None k h = absurd (cc)

    unchanged : (o : Option ℕ) → o ≡ earlier o None
    unchanged (Some i) = refl
    unchanged None = refl

    by : (b : Bool) → bytes_eq x n ≡ b → first_place n names ≡ earlier (first_place n names) (cond b (Some (length names)) None)
    by true q = some_stays (first_place n names) (Some (length names)) (ap is_some (sym (ap f ((bytes_eq-Decides x n).0 q) ∙ is n)) ∙ there)
    by false q = unchanged (first_place n names)

pub nothing_there : (o : Option ℕ) → is_some o ≡ false → o ≡ None
nothing_there None h = refl
nothing_there (Some i) h = absurd (cc)

-- what stands at a name's first place is what is found by the name
pub looked_up : {A B : Type 0} (f : A → B) (name : B → Text) (n : Text) (rows : List A) →
    option_and_then (λ i. option_map f (slice_get rows i)) (first_place n (map name (map f rows))) ≡ find (λ d. bytes_eq (name d) n) (map f rows)
looked_up f name n [] = refl
looked_up f name n (r ∷ rows) = by (bytes_eq (name (f r)) n) (first_place n (map name (map f rows))) (looked_up f name n rows)
  where
    further : (o : Option ℕ) → option_and_then (λ i. option_map f (slice_get (r ∷ rows) i)) (option_map suc o) ≡ option_and_then (λ i. option_map f (slice_get rows i)) o
    further (Some i) = refl
    further None = refl

    by : (b : Bool) (o : Option ℕ) → option_and_then (λ i. option_map f (slice_get rows i)) o ≡ find (λ d. bytes_eq (name d) n) (map f rows) →
        option_and_then (λ i. option_map f (slice_get (r ∷ rows) i)) (cond b (Some 0) (option_map suc o)) ≡ cond b (Some (f r)) (find (λ d. bytes_eq (name d) n) (map f rows))
    by true o rest = refl
    by false o rest = further o ∙ rest

-- what `get` lends of a list is what stands there
pub lent : {A : Type 0} (rows : List A) (place : ℕ) (r : Option (Bor A)) → is_some r ≡ nat_lt place (length rows) → IfSome r (λ x. x.now ≡ get_or rows place x.now) → option_copied r ≡ slice_get rows place
lent rows place (Some d) t h = sym (slice_get_read rows (length rows) place d.now refl (ltb-true place (length rows) (sym t)) h)
lent rows place None t h = sym (slice_get_past rows place (ltb-false place (length rows) (sym t)))

pub some_row : {A B : Type 0} (f : A → B) (name : B → Text) (n : Text) (rows : List A) (place : ℕ) (r : Option (Bor A)) →
    Some place ≡ first_place n (map name (map f rows)) → option_copied r ≡ slice_get rows place → option_map (λ d. f d.now) r ≡ find (λ d. bytes_eq (name d) n) (map f rows)
some_row {A = A} f name n rows place r at is = by r ∙ ap (option_map f) is ∙ ap (λ o. option_and_then (λ i. option_map f (slice_get rows i)) o) at ∙ looked_up f name n rows
  where
    by : (o : Option (Bor A)) → option_map (λ d. f d.now) o ≡ option_map f (option_copied o)
    by (Some d) = refl
    by None = refl

pub no_row : {A B : Type 0} (f : A → B) (name : B → Text) (n : Text) (rows : List A) → None ≡ first_place n (map name (map f rows)) → None ≡ find (λ d. bytes_eq (name d) n) (map f rows)
no_row f name n rows at = ap (λ o. option_and_then (λ i. option_map f (slice_get rows i)) o) at ∙ looked_up f name n rows

-- what was kept beside each row, in order, is what is told of the row that is found by the name
pub kept_row : {A B C D : Type 0} (f : A → B) (name : B → Text) (tells : B → D) (view : C → D) (n : Text) (rows : List A) (kept : List C) (place : ℕ) (r : Option (Bor C)) →
    map view kept ≡ map tells (map f rows) → Some place ≡ first_place n (map name (map f rows)) → option_copied r ≡ slice_get kept place →
    option_map (λ d. view d.now) r ≡ option_map tells (find (λ d. bytes_eq (name d) n) (map f rows))
kept_row {C = C} f name tells view n rows kept place r told at is =
    by r ∙ ap (option_map view) is ∙ sym (slice_get-map view kept place) ∙ ap (λ ds. slice_get ds place) told ∙ slice_get-map tells (map f rows) place
    ∙ ap (option_map tells) (slice_get-map f rows place ∙ ap (λ o. option_and_then (λ i. option_map f (slice_get rows i)) o) at ∙ looked_up f name n rows)
  where
    by : (o : Option (Bor C)) → option_map (λ d. view d.now) o ≡ option_map view (option_copied o)
    by (Some d) = refl
    by None = refl

-- one more row's view is kept, and one row fewer is left
pub kept_more : {A B C D : Type 0} (f : A → B) (tells : B → D) (view : C → D) (rows : List A) (i : ℕ) (row : A) (made : C) (kept longer : List C) →
    i < length rows → row ≡ get_or rows i row → longer ≡ kept ++ made ∷ [] → view made ≡ tells (f row) →
    map view longer ++ map tells (map f (drop (i + 1) rows)) ≡ map view kept ++ map tells (map f (drop i rows))
kept_more {C = C} f tells view rows i row made kept longer h read pushed told =
    ap (λ l. map view l ++ map tells (map f (drop (i + 1) rows))) pushed
    ∙ by kept
    ∙ ap (λ d. map view kept ++ d ∷ map tells (map f (drop (i + 1) rows))) (told ∙ ap (λ r. tells (f r)) read)
    ∙ ap (λ l. map view kept ++ map tells (map f l)) (sym (drop_more rows i row h))
  where
    by : (l : List C) → map view (l ++ made ∷ []) ++ map tells (map f (drop (i + 1) rows)) ≡ map view l ++ view made ∷ map tells (map f (drop (i + 1) rows))
    by [] = refl
    by (x ∷ l) = ap (λ r. view x ∷ r) (by l)
