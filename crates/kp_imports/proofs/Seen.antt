-- The modules at the places of names are those of the names.
use Rattle.std.proofs.Common.{◌≡◌, refl, sym, ap, ◌∙◌, ℕ, zero, suc, ◌<◌, ◌+◌, List, [], ◌∷◌, ◌++◌, length, map, take, get_or, slice_get, Some, Bor, arith}
use Rattle.std.specs.List.{AllByRecursion, filter_map, cons_option}
use Rattle.std.specs.Option.{option_map, option_and_then}
use Rattle.std.proofs.Math.Seq.{take-suc}
use Rattle.std.proofs.lemmas.List.{map-append, length-map}
use Rattle.kp_kore.specs.Syntax.{Text}
use Rattle.kp_kore.specs.View.{module_view}
use Rattle.kp_kore.specs.declared.sentence.Module.{Module}
use Rattle.kp_kore.specs.Theory.{module_named, names_reached}
use Rattle.kp_signature.specs.Names.{first_place}
use Rattle.kp_signature.proofs.FirstPlaces.{looked_up}
use Rattle.kp_imports.specs.Names.{module_names}
use Rattle.kp_imports.specs.Walks.{IsOver}

abbrev first_of : {A : Type 0} → A → List A → A
first_of d [] = d
first_of d (x ∷ xs) = x

abbrev rest_of : {A : Type 0} → List A → List A
rest_of [] = []
rest_of (x ∷ xs) = xs

same_first : {A : Type 0} (x y : A) (xs ys : List A) → x ∷ xs ≡ y ∷ ys → x ≡ y
same_first x y xs ys h = ap (first_of x) h

same_rest : {A : Type 0} (x y : A) (xs ys : List A) → x ∷ xs ≡ y ∷ ys → xs ≡ ys
same_rest x y xs ys h = ap rest_of h

named : (rows : List Module) (n : Text) (p : ℕ) (m : Module) → first_place n (module_names rows) ≡ Some p → Some m ≡ slice_get rows p → module_named (map module_view rows) n ≡ Some (module_view m)
named rows n p m h k =
    sym (looked_up module_view (λ q. q.name) n rows)
    ∙ ap (λ o. option_and_then (λ i. option_map module_view (slice_get rows i)) o) h
    ∙ ap (option_map module_view) (sym k)

seen : (rows : List Module) (names : List Text) (order : List ℕ) (found : List (Bor Module)) → map (λ n. first_place n (module_names rows)) names ≡ map Some order → map (λ m. Some m.now) found ≡ map (λ p. slice_get rows p) order →
    map (λ m. module_view m.now) found ≡ filter_map (module_named (map module_view rows)) names
seen rows [] [] [] h k = refl
seen rows [] [] (m ∷ ms) h k = absurd (cc)
seen rows [] (p ∷ ps) found h k = absurd (cc)
seen rows (n ∷ ns) [] found h k = absurd (cc)
seen rows (n ∷ ns) (p ∷ ps) [] h k = absurd (cc)
seen rows (n ∷ ns) (p ∷ ps) (m ∷ ms) h k =
    let here : first_place n (module_names rows) ≡ Some p = same_first (first_place n (module_names rows)) (Some p) (map (λ x. first_place x (module_names rows)) ns) (map Some ps) h in
    let there : Some m.now ≡ slice_get rows p = same_first (Some m.now) (slice_get rows p) (map (λ x. Some x.now) ms) (map (λ x. slice_get rows x) ps) k in
    let further : map (λ x. module_view x.now) ms ≡ filter_map (module_named (map module_view rows)) ns =
    seen rows ns ps ms
    (same_rest (first_place n (module_names rows)) (Some p) (map (λ x. first_place x (module_names rows)) ns) (map Some ps) h)
    (same_rest (Some m.now) (slice_get rows p) (map (λ x. Some x.now) ms) (map (λ x. slice_get rows x) ps) k) in
    ap (λ l. module_view m.now ∷ l) further ∙ sym (ap (λ o. cons_option o (filter_map (module_named (map module_view rows)) ns)) (named rows n p m.now here there))

-- what the walk from main leaves, in order
pub all_seen : (rows : List Module) (main : Text) (order : List ℕ) (found : List (Bor Module)) → IsOver rows main order → map (λ m. Some m.now) found ≡ map (λ p. slice_get rows p) order →
    map (λ m. module_view m.now) found ≡ filter_map (module_named (map module_view rows)) (names_reached (length (map module_view rows)) (map module_view rows) main)
all_seen rows main order found over is =
    seen rows (names_reached (length rows) (map module_view rows) main) order found over.places is
    ∙ ap (λ k. filter_map (module_named (map module_view rows)) (names_reached k (map module_view rows) main)) (sym (length-map rows module_view))

-- what holds of all holds at each place
pub all_at : {X : Type 0} (P : X → Type 0) (xs : List X) (i : ℕ) (d : X) → AllByRecursion P xs → i < length xs → P (get_or xs i d)
all_at P [] i d h k = absurd (omega arith)
all_at P (x ∷ xs) zero d h k = h.0
all_at P (x ∷ xs) (suc i) d h k = all_at P xs i d h.1 (omega arith)

-- one more module
pub one_more_seen : (rows : List Module) (order : List ℕ) (i : ℕ) (found new : List (Bor Module)) (m : Bor Module) → map (λ x. Some x.now) found ≡ map (λ q. slice_get rows q) (take i order) → i < length order →
    slice_get rows (get_or order i 0) ≡ Some m.now → new ≡ found ++ m ∷ [] → map (λ x. Some x.now) new ≡ map (λ q. slice_get rows q) (take (i + 1) order)
one_more_seen rows order i found new m h within read e =
    let more : i + 1 ≡ suc i = omega arith in
    ap (map (λ x. Some x.now)) e
    ∙ map-append (λ x. Some x.now) found (m ∷ [])
    ∙ ap (λ l. l ++ Some m.now ∷ []) h
    ∙ ap (λ o. map (λ q. slice_get rows q) (take i order) ++ o ∷ []) (sym read)
    ∙ sym (map-append (λ q. slice_get rows q) (take i order) (get_or order i 0 ∷ []))
    ∙ ap (map (λ q. slice_get rows q)) (sym (take-suc order i 0 within))
    ∙ sym (ap (λ k. map (λ q. slice_get rows q) (take k order)) more)
