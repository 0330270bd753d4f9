-- Room for new names, where the names in use were listed.
use Rattle.std.proofs.Common.{◌≡◌, refl, sym, ap, ◌∙◌, subst, ℕ, suc, ◌+◌, ◌<◌, ◌≤◌, ◌^◌, false, List, [], ◌∷◌, ◌++◌, map, length, get_or, drop}
use Rattle.std.specs.List.{list_any}
use Rattle.std.specs.Str.{bytes_eq}
use Rattle.std.proofs.lemmas.List.{length-map, map-append, append_assoc, drop_more, drop_all}
use Rattle.kp_kore.specs.Syntax.{Text, KorePattern}
use Rattle.kp_kore.specs.Parts.{sort_list, variable_names}
use Rattle.kp_kore.specs.View.{view, sorts_view, patterns_view}
use Rattle.kp_kore.specs.declared.pattern.Pattern.{Pattern}
use Rattle.kp_kore.specs.declared.sort.Sort.{Sort}
use Rattle.kp_symbolic.specs.Terms.{Replaced}
use Rattle.kp_symbolic.specs.Writing.{names_coming_in}
use Rattle.kp_symbolic_laws.specs.Runs.{IsRoomAt, HasRoom, AllHaveRoom}

pub sorts_length : (ss : List Sort) → length (sort_list (sorts_view ss)) ≡ length ss
sorts_length [] = refl
sorts_length (s ∷ ss) = ap suc (sorts_length ss)

-- the name is none of those that come in
pub room_apart : (rs : List Replaced) (x : Text) (p : KorePattern) → list_any (bytes_eq x) (names_coming_in rs x p) ≡ false → IsRoomAt rs x p
room_apart rs x p e = λ h. absurd (cc)

pub room_listed : {X : Type 0} (f : X → Text) (names : List X) (rs : List Replaced) (x : Text) (p : KorePattern) → map f names ≡ names_coming_in rs x p ++ variable_names p → length names < 2 ^ 64 → IsRoomAt rs x p
room_listed f names rs x p e h = λ there. subst (λ n. n < 2 ^ 64) (sym (sym (ap length e) ∙ length-map names f)) h

-- ---- of each predicate of a list

pub room_further : (rs : List Replaced) (i : ℕ) (ps : List Pattern) (p : Pattern) → i < length ps → p ≡ get_or ps i p → HasRoom rs (view p) → (AllHaveRoom rs (patterns_view (drop i ps)) → AllHaveRoom rs (patterns_view ps)) → AllHaveRoom rs (patterns_view (drop (i + 1) ps)) → AllHaveRoom rs (patterns_view ps)
room_further rs i ps p h e r f = λ a. f (subst (λ qs. AllHaveRoom rs (patterns_view qs)) (sym (drop_more ps i p h ∙ ap (λ q. q ∷ drop (i + 1) ps) (sym e))) (r, a))

pub room_of_all : (rs : List Replaced) (i : ℕ) (ps : List Pattern) → length ps ≤ i → (AllHaveRoom rs (patterns_view (drop i ps)) → AllHaveRoom rs (patterns_view ps)) → AllHaveRoom rs (patterns_view ps)
room_of_all rs i ps h f = f (subst (λ qs. AllHaveRoom rs (patterns_view qs)) (sym (drop_all i ps h)) tt)

-- what was written for the predicates so far, and is written for the others
pub written_further : (f : Pattern → KorePattern) (i : ℕ) (ps : List Pattern) (p : Pattern) (found new : List Pattern) (q : Pattern) → i < length ps → p ≡ get_or ps i p → new ≡ found ++ q ∷ [] → view q ≡ f p → map view found ++ map f (drop i ps) ≡ map f ps → map view new ++ map f (drop (i + 1) ps) ≡ map f ps
written_further f i ps p found new q h is pushed written all =
    let rest = map f (drop (i + 1) ps) in
    ap (λ l. map view l ++ rest) pushed
    ∙ ap (λ l. l ++ rest) (map-append view found (q ∷ []))
    ∙ append_assoc (map view found) (view q ∷ []) rest
    ∙ ap (λ z. map view found ++ z ∷ rest) written
    ∙ sym (ap (λ l. map view found ++ map f l) (drop_more ps i p h ∙ ap (λ y. y ∷ drop (i + 1) ps) (sym is)))
    ∙ all
