-- Sorts with arguments in the place of parameters, by the loops that make them.
use Rattle.std.proofs.Common.{◌≡◌, refl, sym, ap, ◌∙◌, ℕ, ◌+◌, ◌<◌, ◌≤◌, true, false, cond, List, [], ◌∷◌, map, length, drop, get_or, String, Global, string_bytes, arith}
use Rattle.std.proofs.lemmas.List.{drop_all, drop_more}
use Rattle.std.specs.Str.{bytes_eq}
use Rattle.kp_kore.specs.Syntax.{Text, KoreSorts, sort_variable, next_sort}
use Rattle.kp_kore.specs.Sorting.{argument_for, at_arguments, all_at_arguments}
use Rattle.kp_kore.specs.declared.sort.Sort.{Sort}
use Rattle.kp_kore.specs.View.{sort_view, sorts_of, sorts_view, names_view}

pub instances_all : (ps : List Text) (arguments : KoreSorts) (ss : List Sort) → sorts_of (map (λ s. at_arguments ps arguments (sort_view s)) ss) ≡ all_at_arguments ps arguments (sorts_view ss)
instances_all ps arguments [] = refl
instances_all ps arguments (s ∷ ss) = ap (λ l. next_sort (at_arguments ps arguments (sort_view s)) l) (instances_all ps arguments ss)

-- the parameter at i is another name
pub next_parameter : (n : Text) (ps : List (String Global)) (ss : List Sort) (i : ℕ) (p : String Global) → i < length ps → i < length ss → p ≡ get_or ps i p → bytes_eq (string_bytes p) n ≡ false →
    argument_for (names_view (drop i ps)) (sorts_view (drop i ss)) n ≡ argument_for (names_view (drop (i + 1) ps)) (sorts_view (drop (i + 1) ss)) n
next_parameter n [] ss i p h k is e = absurd (nothing_below i h)
  where
    nothing_below : (i : ℕ) → i < 0 → ⊥
    nothing_below i h = omega arith
next_parameter n (q ∷ ps) [] i p h k is e = absurd (nothing_below i k)
  where
    nothing_below : (i : ℕ) → i < 0 → ⊥
    nothing_below i h = omega arith
next_parameter n (q ∷ ps) (s ∷ ss) i p h k is e =
    ap (λ l. argument_for (names_view l) (sorts_view (drop i (s ∷ ss))) n) (drop_more (q ∷ ps) i p h)
    ∙ ap (λ l. argument_for (names_view (get_or (q ∷ ps) i p ∷ drop (i + 1) (q ∷ ps))) (sorts_view l) n) (drop_more (s ∷ ss) i s k)
    ∙ ap (λ b. cond b (sort_view (get_or (s ∷ ss) i s)) (argument_for (names_view (drop (i + 1) (q ∷ ps))) (sorts_view (drop (i + 1) (s ∷ ss))) n)) (ap (λ m. bytes_eq (string_bytes m) n) (sym is) ∙ e)

-- the parameter at i is the name
pub this_parameter : (n : Text) (ps : List (String Global)) (ss : List Sort) (i : ℕ) (p : String Global) (s : Sort) → i < length ps → i < length ss → p ≡ get_or ps i p → s ≡ get_or ss i s → bytes_eq (string_bytes p) n ≡ true →
    argument_for (names_view (drop i ps)) (sorts_view (drop i ss)) n ≡ sort_view s
this_parameter n ps ss i p s h k is at e =
    ap (λ l. argument_for (names_view l) (sorts_view (drop i ss)) n) (drop_more ps i p h)
    ∙ ap (λ l. argument_for (names_view (get_or ps i p ∷ drop (i + 1) ps)) (sorts_view l) n) (drop_more ss i s k)
    ∙ ap (λ b. cond b (sort_view (get_or ss i s)) (argument_for (names_view (drop (i + 1) ps)) (sorts_view (drop (i + 1) ss)) n)) (ap (λ m. bytes_eq (string_bytes m) n) (sym is) ∙ e)
    ∙ ap sort_view (sym at)

-- no parameter is left, or no argument
pub no_parameter : (n : Text) (ps : List (String Global)) (ss : List Sort) (i : ℕ) → length ps ≤ i → argument_for (names_view (drop i ps)) (sorts_view (drop i ss)) n ≡ sort_variable n
no_parameter n ps ss i h = ap (λ l. argument_for (names_view l) (sorts_view (drop i ss)) n) (drop_all i ps h)

pub no_argument : (n : Text) (ps : List (String Global)) (ss : List Sort) (i : ℕ) → length ss ≤ i → argument_for (names_view (drop i ps)) (sorts_view (drop i ss)) n ≡ sort_variable n
no_argument n ps ss i h = ap (λ l. argument_for (names_view (drop i ps)) (sorts_view l) n) (drop_all i ss h) ∙ by (drop i ps)
  where
    by : (l : List (String Global)) → argument_for (names_view l) (sorts_view []) n ≡ sort_variable n
    by [] = refl
    by (p ∷ ps) = refl
