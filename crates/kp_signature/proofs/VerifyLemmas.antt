-- The faults of lists of patterns, member by member.
use Rattle.std.proofs.Common.{◌≡◌, refl, sym, ap, ◌∙◌, ℕ, ◌+◌, ◌<◌, ◌≤◌, List, ◌++◌, length, take, drop, get_or, None}
use Rattle.std.proofs.lemmas.List.{drop_all, drop_more}
use Rattle.kp_kore.specs.Syntax.{KoreSorts, no_sorts, next_sort, no_patterns, next_pattern}
use Rattle.kp_kore.specs.Parts.{SortedName, free_variables, all_free_variables}
use Rattle.kp_kore.specs.Signature.{KoreSignature}
use Rattle.kp_kore.specs.declared.sort.Sort.{Sort}
use Rattle.kp_kore.specs.declared.pattern.Pattern.{Pattern}
use Rattle.kp_kore.specs.View.{sort_view, sorts_view, view, patterns_view}
use Rattle.kp_kore.proofs.FreeVariables.{free_more}
use Rattle.kp_signature.specs.Places.{Place, earlier, argument_at}
use Rattle.kp_signature.specs.Verify.{first_fault, members_fault, arguments_fault}

-- the place with these variables in scope too
abbrev pub with_found : Place → List SortedName → Place
with_found c found = record { wanted = c.wanted; depth = c.depth; scope = c.scope ++ found }

-- the variables of the first i
abbrev pub found_in : List Pattern → ℕ → List SortedName
found_in ps i = all_free_variables (patterns_view (take i ps))

pub found_more : (start : List SortedName) (ps : List Pattern) (i : ℕ) (p : Pattern) → i < length ps → p ≡ get_or ps i p →
    (start ++ found_in ps i) ++ free_variables (view p) ≡ start ++ found_in ps (i + 1)
found_more start ps i p h is = free_more ps i p (start ++ found_in ps i) ((start ++ found_in ps i) ++ free_variables (view p)) start h is refl refl

at_drop : (ps : List Pattern) (i : ℕ) (p : Pattern) → i < length ps → p ≡ get_or ps i p → patterns_view (drop i ps) ≡ next_pattern (view p) (patterns_view (drop (i + 1) ps))
at_drop ps i p h is = ap patterns_view (drop_more ps i p h) ∙ ap (λ q. next_pattern (view q) (patterns_view (drop (i + 1) ps))) (sym is)

sort_at_drop : (ss : List Sort) (i : ℕ) (s : Sort) → i < length ss → s ≡ get_or ss i s → sorts_view (drop i ss) ≡ next_sort (sort_view s) (sorts_view (drop (i + 1) ss))
sort_at_drop ss i s h is = ap sorts_view (drop_more ss i s h) ∙ ap (λ q. next_sort (sort_view q) (sorts_view (drop (i + 1) ss))) (sym is)

-- ---- members

pub members_open : (g : KoreSignature) (c : Place) (ps : List Pattern) (i : ℕ) (p : Pattern) → i < length ps → p ≡ get_or ps i p →
    members_fault g c (patterns_view ps) ≡ members_fault g (with_found c (found_in ps i)) (patterns_view (drop i ps)) →
    members_fault g c (patterns_view ps) ≡ earlier (first_fault g (with_found c (found_in ps i)) (view p)) (members_fault g (with_found c (found_in ps (i + 1))) (patterns_view (drop (i + 1) ps)))
members_open g c ps i p h is so =
    so ∙ ap (members_fault g (with_found c (found_in ps i))) (at_drop ps i p h is)
    ∙ ap (λ s. earlier (first_fault g (with_found c (found_in ps i)) (view p)) (members_fault g (record { wanted = c.wanted; depth = c.depth; scope = s }) (patterns_view (drop (i + 1) ps)))) (found_more c.scope ps i p h is)

pub members_done : (g : KoreSignature) (c : Place) (ps : List Pattern) (i : ℕ) → length ps ≤ i →
    members_fault g c (patterns_view ps) ≡ members_fault g (with_found c (found_in ps i)) (patterns_view (drop i ps)) → members_fault g c (patterns_view ps) ≡ None
members_done g c ps i h so = so ∙ ap (λ l. members_fault g (with_found c (found_in ps i)) (patterns_view l)) (drop_all i ps h)

-- ---- arguments

pub arguments_open : (g : KoreSignature) (c : Place) (ss : List Sort) (ps : List Pattern) (i : ℕ) (s : Sort) (p : Pattern) → i < length ss → s ≡ get_or ss i s → i < length ps → p ≡ get_or ps i p →
    arguments_fault g c (sorts_view ss) (patterns_view ps) ≡ arguments_fault g (with_found c (found_in ps i)) (sorts_view (drop i ss)) (patterns_view (drop i ps)) →
    arguments_fault g c (sorts_view ss) (patterns_view ps) ≡ earlier (first_fault g (argument_at (with_found c (found_in ps i)) (sort_view s)) (view p)) (arguments_fault g (with_found c (found_in ps (i + 1))) (sorts_view (drop (i + 1) ss)) (patterns_view (drop (i + 1) ps)))
arguments_open g c ss ps i s p k at h is so =
    so ∙ ap (λ l. arguments_fault g (with_found c (found_in ps i)) l (patterns_view (drop i ps))) (sort_at_drop ss i s k at)
    ∙ ap (arguments_fault g (with_found c (found_in ps i)) (next_sort (sort_view s) (sorts_view (drop (i + 1) ss)))) (at_drop ps i p h is)
    ∙ ap (λ v. earlier (first_fault g (argument_at (with_found c (found_in ps i)) (sort_view s)) (view p)) (arguments_fault g (record { wanted = c.wanted; depth = c.depth; scope = v }) (sorts_view (drop (i + 1) ss)) (patterns_view (drop (i + 1) ps)))) (found_more c.scope ps i p h is)

no_argument : (g : KoreSignature) (c : Place) (ss : KoreSorts) → arguments_fault g c ss no_patterns ≡ None
no_argument g c no_sorts = refl
no_argument g c (next_sort s ss) = refl

pub arguments_done : (g : KoreSignature) (c : Place) (ss : List Sort) (ps : List Pattern) (i : ℕ) → length ps ≤ i →
    arguments_fault g c (sorts_view ss) (patterns_view ps) ≡ arguments_fault g (with_found c (found_in ps i)) (sorts_view (drop i ss)) (patterns_view (drop i ps)) → arguments_fault g c (sorts_view ss) (patterns_view ps) ≡ None
arguments_done g c ss ps i h so = so ∙ ap (λ l. arguments_fault g (with_found c (found_in ps i)) (sorts_view (drop i ss)) (patterns_view l)) (drop_all i ps h) ∙ no_argument g (with_found c (found_in ps i)) (sorts_view (drop i ss))

pub no_places_left : (g : KoreSignature) (c : Place) (ss : List Sort) (ps : List Pattern) (i : ℕ) → length ss ≤ i →
    arguments_fault g c (sorts_view ss) (patterns_view ps) ≡ arguments_fault g (with_found c (found_in ps i)) (sorts_view (drop i ss)) (patterns_view (drop i ps)) → arguments_fault g c (sorts_view ss) (patterns_view ps) ≡ None
no_places_left g c ss ps i h so = so ∙ ap (λ l. arguments_fault g (with_found c (found_in ps i)) (sorts_view l) (patterns_view (drop i ps))) (drop_all i ss h)
