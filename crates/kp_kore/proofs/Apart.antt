-- A pattern is what it is taken apart into, put together again; the patterns below it nest less deep.
use Rattle.std.proofs.Common.{◌≡◌, ℕ, zero, suc, ◌<◌, ◌≤◌, ◌==◌, if◌then◌else◌, List, [], ◌∷◌, length, get_or, refl, sym, ap, subst, ◌∙◌, arith}
use Rattle.kp_kore.specs.Syntax.{Text, KoreSort, sort_variable, KoreSorts, no_sorts, next_sort, KorePattern, KorePatterns, no_patterns, next_pattern, variable, set_variable, application, string_literal, literal, top, bottom, negation, next, conjunction, disjunction, implication, equivalence, rewriting, exists, forall, ceil, floor, equals, membership, mu, nu}
use Rattle.kp_kore.specs.Parts.{nesting, most_nesting}
use Rattle.kp_kore.specs.View.{view, patterns_view}
use Rattle.kp_kore.specs.declared.pattern.Pattern.{Pattern}
use Rattle.kp_kore.specs.Apart.{form_of, text_of, first_sorts, second_sorts, first_parts, second_parts, HaveSameHeads}

-- the only one of a list of one
abbrev only_sort : KoreSorts → KoreSort
only_sort no_sorts = sort_variable []
only_sort (next_sort s ss) = s

abbrev only_pattern : KorePatterns → KorePattern
only_pattern no_patterns = string_literal []
only_pattern (next_pattern p ps) = p

abbrev together : ℕ → Text → KoreSorts → KoreSorts → KorePatterns → KorePatterns → KorePattern
together n x ss ts ps qs =
    if n == 0 then variable x (only_sort ss) else
    if n == 1 then set_variable x (only_sort ss) else
    if n == 2 then application x ss ps else
    if n == 3 then string_literal x else
    if n == 4 then literal (only_sort ss) x else
    if n == 5 then top (only_sort ss) else
    if n == 6 then bottom (only_sort ss) else
    if n == 7 then negation (only_sort ss) (only_pattern ps) else
    if n == 8 then next (only_sort ss) (only_pattern ps) else
    if n == 9 then conjunction (only_sort ss) ps else
    if n == 10 then disjunction (only_sort ss) ps else
    if n == 11 then implication (only_sort ss) (only_pattern ps) (only_pattern qs) else
    if n == 12 then equivalence (only_sort ss) (only_pattern ps) (only_pattern qs) else
    if n == 13 then rewriting (only_sort ss) (only_pattern ps) (only_pattern qs) else
    if n == 14 then exists (only_sort ss) x (only_sort ts) (only_pattern ps) else
    if n == 15 then forall (only_sort ss) x (only_sort ts) (only_pattern ps) else
    if n == 16 then ceil (only_sort ss) (only_sort ts) (only_pattern ps) else
    if n == 17 then floor (only_sort ss) (only_sort ts) (only_pattern ps) else
    if n == 18 then equals (only_sort ss) (only_sort ts) (only_pattern ps) (only_pattern qs) else
    if n == 19 then membership (only_sort ss) (only_sort ts) (only_pattern ps) (only_pattern qs) else
    if n == 20 then mu x (only_sort ss) (only_pattern ps) else
    nu x (only_sort ss) (only_pattern ps)

abbrev together_of : KorePattern → KorePattern
together_of p = together (form_of p) (text_of p) (first_sorts p) (second_sorts p) (first_parts p) (second_parts p)

is_together : (p : KorePattern) → together_of p ≡ p
is_together (variable x s) = refl
is_together (set_variable x s) = refl
is_together (application f ss ps) = refl
is_together (string_literal t) = refl
is_together (literal s t) = refl
is_together (top s) = refl
is_together (bottom s) = refl
is_together (negation s p) = refl
is_together (next s p) = refl
is_together (conjunction s ps) = refl
is_together (disjunction s ps) = refl
is_together (implication s p q) = refl
is_together (equivalence s p q) = refl
is_together (rewriting s p q) = refl
is_together (exists s x t p) = refl
is_together (forall s x t p) = refl
is_together (ceil a s p) = refl
is_together (floor a s p) = refl
is_together (equals a s p q) = refl
is_together (membership a s p q) = refl
is_together (mu x s p) = refl
is_together (nu x s p) = refl

pub same_pattern : (p q : KorePattern) → HaveSameHeads p q → first_parts p ≡ first_parts q → second_parts p ≡ second_parts q → p ≡ q
same_pattern p q h d e =
    sym (is_together p)
    ∙ ap (λ n. together n (text_of p) (first_sorts p) (second_sorts p) (first_parts p) (second_parts p)) h.form
    ∙ ap (λ x. together (form_of q) x (first_sorts p) (second_sorts p) (first_parts p) (second_parts p)) h.text
    ∙ ap (λ ss. together (form_of q) (text_of q) ss (second_sorts p) (first_parts p) (second_parts p)) h.first
    ∙ ap (λ ts. together (form_of q) (text_of q) (first_sorts q) ts (first_parts p) (second_parts p)) h.second
    ∙ ap (λ ps. together (form_of q) (text_of q) (first_sorts q) (second_sorts q) ps (second_parts p)) d
    ∙ ap (λ qs. together (form_of q) (text_of q) (first_sorts q) (second_sorts q) (first_parts q) qs) e
    ∙ is_together q

pub heads_of_same : (p q : KorePattern) → p ≡ q → HaveSameHeads p q
heads_of_same p q e = record { form = ap form_of e; text = ap text_of e; first = ap first_sorts e; second = ap second_sorts e }

-- the patterns below a pattern nest less deep than it
pub first_are_shallower : (p : KorePattern) → most_nesting (first_parts p) < nesting p
first_are_shallower (variable x s) = omega arith
first_are_shallower (set_variable x s) = omega arith
first_are_shallower (application f ss ps) = omega arith
first_are_shallower (string_literal t) = omega arith
first_are_shallower (literal s t) = omega arith
first_are_shallower (top s) = omega arith
first_are_shallower (bottom s) = omega arith
first_are_shallower (negation s p) = omega arith
first_are_shallower (next s p) = omega arith
first_are_shallower (conjunction s ps) = omega arith
first_are_shallower (disjunction s ps) = omega arith
first_are_shallower (implication s p q) = omega arith
first_are_shallower (equivalence s p q) = omega arith
first_are_shallower (rewriting s p q) = omega arith
first_are_shallower (exists s x t p) = omega arith
first_are_shallower (forall s x t p) = omega arith
first_are_shallower (ceil a s p) = omega arith
first_are_shallower (floor a s p) = omega arith
first_are_shallower (equals a s p q) = omega arith
first_are_shallower (membership a s p q) = omega arith
first_are_shallower (mu x s p) = omega arith
first_are_shallower (nu x s p) = omega arith

pub second_are_shallower : (p : KorePattern) → most_nesting (second_parts p) < nesting p
second_are_shallower (variable x s) = omega arith
second_are_shallower (set_variable x s) = omega arith
second_are_shallower (application f ss ps) = omega arith
second_are_shallower (string_literal t) = omega arith
second_are_shallower (literal s t) = omega arith
second_are_shallower (top s) = omega arith
second_are_shallower (bottom s) = omega arith
second_are_shallower (negation s p) = omega arith
second_are_shallower (next s p) = omega arith
second_are_shallower (conjunction s ps) = omega arith
second_are_shallower (disjunction s ps) = omega arith
second_are_shallower (implication s p q) = omega arith
second_are_shallower (equivalence s p q) = omega arith
second_are_shallower (rewriting s p q) = omega arith
second_are_shallower (exists s x t p) = omega arith
second_are_shallower (forall s x t p) = omega arith
second_are_shallower (ceil a s p) = omega arith
second_are_shallower (floor a s p) = omega arith
second_are_shallower (equals a s p q) = omega arith
second_are_shallower (membership a s p q) = omega arith
second_are_shallower (mu x s p) = omega arith
second_are_shallower (nu x s p) = omega arith

-- a pattern of a list nests no deeper than the list
pub member_is_no_deeper : (ps : List Pattern) (i : ℕ) (p : Pattern) → i < length ps → p ≡ get_or ps i p → nesting (view p) ≤ most_nesting (patterns_view ps)
member_is_no_deeper [] i p below is = absurd (omega (arith, below))
member_is_no_deeper (q ∷ qs) zero p below is = subst (λ r. nesting (view r) ≤ most_nesting (patterns_view (q ∷ qs))) (sym is) (omega arith)
member_is_no_deeper (q ∷ qs) (suc i) p below is = let rest : nesting (view p) ≤ most_nesting (patterns_view qs) = member_is_no_deeper qs i p (omega (arith, below)) is in omega (arith, rest)
