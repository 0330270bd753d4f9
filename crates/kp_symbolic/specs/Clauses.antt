-- The clauses of a state's predicates: each conjunct is opened and distributed, unless that makes too many literals.
-- Source: this project.
use Rattle.std.specs.Prelude.{ℕ, ◌+◌, Bool, true, false, not, nat_lt, List, [], ◌∷◌, ◌++◌, if◌then◌else◌}
use Rattle.std.specs.Bool.{beq}
use Rattle.kp_kore.specs.Syntax.{KorePattern, negation}
use Rattle.kp_kore.specs.Signature.{KoreSignature}
use Rattle.kp_kore.specs.Instance.{conjuncts}
use Rattle.kp_symbolic.specs.Terms.{unknown, Replaced}
use Rattle.kp_symbolic.specs.Formulas.{Formula, all_of, one_of, Formulas, no_formulas, next_formula, formula_clauses, kept_once, size_of}
use Rattle.kp_symbolic.specs.States.{Atom, same, has_head, quoted, Literal}
use Rattle.kp_symbolic.specs.Alike.{literals_same}
use Rattle.kp_symbolic.specs.Opening.{literal_fact, opened_same, opened_test, quotation, opened_predicate}

-- the clauses of a formula of literals
abbrev pub distributed : Formula Literal → List (List Literal)
distributed f = formula_clauses literals_same f

abbrev pub without_repeats : List (List Literal) → List (List Literal)
without_repeats cs = kept_once literals_same cs

-- ---- the predicates of a state

-- as many literals, repeats included, as all conjuncts of a state may make
abbrev pub most_opened : ℕ
most_opened = 16384

-- whether a formula with so many literals before it makes too many
abbrev pub is_too_large : ℕ → Formula Literal → Bool
is_too_large so_far f = nat_lt most_opened (so_far + (size_of f).literals)

-- the predicate as one literal, with the sign of its negations
abbrev pub quoted_literal : List Replaced → Bool → KorePattern → Literal
quoted_literal rs b (negation s p) = quoted_literal rs (not b) p
quoted_literal rs b p = record { holds = b; atom = quotation rs p }

-- a conjunct behind so many literals: its clauses, or itself as one literal
abbrev pub clauses_of_conjunct : KoreSignature → List Replaced → ℕ → KorePattern → List (List Literal)
clauses_of_conjunct g rs so_far p =
    if is_too_large so_far (opened_predicate g rs true p) then (quoted_literal rs true p ∷ []) ∷ []
    else distributed (opened_predicate g rs true p)

abbrev pub literals_of_conjunct : KoreSignature → List Replaced → ℕ → KorePattern → ℕ
literals_of_conjunct g rs so_far p = if is_too_large so_far (opened_predicate g rs true p) then 1 else (size_of (opened_predicate g rs true p)).literals

abbrev pub clauses_of_conjuncts : KoreSignature → List Replaced → ℕ → List KorePattern → List (List Literal)
clauses_of_conjuncts g rs so_far [] = []
clauses_of_conjuncts g rs so_far (p ∷ ps) = clauses_of_conjunct g rs so_far p ++ clauses_of_conjuncts g rs (so_far + literals_of_conjunct g rs so_far p) ps

-- the clauses of a predicate
abbrev pub clauses_of : KoreSignature → List Replaced → KorePattern → List (List Literal)
clauses_of g rs p = without_repeats (clauses_of_conjuncts g rs 0 (conjuncts p))

-- ---- clauses that are opened again

abbrev pub opened_atom : KoreSignature → Bool → Bool → Atom → Formula Literal
opened_atom g alone b (same s t u) = opened_same g alone b s t u
opened_atom g alone b (has_head x test) = opened_test g b test (literal_fact b (has_head x test)) (unknown x)
opened_atom g alone b (quoted p rs) = literal_fact b (quoted p rs)

-- a literal, or its opposite
abbrev pub opened_literal : KoreSignature → Bool → Bool → Literal → Formula Literal
opened_literal g alone b l = opened_atom g alone (beq b l.holds) l.atom

abbrev pub opened_literals : KoreSignature → Bool → Bool → List Literal → Formulas Literal
opened_literals g alone b [] = no_formulas
opened_literals g alone b (l ∷ c) = next_formula (opened_literal g alone b l) (opened_literals g alone b c)

-- one of the opposites of each clause
abbrev pub denied_clauses : KoreSignature → List (List Literal) → Formulas Literal
denied_clauses g [] = no_formulas
denied_clauses g (c ∷ cs) = next_formula (all_of (opened_literals g false false c)) (denied_clauses g cs)

abbrev pub denied : KoreSignature → List (List Literal) → Formula Literal
denied g cs = one_of (denied_clauses g cs)
