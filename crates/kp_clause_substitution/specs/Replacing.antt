-- Literals and clauses with terms in the place of their variables, all at once, opened again.
-- Source: simultaneous substitution; matching logic's predicates.
use Rattle.std.specs.Prelude.{Bool, not, ◌&&◌, List, [], ◌∷◌, ◌++◌, map}
use Rattle.std.specs.Option.{is_some}
use Rattle.std.specs.List.{filter}
use Rattle.kp_kore.specs.Syntax.{KorePattern}
use Rattle.kp_kore.specs.Parts.{SortedName, free_variables}
use Rattle.kp_kore.specs.Signature.{KoreSignature}
use Rattle.kp_kore.specs.Instance.{is_named}
use Rattle.kp_symbolic.specs.Terms.{unknown, Replaced, replacement_for}
use Rattle.kp_symbolic.specs.Folding.{replaced}
use Rattle.kp_symbolic.specs.Formulas.{Formula, one_of, Formulas, no_formulas, next_formula}
use Rattle.kp_symbolic.specs.States.{Atom, same, has_head, quoted, Literal}
use Rattle.kp_symbolic.specs.Opening.{literal_fact, opened_same, opened_test}
use Rattle.kp_symbolic.specs.Solving.{is_single}

-- the terms that stand in a quoted predicate, with terms in the place of their variables
abbrev pub with_terms : KoreSignature → List Replaced → List Replaced → List Replaced
with_terms g qs rs = map (λ r. record { name = r.name; term = replaced g qs r.term }) rs

-- the terms for these variables, in the place of which none of the others stands yet
abbrev pub new_for : List SortedName → List Replaced → List Replaced → List Replaced
new_for xs rs qs = filter (λ q. is_named q.name xs && not (is_some (replacement_for rs q.name))) qs

-- and the terms for the predicate's own variables
abbrev pub beside : KoreSignature → List Replaced → KorePattern → List Replaced → List Replaced
beside g qs p rs = with_terms g qs rs ++ new_for (free_variables p) rs qs

-- an atom by its sign, as a clause's only literal or one of several
abbrev pub opened_under : KoreSignature → List Replaced → Bool → Bool → Atom → Formula Literal
opened_under g qs alone b (same s t u) = opened_same g alone b s (replaced g qs t) (replaced g qs u)
opened_under g qs alone b (has_head x test) = opened_test g b test (literal_fact b (has_head x test)) (replaced g qs (unknown x))
opened_under g qs alone b (quoted p rs) = literal_fact b (quoted p (beside g qs p rs))

abbrev pub all_opened_under : KoreSignature → List Replaced → Bool → List Literal → Formulas Literal
all_opened_under g qs alone [] = no_formulas
all_opened_under g qs alone (l ∷ c) = next_formula (opened_under g qs alone l.holds l.atom) (all_opened_under g qs alone c)

-- one of a clause's literals
abbrev pub clause_under : KoreSignature → List Replaced → List Literal → Formula Literal
clause_under g qs c = one_of (all_opened_under g qs (is_single c) c)
