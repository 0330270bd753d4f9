-- A clause that holds variables in the place of which terms stand.
-- Source: simultaneous substitution; the bound on what is opened again is this project's.
use Rattle.std.specs.Prelude.{ℕ, Bool, true, List, [], ◌∷◌, if◌then◌else◌}
use Rattle.std.specs.List.{list_any}
use Rattle.kp_kore.specs.Syntax.{KoreSort, KorePattern}
use Rattle.kp_kore.specs.Signature.{KoreSignature}
use Rattle.kp_kore.specs.Instance.{is_named}
use Rattle.kp_symbolic.specs.Terms.{Replaced}
use Rattle.kp_symbolic.specs.States.{Literal, clause_variables}
use Rattle.kp_symbolic.specs.Opening.{quotation}
use Rattle.kp_symbolic.specs.Writing.{written_clause}
use Rattle.kp_symbolic.specs.Clauses.{distributed, is_too_large}
use Rattle.kp_clause_substitution.specs.Replacing.{clause_under}

-- one of the variables in the place of which a term stands is in the clause
abbrev pub holds_one : List Replaced → List Literal → Bool
holds_one qs c = list_any (λ q. is_named q.name (clause_variables c)) qs

-- a predicate with terms in the place of its variables, as the one literal of a clause
abbrev pub quoted_under : List Replaced → KorePattern → List Literal
quoted_under qs p = record { holds = true; atom = quotation qs p } ∷ []

-- it is opened again with the terms, or stays as what is written for it, with the terms beside
abbrev pub substituted_holding : KoreSignature → KoreSort → List Replaced → ℕ → List Literal → List (List Literal)
substituted_holding g sort qs so_far c =
    if is_too_large so_far (clause_under g qs c) then quoted_under qs (written_clause g sort c) ∷ []
    else distributed (clause_under g qs c)
