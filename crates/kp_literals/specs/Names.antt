-- Whether a name stands in clauses.
use Rattle.std.specs.Prelude.{Bool, List}
use Rattle.std.specs.List.{list_any}
use Rattle.kp_kore.specs.Syntax.{Text}
use Rattle.kp_kore.specs.Instance.{is_named}
use Rattle.kp_symbolic.specs.States.{Literal, clause_variables}

-- a variable of the name stands in one of the clauses
abbrev pub is_named_in : Text → List (List Literal) → Bool
is_named_in x cs = list_any (λ c. is_named x (clause_variables c)) cs
