-- How many whole-number variables the clauses of a state compare, and how many stand in the state and in left sides.
-- Source: difference constraints over the whole numbers; the bound is this project's.
use Rattle.std.specs.Prelude.{ℕ, ◌+◌, List, length, if◌then◌else◌}
use Rattle.kp_kore.specs.Signature.{KoreSignature, has_only_numbers}
use Rattle.kp_kore.specs.Value.{Value, whole, truth, token, constructed, Values, no_values, next_value}
use Rattle.kp_symbolic.specs.States.{SymbolicState}
use Rattle.kp_symbolic.specs.Plain.{read_clauses}
use Rattle.kp_symbolic.specs.Weights.{numeric_names, all_bounds}
use Rattle.kp_symbolic.specs.Shown.{whole_variables, sum_over}
use Rattle.kp_rules.specs.Skeletons.{Form, anything, nothing, any_of, one_of, fixed, built, Forms, no_forms, next_form}

-- how many whole-number variables the clauses of a state compare
abbrev pub compared_count : KoreSignature → SymbolicState → ℕ
compared_count g p = length (numeric_names (all_bounds (read_clauses g p)))

-- the numbers that stand in a value, and in values
abbrev mutual
  pub numbers_in : Value → ℕ
  numbers_in (whole n) = 1
  numbers_in (truth b) = 0
  numbers_in (token s t) = 0
  numbers_in (constructed c us) = all_numbers_in us

  pub all_numbers_in : Values → ℕ
  all_numbers_in no_values = 0
  all_numbers_in (next_value u us) = numbers_in u + all_numbers_in us

-- the places of a form at which a whole-number variable stands, or a number: also in a value that stands there
abbrev mutual
  pub numeric_places : KoreSignature → Form → ℕ
  numeric_places g anything = 0
  numeric_places g nothing = 0
  numeric_places g (any_of s) = 0
  numeric_places g (one_of x s) = if has_only_numbers g s then 1 else 0
  numeric_places g (fixed u) = numbers_in u
  numeric_places g (built f ks) = all_numeric_places g ks

  pub all_numeric_places : KoreSignature → Forms → ℕ
  all_numeric_places g no_forms = 0
  all_numeric_places g (next_form k ks) = numeric_places g k + all_numeric_places g ks

-- the whole-number variables of the state, and such places of the left sides
abbrev pub most_compared : KoreSignature → SymbolicState → List Form → ℕ
most_compared g s lefts = whole_variables g s.variables + sum_over (numeric_places g) lefts
