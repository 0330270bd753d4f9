-- What is kept of the clauses of a formula: their number, and themselves where they aren't too many for a state.
-- Source: conjunctive normal form; the bound on its size is this project's.
use Rattle.std.specs.Prelude.{ℕ, min, nat_lt, List, [], ◌∷◌, ◌++◌, if◌then◌else◌}
use Rattle.kp_symbolic.specs.Alike.{literals_same}
use Rattle.kp_symbolic.specs.Clauses.{most_opened, distributed}
use Rattle.kp_symbolic.specs.Formulas.{Formula, Formulas, no_formulas, next_formula, Size, size_of, together, each_with_each, crossed, kept_once}
use Rattle.kp_symbolic.specs.States.{Literal}

-- the size of a formula's clauses, and the clauses
pub record Distribution : Type 0 where
  pub size : Size
  pub clauses : List (List Literal)

-- one more literal than the clauses of a state may have
abbrev pub most_counted : ℕ
most_counted = 16385

-- a size as it is counted
abbrev pub counted : Size → Size
counted s = record { clauses = min s.clauses most_counted; literals = min s.literals most_counted }

-- the clauses are kept unless they hold too many literals
abbrev pub kept_of : Size → List (List Literal) → Distribution
kept_of s cs = record { size = s; clauses = if nat_lt most_opened s.literals then [] else cs }

abbrev pub distribution_of : Formula Literal → Distribution
distribution_of f = kept_of (counted (size_of f)) (distributed f)

-- of each of the formulas
abbrev pub distributions_of : Formulas Literal → List Distribution
distributions_of no_formulas = []
distributions_of (next_formula f fs) = distribution_of f ∷ distributions_of fs

-- ---- put together from parts

-- what is always true, and what never is
abbrev pub always : Distribution
always = kept_of (record { clauses = 0; literals = 0 }) []

abbrev pub never : Distribution
never = kept_of (record { clauses = 1; literals = 0 }) ([] ∷ [])

-- both are true, and one of both is
abbrev pub both_of : Distribution → Distribution → Distribution
both_of d e = kept_of (counted (together d.size e.size)) (d.clauses ++ e.clauses)

abbrev pub either_of : Distribution → Distribution → Distribution
either_of d e = kept_of (counted (each_with_each d.size e.size)) (kept_once literals_same (crossed literals_same d.clauses e.clauses))

-- all are true, and one of all is
abbrev pub all_distributed : List Distribution → Distribution
all_distributed [] = always
all_distributed (d ∷ ds) = both_of d (all_distributed ds)

abbrev pub one_distributed : List Distribution → Distribution
one_distributed [] = never
one_distributed (d ∷ ds) = either_of d (one_distributed ds)

-- two are both true or both false: the first with its opposite, then the second with its own
abbrev pub agreement_of : Distribution → Distribution → Distribution → Distribution → Distribution
agreement_of d not_d e not_e = both_of (either_of not_d (either_of e never)) (both_of (either_of d (either_of not_e never)) always)
