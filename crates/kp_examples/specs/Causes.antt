-- A run and implications over the example definition that are left undecided, or must not be, and what is shown of them.
use Rattle.std.specs.Prelude.{negsuc, List, [], ◌∷◌, codes, None}
use Rattle.kp_kore.specs.Syntax.{KorePattern, negation, conjunction, exists}
use Rattle.kp_kore.specs.Executions.{Options}
use Rattle.kp_toys.specs.Toys.{sort_s, sort_int, patterns, call, integer}
use Rattle.kp_toys.specs.ToysTheory.{count_of, sq_rule}
use Rattle.kp_symbolic.specs.Terms.{SymbolicTerm, unknown, offset, headed, Replaced}
use Rattle.kp_symbolic.specs.States.{Literal, SymbolicState}
use Rattle.kp_symbolic.specs.Sources.{SymbolicRule}
use Rattle.kp_symbolic.specs.Endings.{RuleUse, Ended, aborted}
use Rattle.kp_symbolic.specs.Shown.{Undecided, Situation}
use Rattle.kp_examples.specs.Clauses.{x_name, y_name, x, y, test, one_term, less_one}
use Rattle.kp_examples.specs.Weights.{square_predicate, sq_beside}
use Rattle.kp_examples.specs.States.{state_with, counter}

-- ---- sq(X), whose rule asks whether X * X < 0

abbrev pub sq_x : KorePattern
sq_x = call (codes "Lblsq") (x ∷ [])

abbrev pub sq_x_state : SymbolicState
sq_x_state = state_with (headed (codes "Lblsq") (one_term (unknown x_name))) [] (x_name ∷ [])

abbrev pub sq_use : RuleUse
sq_use = record { rule = sq_rule; beside = sq_beside }

abbrev pub ten_thousand : Options
ten_thousand = record { bound = 10000; cut_points = []; terminals = [] }

abbrev pub undecided_at_once : Undecided → Ended
undecided_at_once cause = record { depth = 0; ending = aborted cause; state = sq_x }

-- ---- implications between counters

-- \exists Y. count(Y)
abbrev pub some_counter : KorePattern
some_counter = exists sort_s (codes "Y") sort_int (count_of y)

-- \exists Y. count(Y), and Y * Y < 0
abbrev pub some_odd_counter : KorePattern
some_odd_counter = exists sort_s (codes "Y") sort_int (conjunction sort_s (patterns (count_of y ∷ test (codes "Lbllt") (call (codes "Lblmul") (y ∷ y ∷ [])) (integer (codes "0")) ∷ [])))

-- count(X), count(X - 1)
abbrev pub counter_of_x : KorePattern
counter_of_x = count_of x

abbrev pub counter_less_one : KorePattern
counter_less_one = count_of less_one

-- the consequents, each as the one rule
abbrev pub counter_beside : List (List Literal) → SymbolicRule
counter_beside cs = record { left = counter (unknown y_name); clauses = cs; ensured = []; right = None; variables = y_name ∷ [] }

-- the antecedents, with the variables of both sides at hand
abbrev pub x_state : SymbolicState
x_state = state_with (counter (unknown x_name)) [] (x_name ∷ [])

abbrev pub less_state : SymbolicState
less_state = state_with (counter (offset x_name (negsuc 0))) [] (x_name ∷ [])

-- the bound variable is the antecedent's part
abbrev pub y_put : SymbolicTerm → List Replaced
y_put t = record { name = y_name.name; term = t } ∷ []

abbrev pub less_situation : Situation
less_situation = record { hand = counter_less_one ∷ some_counter ∷ []; state = less_state; rules = counter_beside [] ∷ []; put = y_put (offset x_name (negsuc 0)); not_given = []; lefts = [] }

abbrev pub square_not_below : KorePattern
square_not_below = negation sort_s square_predicate
