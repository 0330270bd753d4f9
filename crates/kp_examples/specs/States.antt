-- Whole states over the example definition, the patterns that they are read from, and those that are written for them.
use Rattle.std.specs.Prelude.{pos, negsuc, true, false, List, [], ◌∷◌, codes}
use Rattle.kp_kore.specs.Syntax.{KorePattern, negation, conjunction, equals}
use Rattle.kp_kore.specs.Parts.{SortedName}
use Rattle.kp_kore.specs.Value.{no_values, next_value, constructed}
use Rattle.kp_toys.specs.Toys.{sort_s, sort_e, patterns, call, integer, injected}
use Rattle.kp_toys.specs.ToysTheory.{count_of, done}
use Rattle.kp_symbolic.specs.Terms.{SymbolicTerm, unknown, offset, known, headed}
use Rattle.kp_symbolic.specs.States.{Literal, SymbolicState}
use Rattle.kp_examples.specs.Clauses.{x_name, p_name, q_name, of_name, x, test, above, alone, one_term, is_pa, is_above, three_less_one, less_one}
use Rattle.kp_examples.specs.Weights.{x_to, is_zero, square_below, square_predicate, pa_literal, fresh_one, q_fresh}

abbrev pub with_members : List KorePattern → KorePattern
with_members ps = conjunction sort_s (patterns ps)

-- a state of SortS{} with these variables, one for each place
abbrev pub state_with : SymbolicTerm → List (List Literal) → List SortedName → SymbolicState
state_with t cs xs = record { term = t; sort = sort_s; clauses = cs; variables = xs }

abbrev pub counter : SymbolicTerm → SymbolicTerm
counter t = headed (codes "Lblcount") (one_term t)

-- ---- counters

abbrev pub remainder : KorePattern
remainder = with_members (count_of x ∷ negation sort_s (test (codes "Lbleq") x (integer (codes "0"))) ∷ negation sort_s (above x (codes "0")) ∷ [])

abbrev pub remainder_state : SymbolicState
remainder_state = state_with (counter (unknown x_name)) ((is_zero false ∷ []) ∷ (is_above false 0 ∷ []) ∷ []) (x_name ∷ x_name ∷ x_name ∷ [])

abbrev pub never_pattern : KorePattern
never_pattern = with_members (count_of x ∷ above x (codes "0") ∷ test (codes "Lbllt") x (integer (codes "1")) ∷ [])

abbrev pub never_state : SymbolicState
never_state = state_with (counter (unknown x_name)) ((is_above true 0 ∷ []) ∷ (x_to true (codes "Lbllt") 1 ∷ []) ∷ []) (x_name ∷ x_name ∷ x_name ∷ [])

abbrev pub later : KorePattern
later = with_members (count_of less_one ∷ above x (codes "0") ∷ test (codes "Lblge") x (integer (codes "5")) ∷ [])

abbrev pub later_state : SymbolicState
later_state = state_with (counter (offset x_name (negsuc 0))) ((is_above true 0 ∷ []) ∷ (x_to true (codes "Lblge") 5 ∷ []) ∷ []) (x_name ∷ x_name ∷ x_name ∷ [])

-- ---- a variable's constructor

abbrev pub pick_of : KorePattern → KorePattern
pick_of p = call (codes "Lblpick") (p ∷ [])

abbrev pub picked : KorePattern
picked = with_members (pick_of (of_name p_name) ∷ is_pa ∷ [])

abbrev pub picked_state : SymbolicState
picked_state = state_with (known (constructed (codes "Lblpick") (next_value (constructed (codes "Lblpa") no_values) no_values))) (alone (pa_literal true)) (p_name ∷ p_name ∷ [])

abbrev pub picked_written : KorePattern
picked_written = with_members (pick_of (call (codes "Lblpa") []) ∷ is_pa ∷ [])

abbrev pub not_picked : KorePattern
not_picked = with_members (pick_of (of_name p_name) ∷ negation sort_s is_pa ∷ [])

abbrev pub not_picked_state : SymbolicState
not_picked_state = state_with (headed (codes "Lblpick") (one_term (unknown p_name))) (alone (pa_literal false)) (p_name ∷ p_name ∷ [])

-- ---- a variable that is a number

abbrev pub num_of : KorePattern → KorePattern
num_of p = call (codes "Lblnum") (p ∷ [])

abbrev pub q_is_fresh : KorePattern
q_is_fresh = equals sort_e sort_s (of_name q_name) (injected (of_name fresh_one))

abbrev pub numbered : KorePattern
numbered = with_members (num_of (of_name q_name) ∷ q_is_fresh ∷ [])

abbrev pub numbered_state : SymbolicState
numbered_state = state_with (headed (codes "Lblnum") (one_term (unknown fresh_one))) (alone q_fresh) (q_name ∷ q_name ∷ fresh_one ∷ [])

abbrev pub numbered_written : KorePattern
numbered_written = with_members (num_of (injected (of_name fresh_one)) ∷ q_is_fresh ∷ [])

-- ---- simplified states

abbrev pub folded_sum : KorePattern
folded_sum = three_less_one

abbrev pub folded_sum_state : SymbolicState
folded_sum_state = state_with (counter (offset x_name (pos 2))) [] (x_name ∷ [])

abbrev pub folded_sum_written : KorePattern
folded_sum_written = count_of (call (codes "Lbladd") (x ∷ integer (codes "2") ∷ []))

abbrev pub undecided_done : KorePattern
undecided_done = with_members (done ∷ square_predicate ∷ above x (codes "0") ∷ test (codes "Lbllt") x (integer (codes "1")) ∷ [])

abbrev pub undecided_done_state : SymbolicState
undecided_done_state = state_with (known (constructed (codes "Lbldone") no_values)) ((square_below ∷ []) ∷ (is_above true 0 ∷ []) ∷ (x_to true (codes "Lbllt") 1 ∷ []) ∷ []) (x_name ∷ x_name ∷ x_name ∷ x_name ∷ [])
