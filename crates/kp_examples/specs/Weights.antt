-- States over the example definition, of which the laws tell what is plain and how much it weighs.
use Rattle.std.specs.Prelude.{ℕ, ℤ, pos, Bool, true, map, List, [], ◌∷◌, Option, Some, None, codes}
use Rattle.std.specs.Fmt.{decimal}
use Rattle.kp_kore.specs.Syntax.{Text, KorePattern, conjunction}
use Rattle.kp_kore.specs.Value.{whole, constructed, no_values}
use Rattle.kp_toys.specs.Toys.{sort_s, sort_p, sort_e, patterns, integer}
use Rattle.kp_toys.specs.ToysTheory.{toys_signature, done}
use Rattle.kp_kore.specs.Parts.{SortedName}
use Rattle.kp_symbolic.specs.Terms.{SymbolicTerm, unknown, known, headed, Replaced}
use Rattle.kp_symbolic.specs.States.{Literal, SymbolicState}
use Rattle.kp_symbolic.specs.Plain.{WholePart, Form, ReadLiteral, read_clauses}
use Rattle.kp_symbolic.specs.Sources.{apart, SymbolicRule}
use Rattle.kp_symbolic.specs.Shown.{Situation}
use Rattle.kp_examples.specs.Clauses.{number_named, two_terms, alone, test, square, x, x_name, y_name, p_name, q_name, one_term, comparison, equality, square_term}

-- what the literals of the clauses say, beside the term f(t)
abbrev pub state_of : Text → SymbolicTerm → List (List Literal) → SymbolicState
state_of f t cs = record { term = headed f (one_term t); sort = sort_s; clauses = cs; variables = x_name ∷ y_name ∷ p_name ∷ q_name ∷ [] }

abbrev pub count_with : List (List Literal) → SymbolicState
count_with cs = state_of (codes "Lblcount") (unknown x_name) cs

abbrev pub forms_of : SymbolicState → List (List (Option Form))
forms_of s = map (λ c. map (λ l. l.form) c) (read_clauses toys_signature s)

abbrev pub read : SymbolicState → List (List ReadLiteral)
read s = read_clauses toys_signature s

-- ---- sides

abbrev pub number : ℤ → WholePart
number n = record { variable = None; constant = n }

abbrev pub of_x : ℤ → WholePart
of_x n = record { variable = Some (codes "X"); constant = n }

abbrev pub of_y : ℤ → WholePart
of_y n = record { variable = Some (codes "Y"); constant = n }

-- ---- literals

abbrev pub x_to : Bool → Text → ℕ → Literal
x_to b f n = comparison b f (unknown x_name) (known (whole (pos n)))

-- X is zero, or isn't
abbrev pub is_zero : Bool → Literal
is_zero b = x_to b (codes "Lbleq") 0

-- X * X < 0
abbrev pub square_below : Literal
square_below = comparison true (codes "Lbllt") square_term (known (whole (pos 0)))

-- P = pa, or isn't; Q = Fresh1
abbrev pub pa_literal : Bool → Literal
pa_literal b = equality b sort_p (unknown p_name) (known (constructed (codes "Lblpa") no_values))

abbrev pub fresh_one : SortedName
fresh_one = number_named (codes "Fresh1")

abbrev pub q_fresh : Literal
q_fresh = equality true sort_e (unknown q_name) (unknown fresh_one)

-- Y > X, Y = X - 1
abbrev pub y_over_x : Literal
y_over_x = comparison true (codes "Lblgt") (unknown y_name) (unknown x_name)

-- X <= 2 ^ 126
abbrev pub wide_bound : Literal
wide_bound = x_to true (codes "Lblle") 85070591730234615865843651857942052864

-- ---- sq(X) beside its rule, from sq(N) where N * N < 0 to done

abbrev pub rule_name : SortedName
rule_name = apart 1 (number_named (codes "N"))

abbrev pub squared_below : SymbolicTerm → Literal
squared_below t = comparison true (codes "Lbllt") (headed (codes "Lblmul") (two_terms t t)) (known (whole (pos 0)))

-- 0 > X * X says the same
abbrev pub below_turned : Literal
below_turned = comparison true (codes "Lblgt") (known (whole (pos 0))) square_term

abbrev pub sq_state : SymbolicState
sq_state = state_of (codes "Lblsq") (unknown x_name) []

abbrev pub sq_beside : SymbolicRule
sq_beside = record {
  left = headed (codes "Lblsq") (one_term (unknown rule_name));
  clauses = alone (squared_below (unknown rule_name));
  ensured = [];
  right = Some (known (constructed (codes "Lbldone") no_values));
  variables = rule_name ∷ [];
}

-- X in the place of N
abbrev pub sq_put : List Replaced
sq_put = record { name = rule_name.name; term = unknown x_name } ∷ []

abbrev pub sq_situation : Situation
sq_situation = record { hand = []; state = sq_state; rules = sq_beside ∷ []; put = sq_put; not_given = []; lefts = [] }

-- ---- states that simplify leaves undecided

abbrev pub square_predicate : KorePattern
square_predicate = test (codes "Lbllt") square (integer (codes "0"))

abbrev pub done_where : KorePattern → KorePattern
done_where p = conjunction sort_s (patterns (done ∷ p ∷ []))

abbrev pub wide_predicate : KorePattern
wide_predicate = test (codes "Lblle") x (integer (codes "85070591730234615865843651857942052864"))

-- it, as it is written
abbrev pub wide_shown : KorePattern
wide_shown = test (codes "Lblle") x (integer (decimal 85070591730234615865843651857942052864))
