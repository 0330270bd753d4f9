-- Parts, narrowings and courses over the example definition.
use Rattle.std.specs.Prelude.{Bool, List, [], ◌∷◌, codes}
use Rattle.kp_kore.specs.Parts.{SortedName}
use Rattle.kp_kore.specs.Value.{Value, constructed, no_values}
use Rattle.kp_toys.specs.Toys.{sort_int, sort_s, sort_p}
use Rattle.kp_symbolic.specs.Terms.{SymbolicTerm, unknown, known, headed}
use Rattle.kp_symbolic.specs.States.{Literal}
use Rattle.kp_symbolic.specs.Solving.{Equation}
use Rattle.kp_examples.specs.Clauses.{x_name, p_name, one_term, alone, equality}
use Rattle.kp_rules.specs.Skeletons.{one_of, built, Forms, no_forms, next_form}
use Rattle.kp_case_laws.specs.Parts.{StatePart, whole, with_clauses}
use Rattle.kp_case_laws.specs.Courses.{FormPair, Equality}

-- pick(P)
abbrev pub picks : StatePart
picks = whole (record { term = headed (codes "Lblpick") (one_term (unknown p_name)); sort = sort_s; clauses = []; variables = p_name ∷ [] })

abbrev pub pa : Value
pa = constructed (codes "Lblpa") no_values

abbrev pub pb : Value
pb = constructed (codes "Lblpb") no_values

-- P is the value, or isn't
abbrev pub p_is : Bool → Value → List (List Literal)
p_is b u = alone (equality b sort_p (unknown p_name) (known u))

-- the part of pick(P) where P is the value, or isn't
abbrev pub picks_where : Bool → Value → StatePart
picks_where b u = with_clauses picks (p_is b u)

-- the equality of pa and pb
abbrev pub pa_pb : Equality
pa_pb = record { sort = sort_p; left = known pa; right = known pb }

-- ---- a variable that stands twice, against a constructor and a variable

abbrev pub s_name : SortedName
s_name = record { name = codes "S"; sort = sort_s }

-- count(N), M
abbrev pub counter_and_any : Forms
counter_and_any = next_form (built (codes "Lblcount") (next_form (one_of (codes "N") sort_int) no_forms)) (next_form (one_of (codes "M") sort_s) no_forms)

abbrev pub counter_of_x : SymbolicTerm
counter_of_x = headed (codes "Lblcount") (one_term (unknown x_name))

-- S is count(X)
abbrev pub s_counts : Equation
s_counts = record { variable = s_name; term = counter_of_x }

-- of both against S and S: the first pair is the last
abbrev pub pairs_of_s : List FormPair
pairs_of_s =
    record { form = one_of (codes "M") sort_s; term = unknown s_name } ∷
    record { form = built (codes "Lblcount") (next_form (one_of (codes "N") sort_int) no_forms); term = unknown s_name } ∷ []
