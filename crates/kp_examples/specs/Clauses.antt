-- Predicates and states over the example definition, what they are read as and what is written for them.
use Rattle.std.specs.Prelude.{ℕ, zero, suc, pos, Bool, true, List, [], ◌∷◌, ◌++◌, codes}
use Rattle.kp_kore.specs.Syntax.{Text, KoreSort, KorePattern, variable, literal, conjunction, disjunction, equivalence, exists, forall, floor, equals, KoreSentence, symbol_sentence}
use Rattle.kp_kore.specs.Parts.{SortedName}
use Rattle.kp_kore.specs.Signature.{KoreSignature, signature_of}
use Rattle.kp_kore.specs.Value.{whole, truth}
use Rattle.kp_toys.specs.Toys.{sorts, patterns, sort_int, sort_bool, sort_s, sort_p, sort_e, call, mark, marked, integer, always, injected, basic, toys_sentences}
use Rattle.kp_toys.specs.ToysTheory.{count_of}
use Rattle.kp_symbolic.specs.Terms.{SymbolicTerm, unknown, known, headed, SymbolicTerms, no_terms, next_term}
use Rattle.kp_symbolic.specs.States.{head_of_sort, Atom, same, has_head, Literal, SymbolicState}

-- ---- short forms

abbrev pub number_named : Text → SortedName
number_named x = record { name = x; sort = sort_int }

abbrev pub x_name : SortedName
x_name = number_named (codes "X")

abbrev pub y_name : SortedName
y_name = number_named (codes "Y")

abbrev pub p_name : SortedName
p_name = record { name = codes "P"; sort = sort_p }

abbrev pub q_name : SortedName
q_name = record { name = codes "Q"; sort = sort_e }

abbrev pub of_name : SortedName → KorePattern
of_name x = variable x.name x.sort

abbrev pub x : KorePattern
x = of_name x_name

abbrev pub y : KorePattern
y = of_name y_name

-- \\equals{SortBool{}, SortS{}}(f{}(p, q), true)
abbrev pub test : Text → KorePattern → KorePattern → KorePattern
test f p q = equals sort_bool sort_s (call f (p ∷ q ∷ [])) always

abbrev pub above : KorePattern → Text → KorePattern
above p c = test (codes "Lblgt") p (integer c)

abbrev pub one_term : SymbolicTerm → SymbolicTerms
one_term t = next_term t no_terms

abbrev pub two_terms : SymbolicTerm → SymbolicTerm → SymbolicTerms
two_terms t u = next_term t (one_term u)

-- the literal of a comparison, and its opposite
abbrev pub comparison : Bool → Text → SymbolicTerm → SymbolicTerm → Literal
comparison b f t u = record { holds = b; atom = same sort_bool (headed f (two_terms t u)) (known (truth true)) }

abbrev pub alone : Literal → List (List Literal)
alone l = (l ∷ []) ∷ []

abbrev pub equality : Bool → KoreSort → SymbolicTerm → SymbolicTerm → Literal
equality b s t u = record { holds = b; atom = same s t u }

-- ---- terms

-- count(X + 3 - 1), count(X - 1)
abbrev pub three_less_one : KorePattern
three_less_one = count_of (call (codes "Lblsub") (call (codes "Lbladd") (x ∷ integer (codes "3") ∷ []) ∷ integer (codes "1") ∷ []))

abbrev pub less_one : KorePattern
less_one = call (codes "Lblsub") (x ∷ integer (codes "1") ∷ [])

-- ---- predicates

-- X * X < 0
abbrev pub square : KorePattern
square = call (codes "Lblmul") (x ∷ x ∷ [])

abbrev pub square_term : SymbolicTerm
square_term = headed (codes "Lblmul") (two_terms (unknown x_name) (unknown x_name))

-- P = pa
abbrev pub is_pa : KorePattern
is_pa = equals sort_p sort_s (of_name p_name) (call (codes "Lblpa") [])

-- Q is a whole number: for some Fresh1 it is inj{SortInt{},SortE{}}(Fresh1)
abbrev pub is_number : KorePattern
is_number = exists sort_s (codes "Fresh1") sort_int (equals sort_e sort_s (of_name q_name) (injected (variable (codes "Fresh1") sort_int)))

abbrev pub number_test : Bool → Literal
number_test b = record { holds = b; atom = has_head q_name (head_of_sort sort_int) }

-- \\iff of \\iff of X > 0 and X > 1, and X > 2
abbrev pub nested_iff : KorePattern
nested_iff = equivalence sort_s (equivalence sort_s (above x (codes "0")) (above x (codes "1"))) (above x (codes "2"))

abbrev pub is_above : Bool → ℕ → Literal
is_above b n = comparison b (codes "Lblgt") (unknown x_name) (known (whole (pos n)))

abbrev pub y_above : Bool → ℕ → Literal
y_above b n = comparison b (codes "Lblgt") (unknown y_name) (known (whole (pos n)))

-- \\forall Y. Y > 0, and \\floor of X
abbrev pub all_above : KorePattern
all_above = forall sort_s (codes "Y") sort_int (above y (codes "0"))

abbrev pub only_x : KorePattern
only_x = floor sort_int sort_s x

-- X > 0 and Y > 0, so many times under \\or
abbrev pub both_above : KorePattern
both_above = conjunction sort_s (patterns (above x (codes "0") ∷ above y (codes "0") ∷ []))

abbrev pub repeated : ℕ → List KorePattern
repeated zero = []
repeated (suc n) = both_above ∷ repeated n

abbrev pub many_choices : ℕ → KorePattern
many_choices n = disjunction sort_s (patterns (repeated n))

-- ---- states

-- X = Y leaves Y, as X is the least by name; the other way round it is the same
abbrev pub same_count : KorePattern
same_count = conjunction sort_s (patterns (count_of x ∷ equals sort_int sort_s y x ∷ above x (codes "0") ∷ []))

abbrev pub solved_count : Atom → SymbolicState
solved_count a = record {
  term = headed (codes "Lblcount") (one_term (unknown y_name));
  sort = sort_s;
  clauses = (record { holds = true; atom = a } ∷ []) ∷ (y_above true 0 ∷ []) ∷ [];
  variables = x_name ∷ y_name ∷ x_name ∷ x_name ∷ [];
}

-- ---- Boolean expressions and equality of values

abbrev pub logical_function : Text → List KoreSort → Text → KoreSentence
logical_function name arguments hook = symbol_sentence (record { hooked = true; name = name; parameters = []; arguments = sorts arguments; result = sort_bool; attributes = patterns (marked (codes "hook") hook ∷ mark (codes "function") ∷ []) })

-- the example's signature with Boolean functions, equality of SortS{}, and difference of numbers
abbrev pub logical_signature : KoreSignature
logical_signature = signature_of (basic.sentences ++ toys_sentences ++
    logical_function (codes "Lbland") (sort_bool ∷ sort_bool ∷ []) (codes "BOOL.and") ∷
    logical_function (codes "Lblnot") (sort_bool ∷ []) (codes "BOOL.not") ∷
    logical_function (codes "Lbliff") (sort_bool ∷ sort_bool ∷ []) (codes "BOOL.eq") ∷
    logical_function (codes "Lblsame") (sort_s ∷ sort_s ∷ []) (codes "KEQUAL.eq") ∷
    logical_function (codes "Lblne") (sort_int ∷ sort_int ∷ []) (codes "INT.ne") ∷ [])

abbrev pub b_name : SortedName
b_name = record { name = codes "B"; sort = sort_bool }

abbrev pub c_name : SortedName
c_name = record { name = codes "C"; sort = sort_bool }

abbrev pub true_if : KorePattern → KorePattern
true_if p = equals sort_bool sort_s p always

abbrev pub never : KorePattern
never = literal sort_bool (codes "false")

-- the Boolean variable is true, or is false
abbrev pub is_b : Bool → Literal
is_b b = equality b sort_bool (unknown b_name) (known (truth true))

abbrev pub is_c : Bool → Literal
is_c b = equality b sort_bool (unknown c_name) (known (truth true))

abbrev pub gt_zero : KorePattern
gt_zero = call (codes "Lblgt") (x ∷ integer (codes "0") ∷ [])

abbrev pub gt_zero_term : SymbolicTerm
gt_zero_term = headed (codes "Lblgt") (two_terms (unknown x_name) (known (whole (pos 0))))
