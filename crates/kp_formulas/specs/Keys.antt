-- A number made of a clause's literals, by which most clauses differ, and clauses told apart by their numbers first.
use Rattle.std.specs.Prelude.{ℕ, ◌+◌, ◌*◌, ◌%◌, ◌^◌, ◌==◌, ℤ, Bool, ◌&&◌, if◌then◌else◌, List, [], ◌∷◌, map}
use Rattle.std.specs.Int.{w128, cast_unsigned}
use Rattle.kp_kore.specs.Syntax.{Text}
use Rattle.kp_kore.specs.Value.{Value, whole, truth, token, constructed}
use Rattle.kp_symbolic.specs.Alike.{literals_same}
use Rattle.kp_symbolic.specs.Formulas.{clauses_same}
use Rattle.kp_symbolic.specs.States.{HeadTest, one_head, head_of_sort, Atom, same, has_head, quoted, Literal}
use Rattle.kp_symbolic.specs.Terms.{SymbolicTerm, unknown, offset, known, headed, SymbolicTerms, no_terms, next_term}
use Rattle.kp_symbolic.specs.View.{clause_view}
use Rattle.kp_formulas.specs.declared.keyed.Keyed.{Keyed}

-- a key with a further number: multiplied by an odd number first, so that what stands earlier is told, too
abbrev pub with_number : ℕ → ℕ → ℕ
with_number k n = ((k * 0x9e37_79b9_7f4a_7c15) % 2 ^ 128 + n) % 2 ^ 128

abbrev pub with_whole : ℕ → ℤ → ℕ
with_whole k n = with_number k (cast_unsigned w128 n)

abbrev pub with_text : ℕ → Text → ℕ
with_text k [] = k
with_text k (b ∷ bs) = with_text (with_number k b) bs

-- a key with the number, the token or the constructor that a value is
abbrev pub with_value : ℕ → Value → ℕ
with_value k (whole n) = with_whole k n
with_value k (truth b) = k
with_value k (token s x) = with_text k x
with_value k (constructed f us) = with_text k f

-- a key with what stands in an argument, not in its own arguments
abbrev pub with_argument : ℕ → SymbolicTerm → ℕ
with_argument k (unknown x) = with_text k x.name
with_argument k (offset x c) = with_whole (with_text k x.name) c
with_argument k (known u) = with_value k u
with_argument k (headed f ts) = k

abbrev pub with_arguments : ℕ → SymbolicTerms → ℕ
with_arguments k no_terms = k
with_arguments k (next_term t ts) = with_arguments (with_argument k t) ts

-- a key with what stands in a term, or in its arguments
abbrev pub with_term : ℕ → SymbolicTerm → ℕ
with_term k (unknown x) = with_argument k (unknown x)
with_term k (offset x c) = with_argument k (offset x c)
with_term k (known u) = with_argument k (known u)
with_term k (headed f ts) = with_arguments k ts

-- a key with the constructor whose head is asked for
abbrev pub with_test : ℕ → HeadTest → ℕ
with_test k (one_head f) = with_text k f
with_test k (head_of_sort s) = k

abbrev pub with_atom : ℕ → Atom → ℕ
with_atom k (same s t u) = with_term (with_term k t) u
with_atom k (has_head x test) = with_test (with_text k x.name) test
with_atom k (quoted p rs) = k

-- a key with what stands in a literal, and whether it is to be true
abbrev pub with_literal : ℕ → Literal → ℕ
with_literal k l = with_number (with_atom k l.atom) (if l.holds then 1 else 0)

abbrev pub with_literals : ℕ → List Literal → ℕ
with_literals k [] = k
with_literals k (l ∷ c) = with_literals (with_literal k l) c

-- a number made of a clause's literals
abbrev pub key_of : List Literal → ℕ
key_of c = with_literals 0 c

abbrev pub keys_same : ℕ → ℕ → Bool
keys_same m n = m == n

-- ---- clauses of the code with their keys

-- the clauses themselves
abbrev pub clauses_with : List Keyed → List (List Literal)
clauses_with ks = map (λ k. clause_view k.clause) ks

-- both have one key, and are the same clause
abbrev pub keyed_same : Keyed → Keyed → Bool
keyed_same k other = keys_same k.key other.key && clauses_same literals_same (clause_view k.clause) (clause_view other.clause)
