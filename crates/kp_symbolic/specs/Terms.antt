-- Symbolic terms: terms with variables, in which inj is seen through and what has no variables and no calls is its value.
-- Source: matching logic's terms, as K writes them; the normal form is this project's.
use Rattle.std.specs.Prelude.{ℤ, List, [], ◌∷◌, ◌++◌, Option, Some, None, if◌then◌else◌}
use Rattle.std.specs.Str.{bytes_eq}
use Rattle.kp_kore.specs.Syntax.{Text}
use Rattle.kp_kore.specs.Hooks.{whole_arithmetic, addition}
use Rattle.kp_kore.specs.Parts.{SortedName}
use Rattle.kp_kore.specs.Signature.{KoreSignature, meaning_of}
use Rattle.kp_kore.specs.Value.{Value, whole, Values, no_values, next_value}
use Rattle.kp_kore.specs.Forms.{two}
use Rattle.kp_kore.specs.Interpretation.{interpreted}
use Rattle.kp_kore.specs.Instance.{Valuation, applied}

mutual
  pub data SymbolicTerm : Type 0 where
    unknown : SortedName → SymbolicTerm
    -- the sum of a whole-number variable and a constant other than 0
    offset : SortedName → ℤ → SymbolicTerm
    -- a term without variables and calls is its value
    known : Value → SymbolicTerm
    -- a constructor not all of whose arguments are known, or an interpreted symbol
    headed : Text → SymbolicTerms → SymbolicTerm

  pub data SymbolicTerms : Type 0 where
    no_terms : SymbolicTerms
    next_term : SymbolicTerm → SymbolicTerms → SymbolicTerms

-- the instance under a valuation
abbrev mutual
  pub term_instance : KoreSignature → Valuation → SymbolicTerm → Value
  term_instance g v (unknown x) = v x.name
  term_instance g v (offset x c) = interpreted (whole_arithmetic addition) (two (v x.name) (whole c))
  term_instance g v (known u) = u
  term_instance g v (headed f ts) = applied (meaning_of g f) f (term_instances g v ts)

  pub term_instances : KoreSignature → Valuation → SymbolicTerms → Values
  term_instances g v no_terms = no_values
  term_instances g v (next_term t ts) = next_value (term_instance g v t) (term_instances g v ts)

-- the variables, one for each place where one stands
abbrev mutual
  pub term_variables : SymbolicTerm → List SortedName
  term_variables (unknown x) = x ∷ []
  term_variables (offset x c) = x ∷ []
  term_variables (known u) = []
  term_variables (headed f ts) = all_term_variables ts

  pub all_term_variables : SymbolicTerms → List SortedName
  all_term_variables no_terms = []
  all_term_variables (next_term t ts) = term_variables t ++ all_term_variables ts

-- ---- terms in the place of variables

-- a variable's name, and the term that stands for it
pub record Replaced : Type 0 where
  pub name : Text
  pub term : SymbolicTerm

abbrev pub replacement_for : List Replaced → Text → Option SymbolicTerm
replacement_for [] x = None
replacement_for (r ∷ rs) x = if bytes_eq r.name x then Some r.term else replacement_for rs x

-- the valuation under which a replaced variable stands for its term's instance
abbrev pub under_replaced : KoreSignature → List Replaced → Valuation → Valuation
under_replaced g rs v = λ y. of_term y (replacement_for rs y)
  where
    of_term : Text → Option SymbolicTerm → Value
    of_term y (Some t) = term_instance g v t
    of_term y None = v y
