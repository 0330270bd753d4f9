-- A term of Kore as a symbolic term: inj is left out, closed calls are computed, and a sum of a variable and constants
-- is one variable and one constant.
-- Source: the K framework's Kore language (inj) and K's domains.md (INT); the normal form is this project's.
use Rattle.std.specs.Prelude.{◌≡◌, ⊤, ℤ, pos, neg_ℤ, ◌+ℤ◌, int_lt, Bool, true, false, ◌&&◌, ◌||◌, ◌==◌, nat_lt, List, [], ◌∷◌, Option, Some, None, if◌then◌else◌, is_some}
use Rattle.std.specs.Ordering.{int_eq}
use Rattle.kp_kore.specs.Syntax.{Text, KorePattern, KorePatterns, variable, application, literal, no_patterns, next_pattern, SymbolDeclaration}
use Rattle.kp_kore.specs.Hooks.{Arithmetic, addition, subtraction, multiplication, Hook, whole_arithmetic}
use Rattle.kp_kore.specs.Parts.{SortedName}
use Rattle.kp_kore.specs.Signature.{KoreSignature, SymbolMeaning, injection, construction, interpretation, foreign, meaning_of, is_number_sort}
use Rattle.kp_kore.specs.Value.{Value, whole, constructed, Values, no_values, next_value}
use Rattle.kp_kore.specs.Interpretation.{interpreted, no_meaning}
use Rattle.kp_kore.specs.Instance.{literal_value}
use Rattle.kp_kore.specs.Limits.{fits_number}
use Rattle.kp_kore.specs.Replies.{is_wide_value}
use Rattle.kp_symbolic.specs.Terms.{SymbolicTerm, unknown, offset, known, headed, SymbolicTerms, no_terms, next_term, Replaced, replacement_for}

-- ---- symbols by their hooks

-- the order of bytes
abbrev pub is_text_before : Text → Text → Bool
is_text_before [] [] = false
is_text_before [] (b ∷ y) = true
is_text_before (a ∷ x) [] = false
is_text_before (a ∷ x) (b ∷ y) = nat_lt a b || ((a == b) && is_text_before x y)

abbrev pub least_of : Text → Option Text → Text
least_of x (Some y) = if is_text_before y x then y else x
least_of x None = x

abbrev pub is_arithmetic : Arithmetic → SymbolMeaning → Bool
is_arithmetic addition (interpretation (whole_arithmetic addition)) = true
is_arithmetic subtraction (interpretation (whole_arithmetic subtraction)) = true
is_arithmetic multiplication (interpretation (whole_arithmetic multiplication)) = true
is_arithmetic _ _ = false

-- the least name among the symbols that compute this
abbrev pub least_symbol_among : KoreSignature → Arithmetic → List SymbolDeclaration → Option Text
least_symbol_among g a [] = None
least_symbol_among g a (d ∷ ds) = if is_arithmetic a (meaning_of g d.name) then Some (least_of d.name (least_symbol_among g a ds)) else least_symbol_among g a ds

abbrev pub least_symbol : KoreSignature → Arithmetic → Option Text
least_symbol g a = least_symbol_among g a g.symbols

-- ---- sums of a variable and a constant

pub record Sum : Type 0 where
  pub variable : SortedName
  pub constant : ℤ

-- the term as a variable of the whole-number sort, which has no other values, and a constant
abbrev pub sum_of : KoreSignature → SymbolicTerm → Option Sum
sum_of g (unknown x) = if is_number_sort g x.sort then Some (record { variable = x; constant = pos 0 }) else None
sum_of g (offset x c) = if is_number_sort g x.sort then Some (record { variable = x; constant = c }) else None
sum_of g _ = None

-- a positive constant is written as added, a negative one as its opposite subtracted: both need their symbol and room
abbrev pub can_be_added : KoreSignature → ℤ → Bool
can_be_added g c = if int_lt (pos 0) c then is_some (least_symbol g addition) && fits_number c else is_some (least_symbol g subtraction) && fits_number (neg_ℤ c)

-- the sum with a further constant, else the call as it was
abbrev pub summed : KoreSignature → Option Sum → ℤ → SymbolicTerm → SymbolicTerm
summed g (Some s) c call = at_constant s.variable (s.constant +ℤ c)
  where
    at_constant : SortedName → ℤ → SymbolicTerm
    at_constant x n = if int_eq n (pos 0) then unknown x else if can_be_added g n then offset x n else call
summed g None c call = call

abbrev pub summed_call : KoreSignature → Hook → SymbolicTerms → SymbolicTerm → SymbolicTerm
summed_call g (whole_arithmetic addition) (next_term t (next_term (known (whole c)) no_terms)) call = summed g (sum_of g t) c call
summed_call g (whole_arithmetic addition) (next_term (known (whole c)) (next_term t no_terms)) call = summed g (sum_of g t) c call
summed_call g (whole_arithmetic subtraction) (next_term t (next_term (known (whole c)) no_terms)) call = summed g (sum_of g t) (neg_ℤ c) call
summed_call g h ts call = call

-- ---- an application over folded arguments

abbrev pub with_first : Option Value → Option Values → Option Values
with_first (Some u) (Some us) = Some (next_value u us)
with_first o os = None

abbrev pub value_known : SymbolicTerm → Option Value
value_known (known u) = Some u
value_known _ = None

abbrev pub values_known : SymbolicTerms → Option Values
values_known no_terms = Some no_values
values_known (next_term t ts) = with_first (value_known t) (values_known ts)

abbrev pub only_term : SymbolicTerms → SymbolicTerm
only_term (next_term t no_terms) = t
only_term _ = known no_meaning

abbrev pub made_construction : Text → SymbolicTerms → Option Values → SymbolicTerm
made_construction f ts (Some us) = known (constructed f us)
made_construction f ts None = headed f ts

-- a closed call is computed where its value fits
abbrev pub made_call : KoreSignature → Hook → Text → SymbolicTerms → Option Values → SymbolicTerm
made_call g h f ts (Some us) = if is_wide_value (interpreted h us) then headed f ts else known (interpreted h us)
made_call g h f ts None = summed_call g h ts (headed f ts)

abbrev pub made : KoreSignature → SymbolMeaning → Text → SymbolicTerms → SymbolicTerm
made g injection f ts = only_term ts
made g construction f ts = made_construction f ts (values_known ts)
made g (interpretation h) f ts = made_call g h f ts (values_known ts)
made g foreign f ts = headed f ts

abbrev pub applied_term : KoreSignature → Text → SymbolicTerms → SymbolicTerm
applied_term g f ts = made g (meaning_of g f) f ts

-- ---- folding

-- a variable is the term in its place, if there is one
abbrev pub term_for : SortedName → Option SymbolicTerm → SymbolicTerm
term_for x (Some t) = t
term_for x None = unknown x

-- a term of Kore, with terms in the place of variables
abbrev mutual
  pub folded : KoreSignature → List Replaced → KorePattern → SymbolicTerm
  folded g rs (variable x s) = term_for (record { name = x; sort = s }) (replacement_for rs x)
  folded g rs (literal s text) = known (literal_value g s text)
  folded g rs (application f ss ps) = applied_term g f (all_folded g rs ps)
  folded g rs _ = known no_meaning

  pub all_folded : KoreSignature → List Replaced → KorePatterns → SymbolicTerms
  all_folded g rs no_patterns = no_terms
  all_folded g rs (next_pattern p ps) = next_term (folded g rs p) (all_folded g rs ps)

-- each sum in the term can be written
abbrev mutual
  pub AreWritten : KoreSignature → SymbolicTerm → Type 0
  AreWritten g (offset x c) = can_be_added g c ≡ true
  AreWritten g (headed f ts) = AreAllWritten g ts
  AreWritten g t = ⊤

  pub AreAllWritten : KoreSignature → SymbolicTerms → Type 0
  AreAllWritten g no_terms = ⊤
  AreAllWritten g (next_term t ts) = AreWritten g t × AreAllWritten g ts

-- ---- terms in the place of a symbolic term's variables

-- a term and a number under a symbol
abbrev pub under_symbol : KoreSignature → Option Text → SymbolicTerm → ℤ → SymbolicTerm → SymbolicTerm
under_symbol g (Some f) t n otherwise = applied_term g f (next_term t (next_term (known (whole n)) no_terms))
under_symbol g None t n otherwise = otherwise

-- the sum of a term and a constant, as it is written
abbrev pub added : KoreSignature → SymbolicTerm → ℤ → SymbolicTerm → SymbolicTerm
added g t c otherwise = if int_lt (pos 0) c then under_symbol g (least_symbol g addition) t c otherwise else under_symbol g (least_symbol g subtraction) t (neg_ℤ c) otherwise

abbrev mutual
  pub replaced : KoreSignature → List Replaced → SymbolicTerm → SymbolicTerm
  replaced g rs (unknown x) = term_for x (replacement_for rs x.name)
  replaced g rs (offset x c) = added g (term_for x (replacement_for rs x.name)) c (offset x c)
  replaced g rs (known u) = known u
  replaced g rs (headed f ts) = applied_term g f (all_replaced g rs ts)

  pub all_replaced : KoreSignature → List Replaced → SymbolicTerms → SymbolicTerms
  all_replaced g rs no_terms = no_terms
  all_replaced g rs (next_term t ts) = next_term (replaced g rs t) (all_replaced g rs ts)
