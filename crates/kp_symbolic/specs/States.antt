-- Literals, clauses and symbolic states: a term, clauses that restrict it, and the variables at hand.
-- Source: matching logic's predicates; the K Haskell backend's constrained terms.
use Rattle.std.specs.Prelude.{◌≡◌, ◌↔◌, Bool, List, [], ◌∷◌, ◌++◌, Option, Some, None, MatchBool}
use Rattle.std.specs.List.{AllByRecursion, flat_map}
use Rattle.kp_kore.specs.Syntax.{Text, KoreSort, KorePattern}
use Rattle.kp_kore.specs.Parts.{SortedName, free_variables}
use Rattle.kp_kore.specs.Signature.{KoreSignature, Head, constructor_of, IsHeadOf}
use Rattle.kp_kore.specs.Value.{Value, head_of}
use Rattle.kp_kore.specs.Instance.{Valuation, GivesSorts, IsInstance, IsTrueUnder}
use Rattle.kp_symbolic.specs.Formulas.{NotAllFalse}
use Rattle.kp_symbolic.specs.Terms.{SymbolicTerm, term_instance, term_variables, Replaced, replacement_for, under_replaced}

-- ---- literals

-- which heads are asked for: a constructor's own, or any of a sort's
pub data HeadTest : Type 0 where
  one_head : Text → HeadTest
  head_of_sort : KoreSort → HeadTest

abbrev pub PassesHead : KoreSignature → HeadTest → Head → Type 0
PassesHead g (one_head c) h = h ≡ constructor_of c
PassesHead g (head_of_sort s) h = IsHeadOf g s h

pub data Atom : Type 0 where
  -- equality at a sort; a Boolean expression is one with true
  same : KoreSort → SymbolicTerm → SymbolicTerm → Atom
  -- the head of a variable of several heads
  has_head : SortedName → HeadTest → Atom
  -- a predicate that isn't opened, with terms in the place of free variables
  quoted : KorePattern → List Replaced → Atom

abbrev pub IsAtomTrue : KoreSignature → Valuation → Atom → Type 0
IsAtomTrue g v (same s t u) = term_instance g v t ≡ term_instance g v u
IsAtomTrue g v (has_head x test) = ¬ ¬ PassesHead g test (head_of (v x.name))
IsAtomTrue g v (quoted p rs) = IsTrueUnder g (under_replaced g rs v) p

-- an atom that is to be true, or false
pub record Literal : Type 0 where
  pub holds : Bool
  pub atom : Atom

abbrev pub IsLiteralTrue : KoreSignature → Valuation → Literal → Type 0
IsLiteralTrue g v l = MatchBool l.holds (IsAtomTrue g v l.atom) (¬ IsAtomTrue g v l.atom)

-- ---- clauses

-- a clause is true where not all of its literals are false
abbrev pub IsClauseTrue : KoreSignature → Valuation → List Literal → Type 0
IsClauseTrue g v c = NotAllFalse (IsLiteralTrue g v) c

abbrev pub AreTrue : KoreSignature → Valuation → List (List Literal) → Type 0
AreTrue g v cs = AllByRecursion (IsClauseTrue g v) cs

-- some values of the variables at hand make the clauses true
pub record CanBeTrue (g : KoreSignature) (variables : List SortedName) (clauses : List (List Literal)) : Type 0 where
  pub valuation : Valuation
  pub sorts : GivesSorts g valuation variables
  pub are_true : AreTrue g valuation clauses

-- the variables, one for each place where one stands; a quoted predicate has those that its free variables stand for
abbrev pub variables_for : SortedName → Option SymbolicTerm → List SortedName
variables_for x (Some t) = term_variables t
variables_for x None = x ∷ []

-- the variables that these variables stand for have values of their sorts
abbrev pub AreGiven : KoreSignature → List Replaced → Valuation → List SortedName → Type 0
AreGiven g rs v = AllByRecursion (λ x. GivesSorts g v (variables_for x (replacement_for rs x.name)))

abbrev pub atom_variables : Atom → List SortedName
atom_variables (same s t u) = term_variables t ++ term_variables u
atom_variables (has_head x test) = x ∷ []
atom_variables (quoted p rs) = flat_map (λ x. variables_for x (replacement_for rs x.name)) (free_variables p)

abbrev pub clause_variables : List Literal → List SortedName
clause_variables c = flat_map (λ l. atom_variables l.atom) c

-- ---- states

-- the sort is that of the term's place; the variables are those of what was read, also where none stands any more
pub record SymbolicState : Type 0 where
  pub term : SymbolicTerm
  pub sort : KoreSort
  pub clauses : List (List Literal)
  pub variables : List SortedName

-- the term's instance, where the clauses are true
pub record IsStateInstance (g : KoreSignature) (v : Valuation) (s : SymbolicState) (u : Value) : Type 0 where
  pub term : u ≡ term_instance g v s.term
  pub clauses : AreTrue g v s.clauses

-- the state has the pattern's instances, whatever the pattern's variables stand for
pub record HasInstancesOf (g : KoreSignature) (p : KorePattern) (s : SymbolicState) : Type 0 where
  pub variables : s.variables ≡ free_variables p
  pub instances : (v : Valuation) (u : Value) → GivesSorts g v (free_variables p) → IsInstance g v p u ↔ IsStateInstance g v s u
