-- What it is that goals say exactly that a part's instance is one of the consequent's body, and of which parts and consequents they do.
-- Source: this project.
use Rattle.std.specs.Prelude.{◌≡◌, ◌↔◌, true, false, List, ◌++◌, Some, None}
use Rattle.std.specs.List.{AllByRecursion}
use Rattle.kp_kore.specs.Syntax.{KorePattern}
use Rattle.kp_kore.specs.Parts.{SortedName, free_variables}
use Rattle.kp_kore.specs.Signature.{KoreSignature}
use Rattle.kp_kore.specs.Value.{Value}
use Rattle.kp_kore.specs.Instance.{Valuation, GivesSorts, AgreesOn, is_named, is_predicate, IsInstance}
use Rattle.kp_kore.specs.Foreign.{none_within, has_foreign_head}
use Rattle.kp_kore.specs.Rules.{top_binders, under_binders}
use Rattle.kp_kore.specs.Implied.{Chooses}
use Rattle.kp_signature.specs.Places.{Place, own_sort}
use Rattle.kp_signature.specs.Verify.{first_fault}
use Rattle.kp_symbolic.specs.Terms.{Replaced, term_instance}
use Rattle.kp_symbolic.specs.States.{Literal, IsClauseTrue, AreTrue, SymbolicState, IsStateInstance}
use Rattle.kp_symbolic.specs.WellFormed.{AreAtHand}
use Rattle.kp_symbolic_laws.specs.Runs.{HasOneSortEach, IsSortedLiteral}
use Rattle.kp_symbolic_laws.specs.Safe.{Formed, IsSoundQuote, IsSafe}
use Rattle.kp_case_laws.specs.Parts.{StatePart}
use Rattle.kp_goals.specs.Consequents.{Consequent, IsConsequent}

-- each variable stands for its term's instance
abbrev pub ArePut : KoreSignature → Valuation → List Replaced → Type 0
ArePut g x put = AllByRecursion (λ r. x r.name ≡ term_instance g x r.term) put

-- The variables at hand and the bound ones having values of their sorts, an instance of the state that is one of the body makes the bound
-- variables what is put for them; where they are that, it is one of the body exactly where the goals are true.
pub record IsExact (g : KoreSignature) (c : KorePattern) (s : SymbolicState) (put : List Replaced) (goals : List (List Literal)) : Type 0 where
  pub gives : (x : Valuation) (u : Value) → GivesSorts g x (s.variables ++ top_binders c) → IsStateInstance g x s u → IsInstance g x (under_binders c) u → ArePut g x put
  pub says : (x : Valuation) (u : Value) → GivesSorts g x (s.variables ++ top_binders c) → IsStateInstance g x s u → ArePut g x put → AreTrue g x goals ↔ IsInstance g x (under_binders c) u

-- no bound variable has the name of one at hand
abbrev pub AreClear : KorePattern → List SortedName → Type 0
AreClear c hand = AllByRecursion (λ y. is_named y.name (top_binders c) ≡ false) hand

-- whether the clause is true depends on the variables at hand alone
abbrev pub ClauseDepends : KoreSignature → List SortedName → List Literal → Type 0
ClauseDepends g hand c = (v w : Valuation) → AgreesOn hand v w → IsClauseTrue g v c → IsClauseTrue g w c

-- for all values of the variables at hand there are such of the bound ones
abbrev pub CanBePut : KoreSignature → KorePattern → SymbolicState → List Replaced → Type 0
CanBePut g c s put = (w : Valuation) → GivesSorts g w s.variables → (x : Valuation) × Chooses g c w x × ArePut g x put

-- some values of the bound variables, the others as w gives them, make it an instance of the consequent's body
abbrev pub HasBody : KoreSignature → KorePattern → Valuation → Value → Type 0
HasBody g c w u = (x : Valuation) × Chooses g c w x × IsInstance g x (under_binders c) u

-- ---- which goals are exact

-- each literal has the sorts of its places, is of these variables and in normal form
abbrev pub IsRightClause : KoreSignature → List SortedName → List Literal → Type 0
IsRightClause g hand = AllByRecursion (λ l. IsSortedLiteral g hand l × Formed g (IsSoundQuote g) l)

-- the part's variables and the bound ones
abbrev pub all_variables : StatePart → KorePattern → List SortedName
all_variables p c = p.state.variables ++ top_binders c

-- no verify fault and no foreign symbol, of these variables
pub record IsVerifiedOf (g : KoreSignature) (hand : List SortedName) (q : KorePattern) : Type 0 where
  pub place : Place
  pub verified : first_fault g place q ≡ None
  pub known : none_within (has_foreign_head g) q ≡ true
  pub at_hand : AreAtHand (free_variables q) hand

abbrev pub IsPredicateOf : KoreSignature → List SortedName → KorePattern → Type 0
IsPredicateOf g hand q = (is_predicate q ≡ true) × IsVerifiedOf g hand q

-- The consequent's term has the sort of the part's; the part and the consequent are verified, of variables at hand and bound ones, a sort
-- for each name.
pub record AreMatched (g : KoreSignature) (c : KorePattern) (k : Consequent) (p : StatePart) : Type 0 where
  pub consequent : IsConsequent g c k
  pub part : IsSafe g p.state
  pub one_sort_each : HasOneSortEach (all_variables p c)
  pub term : IsVerifiedOf g (all_variables p c) consequent.pattern
  pub sort : own_sort g consequent.pattern ≡ Some p.state.sort
  pub predicates : AllByRecursion (IsPredicateOf g (all_variables p c)) k.predicates
