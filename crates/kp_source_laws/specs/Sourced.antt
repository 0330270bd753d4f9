-- Which terms and atoms are sourced in a state and in rules: what stands there, with what is told of variables in their places, and
-- what a rule's left side asks where it is laid on the state's term. All by form, and nothing else.
-- Source: narrowing; rules of the K framework (a left side and a condition); K's Haskell backend, which shows the predicates that it
-- can't decide.
use Rattle.std.specs.Prelude.{◌≡◌, ℕ, Bool, List, [], ◌∷◌, ◌++◌, true, Some}
use Rattle.std.specs.List.{AllByRecursion, Contains}
use Rattle.kp_kore.specs.Syntax.{KoreSort, conjunction}
use Rattle.kp_kore.specs.Parts.{SortedName}
use Rattle.kp_kore.specs.Signature.{KoreSignature}
use Rattle.kp_kore.specs.Instance.{is_named}
use Rattle.kp_kore.specs.Rules.{RuleBody, Rewrite, rewrite}
use Rattle.kp_kore.specs.Steps.{AnyByRecursion}
use Rattle.kp_symbolic.specs.Terms.{SymbolicTerm, unknown, Replaced}
use Rattle.kp_symbolic.specs.Formulas.{Formula}
use Rattle.kp_symbolic.specs.States.{Atom, same, quoted, Literal, clause_variables, SymbolicState}
use Rattle.kp_symbolic.specs.WellFormed.{AreAtHand}
use Rattle.kp_symbolic.specs.Folding.{replaced}
use Rattle.kp_symbolic.specs.Clauses.{is_too_large, opened_atom, denied}
use Rattle.kp_symbolic.specs.Writing.{written_clause, written_clauses}
use Rattle.kp_symbolic.specs.Solving.{Equation, equation_of_atom, replacement, opened_with, opened_clause}
use Rattle.kp_symbolic.specs.Sources.{facts_of, StandsIn}
use Rattle.kp_rules.specs.Skeletons.{Form}
use Rattle.kp_case_laws.specs.Parts.{StatePart}
use Rattle.kp_case_laws.specs.Cases.{AreBoundOnce}
use Rattle.kp_case_laws.specs.Courses.{Equality}
use Rattle.kp_unify.specs.Matched.{LiesOn, Matches, IsBindingAt, IsEqualityAt}
use Rattle.kp_unify.specs.Comes.{IsAskedTerm, TellsHead}
use Rattle.kp_step.specs.Comes.{IsFormOf}
use Rattle.kp_step.specs.Conditions.{condition_clauses}

-- ---- left sides

-- one of the rules has this left side
abbrev pub IsLeftOfSome : KoreSignature → (RuleBody → Type 0) → Form → Type 0
IsLeftOfSome g IsRule left = (body : RuleBody) × IsRule body × IsFormOf g body left

-- the left side is the term, with the bindings' terms in its variables' places, where the equalities are true; all of these have their
-- place there
pub record IsLaidOn (g : KoreSignature) (left : Form) (t : SymbolicTerm) (bindings : List Replaced) (equalities : List Equality) : Type 0 where
  pub matches : Matches g bindings equalities [] left t
  pub bound : AllByRecursion (IsBindingAt g left t) bindings
  pub once : AreBoundOnce bindings
  pub equal : AllByRecursion (IsEqualityAt g left t bindings) equalities

-- ---- terms and atoms

-- the atom, or its opposite, tells the equation: the one that is solved for, or its two sides as they stand
pub data TellsEquation (g : KoreSignature) : Atom → Equation → Type 0 where
  by_form : (holds : Bool) (a : Atom) (e : Equation) → equation_of_atom g holds a ≡ Some e → TellsEquation g a e
  as_it_is : (e : Equation) → TellsEquation g (same e.variable.sort (unknown e.variable) e.term) e

-- one of the formula's literals has this atom
abbrev pub HasFact : Formula Literal → Atom → Type 0
HasFact f a = AnyByRecursion (λ l. l.atom ≡ a) (facts_of f)

-- by rules of which IsRule holds, with these new variables
mutual
  -- the state's term, and what it becomes
  pub data IsSourcedTerm (g : KoreSignature) (IsRule : RuleBody → Type 0) (new : List SortedName) (s : SymbolicState) : SymbolicTerm → Type 0 where
    of_state : IsSourcedTerm g IsRule new s s.term
    -- with the term of a sourced equation in its variable's place
    put_into : (t : SymbolicTerm) (by : Atom) (e : Equation) → IsSourcedTerm g IsRule new s t → IsSourcedAtom g IsRule new s by → TellsEquation g by e →
        IsSourcedTerm g IsRule new s (replaced g (replacement e) t)

  pub data IsSourcedAtom (g : KoreSignature) (IsRule : RuleBody → Type 0) (new : List SortedName) (s : SymbolicState) : Atom → Type 0 where
    -- it stands in the state's clauses
    stands : (a : Atom) → StandsIn s.clauses a → IsSourcedAtom g IsRule new s a
    -- or in those of a rule's condition, with what the left side binds on the term in the place of the rule's variables
    of_condition : (m : Rewrite) (left : Form) (t : SymbolicTerm) (bindings : List Replaced) (equalities : List Equality) (a : Atom) → IsRule (rewrite m) → IsFormOf g (rewrite m) left →
        IsSourcedTerm g IsRule new s t → IsLaidOn g left t bindings equalities → StandsIn (condition_clauses g bindings m.condition) a → IsSourcedAtom g IsRule new s a
    -- by it a left side matches the term
    equated : (left : Form) (t : SymbolicTerm) (bindings : List Replaced) (equalities : List Equality) (e : Equality) → IsLeftOfSome g IsRule left → IsSourcedTerm g IsRule new s t →
        IsLaidOn g left t bindings equalities → Contains equalities e → IsSourcedAtom g IsRule new s (same e.sort e.left e.right)
    -- a variable of the term is what the part of a left side asks that lies on it: a new variable, or a constructor of new ones
    becomes : (left form : Form) (t : SymbolicTerm) (x : SortedName) (ys : List SortedName) (u : SymbolicTerm) → IsLeftOfSome g IsRule left → IsSourcedTerm g IsRule new s t →
        LiesOn g left t form (unknown x) → IsAskedTerm g form x ys u → AreAtHand ys new → IsSourcedAtom g IsRule new s (same x.sort (unknown x) u)
    -- the part tells of the variable's head
    has_told_head : (left form : Form) (t : SymbolicTerm) (x : SortedName) (clauses : List (List Literal)) (a : Atom) → IsLeftOfSome g IsRule left → IsSourcedTerm g IsRule new s t →
        LiesOn g left t form (unknown x) → TellsHead g form x clauses → StandsIn clauses a → IsSourcedAtom g IsRule new s a
    -- a sourced atom is opened into it, as that stands, or with the term of a sourced equation in its variable's place
    opened_from : (from a : Atom) (alone holds : Bool) → IsSourcedAtom g IsRule new s from → HasFact (opened_atom g alone holds from) a → IsSourcedAtom g IsRule new s a
    opened_by : (from by a : Atom) (e : Equation) (alone holds : Bool) → IsSourcedAtom g IsRule new s from → IsSourcedAtom g IsRule new s by → TellsEquation g by e →
        HasFact (opened_with g e alone holds from) a → IsSourcedAtom g IsRule new s a
    -- it is what is written for a clause of sourced ones that would open to too many literals, with such a term in a variable's place; or
    -- for clauses whose opposite would
    written_for : (sort : KoreSort) (c : List Literal) (by : Atom) (e : Equation) (n : ℕ) → is_named e.variable.name (clause_variables c) ≡ true → is_too_large n (opened_clause g e c) ≡ true →
        ((a : Atom) → StandsIn (c ∷ []) a → IsSourcedAtom g IsRule new s a) → IsSourcedAtom g IsRule new s by → TellsEquation g by e →
        IsSourcedAtom g IsRule new s (quoted (written_clause g sort c) (replacement e))
    written_for_all : (sort : KoreSort) (cs : List (List Literal)) → is_too_large 0 (denied g cs) ≡ true → ((a : Atom) → StandsIn cs a → IsSourcedAtom g IsRule new s a) →
        IsSourcedAtom g IsRule new s (quoted (conjunction sort (written_clauses g sort cs)) [])

-- ---- clauses and parts

-- the atom of each literal is sourced
abbrev pub AreSourcedClauses : KoreSignature → (RuleBody → Type 0) → List SortedName → SymbolicState → List (List Literal) → Type 0
AreSourcedClauses g IsRule new s = AllByRecursion (AllByRecursion (λ l. IsSourcedAtom g IsRule new s l.atom))

-- the part's term, its clauses and what was added are sourced in the state
pub record IsAllSourced (g : KoreSignature) (IsRule : RuleBody → Type 0) (new : List SortedName) (s : SymbolicState) (q : StatePart) : Type 0 where
  pub term : IsSourcedTerm g IsRule new s q.state.term
  pub clauses : AreSourcedClauses g IsRule new s q.state.clauses
  pub added : AreSourcedClauses g IsRule new s q.added

-- the new variables are those that stand behind the state's
abbrev pub OfNew : SymbolicState → List SortedName → (List SortedName → Type 0) → Type 0
OfNew s variables P = (new : List SortedName) × (variables ≡ s.variables ++ new) × P new
