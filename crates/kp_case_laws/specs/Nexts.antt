-- The state after a rule, of a part on each of whose instances the rule fires.
-- Source: K's rewrite rules (right sides, ensured conditions, new variables); K's Haskell backend; this project.
use Rattle.std.specs.Prelude.{◌≡◌, ◌↔◌, ◌⊎◌, List, [], ◌∷◌, ◌++◌, true, Some, None}
use Rattle.std.specs.List.{AllByRecursion}
use Rattle.kp_kore.specs.Syntax.{Text}
use Rattle.kp_kore.specs.Parts.{SortedName, free_variables}
use Rattle.kp_kore.specs.Signature.{KoreSignature}
use Rattle.kp_kore.specs.Value.{Value}
use Rattle.kp_kore.specs.Instance.{Valuation, GivesSorts, is_named, instance, IsTrueUnder}
use Rattle.kp_kore.specs.Rules.{Rewrite}
use Rattle.kp_kore.specs.Scopes.{Extends}
use Rattle.kp_symbolic.specs.Terms.{SymbolicTerm, unknown, term_instance, term_variables, Replaced, replacement_for, under_replaced}
use Rattle.kp_symbolic.specs.States.{AreTrue, SymbolicState, IsStateInstance}
use Rattle.kp_symbolic.specs.WellFormed.{AreAtHand}
use Rattle.kp_case_laws.specs.Parts.{StatePart, AreNew}
use Rattle.kp_case_laws.specs.Narrowings.{sorts_of_names}

-- a variable of the state for each new variable of the rule
abbrev pub fresh_bindings : List SortedName → List SortedName → List Replaced
fresh_bindings (y ∷ ys) (z ∷ zs) = record { name = y.name; term = unknown z } ∷ fresh_bindings ys zs
fresh_bindings ys zs = []

-- these are the rule's new variables, each once; none is bound
pub record AreRulesNew (g : KoreSignature) (rule : Rewrite) (bindings : List Replaced) (ys : List SortedName) : Type 0 where
  pub named : (x : Text) → is_named x ys ≡ is_named x rule.new_variables
  pub sorts : (w : Valuation) → GivesSorts g w ys ↔ GivesSorts g w rule.new_variables
  pub once : AreNew [] ys
  pub unbound : AllByRecursion (λ y. replacement_for bindings y.name ≡ None) ys

-- each of these variables is bound, or new
abbrev pub AreBoundOrNew : List Replaced → List SortedName → List SortedName → Type 0
AreBoundOrNew bindings ys xs = AllByRecursion (λ x. ((t : SymbolicTerm) × (replacement_for bindings x.name ≡ Some t)) ⊎ (is_named x.name ys ≡ true)) xs

-- what the rule's variables stand for behind it
abbrev pub all_bindings : List Replaced → List SortedName → List SortedName → List Replaced
all_bindings bindings ys new = bindings ++ fresh_bindings ys new

-- the right term's state, with the clauses of the part and those of the ensured condition
pub record IsNextState (g : KoreSignature) (rule : Rewrite) (p : StatePart) (bindings : List Replaced) (ys new : List SortedName) (s : SymbolicState) : Type 0 where
  pub variables : s.variables ≡ p.state.variables ++ new
  pub term : (w : Valuation) → GivesSorts g w s.variables → term_instance g w s.term ≡ instance g (under_replaced g (all_bindings bindings ys new) w) rule.right
  pub clauses : (w : Valuation) → GivesSorts g w s.variables → AreTrue g w s.clauses ↔ (AreTrue g w p.state.clauses × AllByRecursion (IsTrueUnder g (under_replaced g (all_bindings bindings ys new) w)) rule.ensured)

-- the right side's variables are bound, by terms of variables at hand, or new, and stand for new variables of the same sorts
pub record IsInstantiated (g : KoreSignature) (rule : Rewrite) (p : StatePart) (bindings : List Replaced) (ys new : List SortedName) : Type 0 where
  pub rules_new : AreRulesNew g rule bindings ys
  pub at_hand : AllByRecursion (λ b. AreAtHand (term_variables b.term) p.state.variables) bindings
  pub right : AreBoundOrNew bindings ys (free_variables rule.right)
  pub ensured : AllByRecursion (λ q. AreBoundOrNew bindings ys (free_variables q)) rule.ensured
  pub are_new : AreNew p.state.variables new
  pub same_sorts : sorts_of_names new ≡ sorts_of_names ys

-- for some values of the new variables, the state has the instance
abbrev pub IsNextOver : KoreSignature → StatePart → SymbolicState → Valuation → Value → Type 0
IsNextOver g p s v next = (w : Valuation) × Extends g p.state.variables s.variables v w × IsStateInstance g w s next
