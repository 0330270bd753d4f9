-- How the state behind a rule is made.
-- Source: K's rewrite rules (new variables, \exists on the right).
use Rattle.std.specs.Prelude.{◌≡◌, ◌⊎◌, ℕ, List, [], ◌∷◌, ◌++◌, is_some, true, MatchBool, if◌then◌else◌}
use Rattle.std.specs.List.{AllByRecursion}
use Rattle.kp_kore.specs.Syntax.{Text, KoreSort, KorePattern}
use Rattle.kp_kore.specs.Parts.{SortedName, free_variables}
use Rattle.kp_kore.specs.Signature.{KoreSignature, is_below}
use Rattle.kp_kore.specs.Instance.{is_named}
use Rattle.kp_kore.specs.Rules.{Rewrite}
use Rattle.kp_symbolic.specs.Terms.{Replaced, unknown, replacement_for}
use Rattle.kp_symbolic.specs.States.{SymbolicState}
use Rattle.kp_symbolic.specs.Folding.{folded}
use Rattle.kp_symbolic_laws.specs.Runs.{HasOneSortEach}
use Rattle.kp_case_laws.specs.Parts.{StatePart}
use Rattle.kp_unify.specs.Names.{IsNextName}

-- variables of the rule with what stands for them, the new variables, and the number of the next name
pub record ChosenNew : Type 0 where
  pub bindings : List Replaced
  pub new : List SortedName
  pub next : ℕ

-- a new variable of the sort, with the next name, stands for the rule's
pub record IsChosenNext (used : List Text) (y : SortedName) (before after : ChosenNew) : Type 0 where
  pub name : Text
  pub named : IsNextName used before.next name after.next
  pub bindings : after.bindings ≡ before.bindings ++ record { name = y.name; term = unknown (record { name = name; sort = y.sort }) } ∷ []
  pub new : after.new ≡ before.new ++ record { name = name; sort = y.sort } ∷ []

-- one that is chosen already stays
abbrev pub IsChosenOne : List Text → SortedName → ChosenNew → ChosenNew → Type 0
IsChosenOne used y before after = MatchBool (is_some (replacement_for before.bindings y.name)) (after ≡ before) (IsChosenNext used y before after)

-- one after the other
abbrev pub AreChosenFrom : List Text → List SortedName → ChosenNew → ChosenNew → Type 0
AreChosenFrom used [] before after = after ≡ before
AreChosenFrom used (y ∷ ys) before after = (between : ChosenNew) × IsChosenOne used y before between × AreChosenFrom used ys between after

abbrev pub AreChosen : List Text → List SortedName → ℕ → ChosenNew → Type 0
AreChosen used ys next after = AreChosenFrom used ys (record { bindings = []; new = []; next = next }) after

-- each of these variables is named among the one or the other
abbrev pub AreNamedIn : List SortedName → List SortedName → List SortedName → Type 0
AreNamedIn left new xs = AllByRecursion (λ x. (is_named x.name left ≡ true) ⊎ (is_named x.name new ≡ true)) xs

-- the sort that a right term is written at: the state's, where its own is it or below it
abbrev pub written_at : KoreSignature → KoreSort → KoreSort → KoreSort
written_at g own state = if is_below g.subsorts own state then state else own

-- the right term, where the part's clauses are true
abbrev pub moved_state : KoreSignature → StatePart → List Replaced → List SortedName → KoreSort → KorePattern → SymbolicState
moved_state g p bindings new sort right = record { term = folded g bindings right; sort = sort; clauses = p.state.clauses; variables = p.state.variables ++ new }

-- each variable of the right side is the left term's or new, and each name of a new one has one sort
pub record IsOverBoth (m : Rewrite) : Type 0 where
  pub right : AreNamedIn (free_variables m.left) m.new_variables (free_variables m.right)
  pub ensured : AllByRecursion (λ q. AreNamedIn (free_variables m.left) m.new_variables (free_variables q)) m.ensured
  pub one_sort : HasOneSortEach m.new_variables
