-- What follows from a part where a rule has its turn.
-- Source: K's rewrite rules (right sides, ensured conditions, new variables).
use Rattle.std.specs.Prelude.{◌≡◌, ◌↔◌, ℕ, not, List, [], ◌∷◌, ◌++◌}
use Rattle.std.specs.List.{AllZip, filter}
use Rattle.kp_kore.specs.Syntax.{Text, KoreSort}
use Rattle.kp_kore.specs.Parts.{SortedName}
use Rattle.kp_kore.specs.Signature.{KoreSignature}
use Rattle.kp_kore.specs.Value.{Value}
use Rattle.kp_kore.specs.Instance.{Valuation, GivesSorts, is_named}
use Rattle.kp_kore.specs.Rules.{Rewrite, RuleBody, rewrite, RewriteRule}
use Rattle.kp_kore.specs.Theory.{Theory}
use Rattle.kp_symbolic.specs.Terms.{Replaced}
use Rattle.kp_symbolic.specs.States.{SymbolicState, IsStateInstance}
use Rattle.kp_symbolic.specs.Solving.{Solving}
use Rattle.kp_symbolic.specs.WellFormed.{AreAtHand}
use Rattle.kp_case_laws.specs.Parts.{StatePart, whole, IsGrown}
use Rattle.kp_case_laws.specs.NextStates.{FollowsBy}
use Rattle.kp_unify.specs.Narrowed.{NumberedPart}
use Rattle.kp_solving.specs.Further.{constrained}
use Rattle.kp_step.specs.Conditions.{condition_clauses}
use Rattle.kp_step.specs.Meets.{IsLaidBy}
use Rattle.kp_step.specs.Places.{IsAt}
use Rattle.kp_step.specs.ReadyParts.{IsReadyPart}
use Rattle.kp_step.specs.Ready.{IsReadyState}
use Rattle.kp_step.specs.Found.{PlacedTurn}
use Rattle.kp_step.specs.RightSides.{ChosenNew, AreChosen, moved_state}

-- what a rule's variables stand for behind it, but for those of the name of a new one, which hide them
abbrev pub kept_bindings : List SortedName → List Replaced → List Replaced
kept_bindings new bindings = filter (λ b. not (is_named b.name new)) bindings

-- what the rule's variables stand for in what follows: what its left side binds, and new variables with the next names for its new ones
abbrev pub bindings_behind : Rewrite → List Replaced → ChosenNew → List Replaced
bindings_behind m bindings c = kept_bindings m.new_variables bindings ++ c.bindings

-- By form: the rule's right term, with these terms in its variables' places, where the part's clauses and what the rule ensures are true, its
-- equations solved; or the part with a clause that is never true, where a new variable's sort has no value.
pub data IsMovedBy (g : KoreSignature) (used : List Text) (m : Rewrite) (p : StatePart) : SymbolicState → Type 0 where
  moves : (met : StatePart) (bindings : List Replaced) (from : ℕ) (c : ChosenNew) (sort : KoreSort) (x : SymbolicState) → IsLaidBy g m bindings met → AreChosen used m.new_variables from c →
      Solving g (constrained (moved_state g p (bindings_behind m bindings c) c.new sort m.right) (condition_clauses g (bindings_behind m bindings c) m.ensured)) x → IsMovedBy g used m p x
  never : IsMovedBy g used m p (constrained p.state ([] ∷ []))

-- The state's instances are what the rule rewrites those of the part to, and it is made so by form. It has the part's variables, and new
-- ones besides; a step may go on from it.
pub record IsNextOf (g : KoreSignature) (used : List Text) (s : StatePart) (body : RuleBody) (p : StatePart) (next : SymbolicState) (after : ℕ) : Type 0 where
  pub follows : FollowsBy g body p next
  pub moved : (m : Rewrite) → body ≡ rewrite m → IsMovedBy g used m p next
  pub at_hand : AreAtHand p.state.variables next.variables
  pub grown : IsGrown g used s (whole next)
  pub ready : IsReadyState g used next after

-- a next state of the rule of a place, with its part
pub record PlacedNext : Type 0 where
  pub place : ℕ
  pub part : StatePart
  pub state : SymbolicState
  pub next : ℕ

-- the next state of a part of the rule's turn
pub record IsNextAt (t : Theory) (used : List Text) (s : StatePart) (k : PlacedTurn) (p : NumberedPart) (n : PlacedNext) : Type 0 where
  pub place : n.place ≡ k.place
  pub part : n.part ≡ p.part
  pub follows : (r : RewriteRule) → IsAt t k.place r → IsNextOf t.signature used s r.body p.part n.state n.next

-- the next states of the turns' parts, one after the other
abbrev pub AreNextsOf : Theory → List Text → StatePart → List PlacedTurn → List PlacedNext → Type 0
AreNextsOf t used s [] ns = ns ≡ []
AreNextsOf t used s (k ∷ ks) ns = (xs : List PlacedNext) × (ys : List PlacedNext) × (ns ≡ xs ++ ys) × AllZip (IsNextAt t used s k) k.parts xs × AreNextsOf t used s ks ys

-- a part whose equations are solved, of the same variables and instances, to go on with
pub record IsSolvedPart (g : KoreSignature) (used : List Text) (q r : NumberedPart) : Type 0 where
  pub added : r.part.added ≡ q.part.added
  pub variables : r.part.state.variables ≡ q.part.state.variables
  pub solving : Solving g q.part.state r.part.state
  pub same : (w : Valuation) (c : Value) → GivesSorts g w q.part.state.variables → IsStateInstance g w q.part.state c ↔ IsStateInstance g w r.part.state c
  pub ready : IsReadyPart g used r
