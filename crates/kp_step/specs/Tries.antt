-- What is known of one rule while it is tried.
-- Source: this project.
use Rattle.std.specs.Prelude.{◌≡◌, ℕ, List, [], ◌∷◌, ◌++◌, Some, None, ⊤}
use Rattle.std.specs.List.{AllByRecursion}
use Rattle.kp_kore.specs.Syntax.{Text}
use Rattle.kp_kore.specs.Rules.{Rewrite, rewrite, RewriteRule}
use Rattle.kp_kore.specs.Steps.{Fires}
use Rattle.kp_kore.specs.Theory.{Theory}
use Rattle.kp_symbolic.specs.Terms.{Replaced}
use Rattle.kp_symbolic.specs.States.{Literal, SymbolicState}
use Rattle.kp_symbolic.specs.Verdicts.{Verdict, no_valuation, IsRightVerdict}
use Rattle.kp_case_laws.specs.Parts.{StatePart, whole, with_clauses, OfEachInstance}
use Rattle.kp_rules.specs.LeftForms.{left_form}
use Rattle.kp_rules.specs.LeftSides.{IsLeftSide}
use Rattle.kp_rules.specs.Skeletons.{Form, skeleton_view}
use Rattle.kp_rules.specs.declared.skeleton.Skeleton.{Skeleton}
use Rattle.kp_case_laws.specs.Cases.{IsMetBy, left_side}
use Rattle.kp_case_laws.specs.Firing.{AreFiringCases}
use Rattle.kp_unify.specs.Narrowed.{NumberedPart}
use Rattle.kp_step.specs.Meets.{MeetsRule}
use Rattle.kp_step.specs.Places.{IsAt, IsReadAs}
use Rattle.kp_step.specs.Comes.{ComesFrom}
use Rattle.kp_step.specs.ReadyParts.{IsReadyPart, narrowed_by, HasInstance, parts_of}
use Rattle.kp_step.specs.Remainders.{IsPartIn, AreUntaken}
use Rattle.kp_step.specs.Found.{IsMetIn}

-- the part that a rule's left side meets, the equations and the condition under which it fires there, what its variables stand
-- for, and the parts where it doesn't fire
pub record PlacedFiring : Type 0 where
  pub part : NumberedPart
  pub equations : List (List Literal)
  pub condition : List (List Literal)
  pub bindings : List Replaced
  pub apart : List StatePart

-- the part where the rule fires
abbrev pub narrowed_of : PlacedFiring → NumberedPart
narrowed_of f = narrowed_by f.part (f.equations ++ f.condition)

-- the skeleton is the left side of the rule of the place, where that is read
abbrev pub IsLeftAt : Theory → ℕ → Skeleton → Type 0
IsLeftAt t place k = (m : Rewrite) → IsReadAs t place m → IsLeftSide t.signature m (skeleton_view k) × (skeleton_view k ≡ left_form t.signature m.left)

-- the rule of the place is read, and fires so on the state
pub record IsFiringOf (t : Theory) (used : List Text) (s : SymbolicState) (place : ℕ) (f : PlacedFiring) : Type 0 where
  pub rule : RewriteRule
  pub at : IsAt t place rule
  pub read : Rewrite
  pub body : rule.body ≡ rewrite read
  pub cases : AreFiringCases t.signature (rewrite read) (whole s) (Some (record { part = f.part.part; clauses = f.equations ++ f.condition })) f.apart
  pub is_met : IsMetIn t read f.bindings f.part.part
  pub form : Form
  pub left : IsLeftSide t.signature read form
  pub meets_so : IsMetBy t.signature (left_side t.signature form) (record { part = f.part.part; equations = f.equations; bindings = f.bindings })
  pub part : IsPartIn t.signature used (whole s) f.part.part f.part
  pub comes : ComesFrom t.signature (λ b. b ≡ rewrite read) (whole s) (narrowed_of f).part
  pub where_met : IsReadyPart t.signature used (narrowed_by f.part f.equations)
  pub where_it_fires : IsReadyPart t.signature used (narrowed_by f.part (f.equations ++ f.condition))

-- the rule of the place meets the state, and it isn't known that its left side stands for no instance
pub record CanMeet (t : Theory) (s : SymbolicState) (place : ℕ) (f : PlacedFiring) : Type 0 where
  pub meets : (r : RewriteRule) → IsAt t place r → MeetsRule t.signature s r.body
  pub answer : Verdict
  pub right : IsRightVerdict t.signature (with_clauses f.part.part f.equations).state answer
  pub may_be : ¬ (answer ≡ no_valuation)

-- these parts are what the rules found before leave to the rule of the place; each has an instance
pub record AreTurnParts (t : Theory) (used : List Text) (s : SymbolicState) (place : ℕ) (found : List RewriteRule) (m : StatePart) (parts : List NumberedPart) : Type 0 where
  pub rule : RewriteRule
  pub at : IsAt t place rule
  pub left : AreUntaken t.signature used (Some rule) found (whole s) m parts
  pub instances : AllByRecursion (HasInstance t.signature) (parts_of parts)

-- where one rule is found alone, and nothing remains, it fires on each instance
abbrev pub OneFiresOnAll : Theory → SymbolicState → List RewriteRule → List NumberedPart → Type 0
OneFiresOnAll t s (q ∷ []) [] = OfEachInstance t.signature (whole s) (λ w c. Fires t.signature q.body c)
OneFiresOnAll t s found parts = ⊤

-- these parts are what the rules found leave to none; each has an instance
pub record AreRemaining (t : Theory) (used : List Text) (s : SymbolicState) (found : List RewriteRule) (parts : List NumberedPart) : Type 0 where
  pub left : AreUntaken t.signature used None found (whole s) (whole s) parts
  pub instances : AllByRecursion (HasInstance t.signature) (parts_of parts)
  pub alone : OneFiresOnAll t s found parts
