-- What a part of a state has to be for a rule to be tried on it.
-- Source: the K framework's Kore language (sorts); this project.
use Rattle.std.specs.Prelude.{◌≤◌, List, map}
use Rattle.kp_kore.specs.Syntax.{Text}
use Rattle.kp_kore.specs.Signature.{KoreSignature}
use Rattle.kp_kore.specs.Value.{Value}
use Rattle.kp_kore.specs.Instance.{Valuation, GivesSorts}
use Rattle.kp_symbolic.specs.States.{Literal, IsStateInstance}
use Rattle.kp_symbolic_laws.specs.Safe.{IsSafe}
use Rattle.kp_case_laws.specs.Parts.{StatePart, with_clauses, IsTold, IsSortedPart}
use Rattle.kp_unify.specs.Narrowed.{NumberedPart}
use Rattle.kp_unify.specs.Way.{AreInUse}

abbrev pub parts_of : List NumberedPart → List StatePart
parts_of = map (λ q. q.part)

-- what was added is true of each instance; all has the sorts of its places, is in normal form and written right; the names of
-- its variables are in use
pub record IsReadyPart (g : KoreSignature) (used : List Text) (q : NumberedPart) : Type 0 where
  pub told : IsTold g q.part
  pub sorted : IsSortedPart g q.part
  pub safe : IsSafe g q.part.state
  pub begun : 1 ≤ q.next
  pub names : AreInUse used q

-- the part in which these clauses are true, too
abbrev pub narrowed_by : NumberedPart → List (List Literal) → NumberedPart
narrowed_by q clauses = record { part = with_clauses q.part clauses; next = q.next }

-- some values of the variables at hand give the part an instance
pub record HasInstance (g : KoreSignature) (p : StatePart) : Type 0 where
  pub valuation : Valuation
  pub configuration : Value
  pub sorts : GivesSorts g valuation p.state.variables
  pub met : IsStateInstance g valuation p.state configuration
