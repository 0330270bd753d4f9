-- Where the code finds that a rule fires on a part, and where it doesn't.
-- Source: rules of the K framework (a left side and a condition); K's Haskell backend, where what no rule takes is the remainder.
use Rattle.std.specs.Prelude.{◌≡◌, List, [], ◌∷◌, ◌++◌, map, Option, Some, None}
use Rattle.kp_kore.specs.Syntax.{Text}
use Rattle.kp_kore.specs.Signature.{KoreSignature}
use Rattle.kp_kore.specs.Rules.{Rewrite, RuleBody, rewrite}
use Rattle.kp_symbolic.specs.States.{Literal}
use Rattle.kp_symbolic.specs.WellFormed.{AreWellPlaced}
use Rattle.kp_symbolic.specs.View.{clauses_view, replaced_view}
use Rattle.kp_rules.specs.Skeletons.{Form}
use Rattle.kp_case_laws.specs.Parts.{StatePart}
use Rattle.kp_case_laws.specs.Cases.{MetPart}
use Rattle.kp_case_laws.specs.Courses.{form_variables}
use Rattle.kp_case_laws.specs.Firing.{AreFiringCases}
use Rattle.kp_unify.specs.Narrowed.{NumberedPart}
use Rattle.kp_unify.specs.Way.{IsMeeting}
use Rattle.kp_unify.specs.Views.{part_view, numbered_view}
use Rattle.kp_unify.specs.declared.part.Part.{Part}
use Rattle.kp_step.specs.Conditions.{condition_clauses}
use Rattle.kp_step.specs.ReadyParts.{IsReadyPart, narrowed_by}
use Rattle.kp_step.specs.Silent.{IsFiringOf}
use Rattle.kp_step.specs.declared.firing.Firing.{Firing}

abbrev pub numbered : List Part → List NumberedPart
numbered = map numbered_view

-- what was met: the part, the equations, what the variables of the left side stand for
abbrev pub met_of : Firing → MetPart
met_of f = record { part = part_view f.part; equations = clauses_view f.equations.items; bindings = map replaced_view f.bindings.items }

-- the equations, and the clauses of the condition behind them
abbrev pub clauses_of_firing : Firing → List (List Literal)
clauses_of_firing f = clauses_view f.equations.items ++ clauses_view f.condition.items

abbrev pub IsFiring : KoreSignature → List Text → RuleBody → StatePart → Firing → Type 0
IsFiring g used body p f = IsFiringOf g used body p (numbered_view f.part) (clauses_of_firing f) (numbered f.apart.items)

-- the rule fires by what was met and its condition; the left side's variables stand for terms of their sorts; where it is met, and
-- where the rule fires, a rule can be tried again
pub record FiresOn (g : KoreSignature) (used : List Text) (m : Rewrite) (form : Form) (p : StatePart) (f : Firing) : Type 0 where
  pub firing : IsFiring g used (rewrite m) p f
  pub met : IsMeeting g used form p (met_of f) f.part.next (numbered f.apart.items)
  pub bound : AreWellPlaced g (met_of f).bindings (form_variables form)
  pub condition : clauses_view f.condition.items ≡ condition_clauses g (met_of f).bindings m.condition
  pub ready : IsReadyPart g used (numbered_view f.part)
  pub where_met : IsReadyPart g used (narrowed_by (numbered_view f.part) (clauses_view f.equations.items))
  pub where_it_fires : IsReadyPart g used (narrowed_by (numbered_view f.part) (clauses_of_firing f))

-- where the left side doesn't meet the part, all of it is apart
abbrev pub IsFired : KoreSignature → List Text → Rewrite → Form → StatePart → Option Firing → Type 0
IsFired g used m form p (Some f) = FiresOn g used m form p f
IsFired g used m form p None = AreFiringCases g (rewrite m) p None (p ∷ [])
