-- What the calls promise that try a rule on a part, by name.
-- Source: this project.
use Rattle.std.specs.Prelude.{◌≡◌, ◌∷◌, ◌++◌, [], false, Bool, IsTrue, List, Vec, Option, Result, IfOk, OnOk}
use Rattle.std.specs.List.{AllByRecursion}
use Rattle.std.specs.declared.alloc.Global.{Global}
use Rattle.kp_kore.specs.Syntax.{Text}
use Rattle.kp_kore.specs.Parts.{SortedName}
use Rattle.kp_kore.specs.Signature.{KoreSignature}
use Rattle.kp_kore.specs.Rules.{Rewrite, RuleBody, rewrite}
use Rattle.kp_symbolic.specs.Solving.{negated}
use Rattle.kp_symbolic.specs.States.{SymbolicState}
use Rattle.kp_solving.specs.Further.{constrained}
use Rattle.kp_symbolic.specs.Terms.{Replaced}
use Rattle.kp_symbolic.specs.WellFormed.{AreWellPlaced}
use Rattle.kp_rules.specs.Sides.{AreSidesOf}
use Rattle.kp_rules.specs.VerifiedSides.{AreVerifiedSides}
use Rattle.kp_rules.specs.Skeletons.{skeleton_view}
use Rattle.kp_rules.specs.declared.sides.ReadSides.{ReadSides}
use Rattle.kp_case_laws.specs.Parts.{StatePart}
use Rattle.kp_case_laws.specs.Courses.{IsBoundTo}
use Rattle.kp_case_laws.specs.Firing.{FiresNowhere}
use Rattle.kp_unify.specs.Narrowed.{NumberedPart}
use Rattle.kp_unify.specs.Views.{signature_of, part_view, numbered_view, IsSetting}
use Rattle.kp_unify.specs.declared.part.Part.{Part}
use Rattle.kp_unify.specs.declared.part.Setting.{Setting}
use Rattle.kp_step.specs.ReadyParts.{IsReadyPart, narrowed_by}
use Rattle.kp_step.specs.Silent.{IsExcluded}
use Rattle.kp_step.specs.Opposites.{plain_state, IsNotNone}
use Rattle.kp_step.specs.Firings.{numbered, clauses_of_firing, IsFiring, IsFired}
use Rattle.kp_step.specs.declared.firing.Firing.{Firing}

-- ---- where a rule fires

-- where the variable stands for a term of its sort for each instance of some part, it does by the term's form
abbrev pub IsPlacedIf : Bool → KoreSignature → List Replaced → SortedName → Type 0
IsPlacedIf b g bindings x = (p : StatePart) → IsTrue b → IsBoundTo g p bindings x → AreWellPlaced g bindings (x ∷ [])

-- the same of each variable
abbrev pub ArePlacedIf : Bool → KoreSignature → List Replaced → List SortedName → Type 0
ArePlacedIf b g bindings xs = (p : StatePart) → IsTrue b → AllByRecursion (IsBoundTo g p bindings) xs → AreWellPlaced g bindings xs

-- of each verified rule of these sides, where it can be tried on the part
abbrev pub WhereReady : Setting → Part → ReadSides → (List Text → Rewrite → Type 0) → Type 0
WhereReady setting part sides Told =
    (used : List Text) (m : Rewrite) → let g = signature_of setting in
    IsSetting used setting → AreSidesOf g m sides → AreVerifiedSides g m → IsReadyPart g used (numbered_view part) → Told used m

-- the rule fires so on the part, or its left side doesn't meet it
abbrev pub FiresOnPart : {E : Type 0} → Setting → Part → ReadSides → Result (Option Firing) E → Type 0
FiresOnPart setting part sides result = WhereReady setting part sides (λ used m. IfOk result (IsFired (signature_of setting) used m (skeleton_view sides.left) (part_view part)))

-- ---- where it doesn't fire

-- these are the parts where the rule doesn't fire
abbrev pub AreExcluded : KoreSignature → List Text → RuleBody → StatePart → Vec Part Global → Type 0
AreExcluded g used body p parts = IsExcluded g used body p (numbered parts.items)

-- the part where it fires, by the plain clauses of the part that it meets
abbrev pub plain_of_firing : KoreSignature → Firing → SymbolicState
plain_of_firing g f = constrained (plain_state g (part_view f.part).state) (clauses_of_firing f)

-- where it is told, the rule that fires so on some part fires on none of its instances; where it isn't, a right verdict doesn't say so
abbrev pub TellsNowhere : {E : Type 0} → KoreSignature → Firing → Result Bool E → Type 0
TellsNowhere g f result =
    (used : List Text) (body : RuleBody) (p : StatePart) → IsFiring g used body p f → IfOk result (λ b. (IsTrue b → FiresNowhere g body p) × (b ≡ false → IsNotNone g (plain_of_firing g f)))

-- with the rest, they are the parts where a rule doesn't fire, when this one is behind them or falls away
abbrev pub AddsExcluded : {A E : Type 0} → KoreSignature → Vec Part Global → Part → Result A E → Vec Part Global → Type 0
AddsExcluded g old part result new =
    (used : List Text) (body : RuleBody) (p : StatePart) (rest : List NumberedPart) → IsExcluded g used body p (numbered old.items ++ numbered_view part ∷ rest) →
    OnOk result (IsExcluded g used body p (numbered new.items ++ rest))

-- the parts that are kept of those where a rule doesn't fire are such parts, too
abbrev pub KeepsExcluded : {E : Type 0} → KoreSignature → Vec Part Global → Result (Vec Part Global) E → Type 0
KeepsExcluded g parts result = (used : List Text) (body : RuleBody) (p : StatePart) → AreExcluded g used body p parts → IfOk result (AreExcluded g used body p)

-- the part that is met where not all of the clauses are true
abbrev pub opposite_of_firing : KoreSignature → Firing → NumberedPart
opposite_of_firing g f = let q = numbered_view f.part in narrowed_by q (negated g q.part.state.sort (clauses_of_firing f))

-- the parts where the rule that fires so on some part doesn't fire
abbrev pub ExcludesFiring : {E : Type 0} → KoreSignature → Firing → Result (Vec Part Global) E → Type 0
ExcludesFiring g f result = (used : List Text) (body : RuleBody) (p : StatePart) → IsFiring g used body p f → IfOk result (AreExcluded g used body p)

-- the parts where the rule that fires so on this part doesn't fire, where a rule can be tried on it
abbrev pub ExcludesFiringOn : {E : Type 0} → KoreSignature → Part → Firing → Result (Vec Part Global) E → Type 0
ExcludesFiringOn g part f result =
    (used : List Text) (body : RuleBody) → let q = numbered_view part in IsReadyPart g used q → IsFiring g used body q.part f → IfOk result (AreExcluded g used body q.part)

-- the parts of the part where the rule doesn't fire
abbrev pub ExcludesRule : {E : Type 0} → Setting → Part → ReadSides → Result (Vec Part Global) E → Type 0
ExcludesRule setting part sides result = WhereReady setting part sides (λ used m. IfOk result (AreExcluded (signature_of setting) used (rewrite m) (part_view part)))
