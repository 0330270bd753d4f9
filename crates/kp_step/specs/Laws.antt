-- The longer statements of the laws, by name.
-- Source: this project.
use Rattle.std.specs.Prelude.{◌≡◌, ◌↔◌, ◌++◌, ◌∷◌, List, Some, true}
use Rattle.std.specs.List.{AllByRecursion}
use Rattle.kp_kore.specs.Syntax.{KoreSort, KorePattern}
use Rattle.kp_kore.specs.Parts.{SortedName}
use Rattle.kp_kore.specs.Signature.{KoreSignature}
use Rattle.kp_kore.specs.Instance.{Valuation, GivesSorts, IsTrueUnder}
use Rattle.kp_kore.specs.Rules.{Rewrite, RuleBody, rewrite}
use Rattle.kp_kore.specs.Steps.{Fires}
use Rattle.kp_symbolic.specs.Terms.{Replaced, under_replaced}
use Rattle.kp_symbolic.specs.States.{Literal, AreTrue, SymbolicState}
use Rattle.kp_symbolic.specs.Clauses.{is_too_large, denied}
use Rattle.kp_symbolic.specs.Solving.{negated}
use Rattle.kp_rules.specs.Skeletons.{Form}
use Rattle.kp_case_laws.specs.Parts.{StatePart, OfEachInstance, with_clauses}
use Rattle.kp_case_laws.specs.Cases.{MetPart, AreCases, left_side}
use Rattle.kp_symbolic_laws.specs.Runs.{IsSortedLiteral}
use Rattle.kp_symbolic_laws.specs.Safe.{PutNormal}
use Rattle.kp_symbolic_laws.specs.Kept.{CanBeWrittenAt}
use Rattle.kp_rules.specs.LeftSides.{IsLeftSide, IsOverLeft}
use Rattle.kp_case_laws.specs.Firing.{FiringPart, AreFiringCases, HasNoInstance, AreWhere}
use Rattle.kp_step.specs.Conditions.{IsVerifiedOver, condition_clauses, AreRight}

-- the clauses of a verified condition are true where the condition is, its variables standing for the terms' instances
abbrev pub ConditionsSayTheSame : KoreSignature → Type 0
ConditionsSayTheSame g =
    (hand : List SortedName) (bindings : List Replaced) (v : Valuation) (ps : List KorePattern) →
    AllByRecursion (IsVerifiedOver g hand bindings) ps → GivesSorts g v hand →
    AreTrue g v (condition_clauses g bindings ps) ↔ AllByRecursion (IsTrueUnder g (under_replaced g bindings v)) ps

-- their literals have the sorts of their places, and are in normal form where the terms are
abbrev pub ConditionsAreRight : KoreSignature → Type 0
ConditionsAreRight g =
    (hand : List SortedName) (bindings : List Replaced) (ps : List KorePattern) →
    PutNormal g bindings → AllByRecursion (IsVerifiedOver g hand bindings) ps → AreRight g hand (condition_clauses g bindings ps)

-- each clause can be written, where the opposite of all is too large to be opened
abbrev pub CanBeDenied : KoreSignature → KoreSort → List (List Literal) → Type 0
CanBeDenied g s cs = is_too_large 0 (denied g cs) ≡ true → AllByRecursion (CanBeWrittenAt g s) cs

-- the opposite's literals have the sorts of their places
abbrev pub OppositesAreSorted : KoreSignature → Type 0
OppositesAreSorted g =
    (s : SymbolicState) (cs : List (List Literal)) → AreRight g s.variables cs →
    AllByRecursion (AllByRecursion (IsSortedLiteral g s.variables)) (negated g s.sort cs)

-- and are in normal form
abbrev pub OppositesAreRight : KoreSignature → Type 0
OppositesAreRight g =
    (s : SymbolicState) (cs : List (List Literal)) → AreRight g s.variables cs → CanBeDenied g s.sort cs →
    AreRight g s.variables (negated g s.sort cs)

-- the opposite is true where not all of the clauses are
abbrev pub OppositesSayTheContrary : KoreSignature → Type 0
OppositesSayTheContrary g =
    (v : Valuation) (s : SymbolicState) (cs : List (List Literal)) →
    GivesSorts g v s.variables → AreRight g s.variables cs → CanBeDenied g s.sort cs →
    AreTrue g v (negated g s.sort cs) ↔ (¬ AreTrue g v cs)

-- the part that the left side meets is the one where the rule fires, by the equations and the clauses of the condition
abbrev pub FiresByTheClauses : KoreSignature → Type 0
FiresByTheClauses g =
    (r : Rewrite) (form : Form) (p : StatePart) (m : MetPart) (apart : List StatePart) →
    AreCases g (left_side g form) p (Some m) apart → IsLeftSide g r form → IsOverLeft r →
    AllByRecursion (IsVerifiedOver g m.part.state.variables m.bindings) r.condition →
    AreFiringCases g (rewrite r) p (Some (record { part = m.part; clauses = m.equations ++ condition_clauses g m.bindings r.condition })) apart

-- the opposite of the clauses, as it is opened, or as one literal where that makes too many
abbrev pub opposite_of : KoreSignature → FiringPart → StatePart
opposite_of g m = with_clauses m.part (negated g m.part.state.sort m.clauses)

-- the parts where the rule doesn't fire; where none of them has an instance, it fires on each
abbrev pub IsExcludedByTheOpposite : KoreSignature → Type 0
IsExcludedByTheOpposite g =
    (body : RuleBody) (p : StatePart) (m : FiringPart) (apart : List StatePart) →
    AreFiringCases g body p (Some m) apart → AreRight g m.part.state.variables m.clauses →
    CanBeDenied g m.part.state.sort m.clauses →
    AreWhere g (λ c. ¬ Fires g body c) p (opposite_of g m ∷ apart)
    × (AllByRecursion (HasNoInstance g) (opposite_of g m ∷ apart) → OfEachInstance g p (λ w c. Fires g body c))
