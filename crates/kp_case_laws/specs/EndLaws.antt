-- The statements of what a step says of a pattern at which a run ends, by name.
-- Source: this project.
use Rattle.std.specs.Prelude.{◌≡◌, true, List, [], ◌∷◌, Option, None}
use Rattle.std.specs.List.{AllByRecursion, AllZip, Contains}
use Rattle.std.specs.Option.{option_map}
use Rattle.kp_kore.specs.Syntax.{Text, KorePattern}
use Rattle.kp_kore.specs.Parts.{free_variables}
use Rattle.kp_kore.specs.Value.{Value}
use Rattle.kp_kore.specs.Instance.{Valuation, GivesSorts}
use Rattle.kp_kore.specs.Rules.{RewriteRule}
use Rattle.kp_kore.specs.Theory.{Theory}
use Rattle.kp_kore.specs.AtHand.{HasSome}
use Rattle.kp_kore.specs.Cases.{NextState, HaveOneSort}
use Rattle.kp_kore.specs.Executions.{Options, is_among, IsStuck, IsBranching, IsCutPoint}
use Rattle.kp_symbolic.specs.States.{SymbolicState, IsStateInstance}
use Rattle.kp_symbolic.specs.WellFormed.{AreAtHand}
use Rattle.kp_case_laws.specs.Parts.{whole, IsGrown}
use Rattle.kp_case_laws.specs.Firing.{HasNoInstance}
use Rattle.kp_case_laws.specs.NextStates.{StepCase, AreStepCases, IsPatternOf, IsAtHand, IsWritten, IsWithinHand, HaveValues}
use Rattle.kp_case_laws.specs.RunLaws.{IsAloneBy}

abbrev pub id_of_case : StepCase → Option Text
id_of_case k = option_map (λ r. r.id) k.rule

-- where there are cases, and all are of no rule, no rule fires
abbrev pub SaysStuck : Theory → Type 0
SaysStuck t =
    (request p : KorePattern) (s : SymbolicState) (cases : List StepCase) →
    IsAtHand t.signature request p s → AreStepCases t s cases → AllByRecursion (IsWithinHand t.signature s) cases →
    ¬ (cases ≡ []) → AllByRecursion (λ k. k.rule ≡ None) cases → IsStuck t request p

-- cases of two rules, or of one and none, are two cases
abbrev pub SaysBranching : Theory → Type 0
SaysBranching t =
    (request p : KorePattern) (s : SymbolicState) (cases : List StepCase) (nexts : List NextState) (j k : StepCase) →
    IsAtHand t.signature request p s → AreStepCases t s cases → AllByRecursion (IsWithinHand t.signature s) cases →
    AllZip (IsWritten t.signature request p s) cases nexts →
    Contains cases j → Contains cases k → ¬ (id_of_case j ≡ id_of_case k) → IsBranching t request p nexts

-- a rule alone that is one to stop before
abbrev pub SaysCutPoint : Theory → Type 0
SaysCutPoint t =
    (o : Options) (used : List Text) (request p : KorePattern) (s : SymbolicState) (r : RewriteRule) (k : StepCase) (n : NextState) →
    IsAtHand t.signature request p s → IsAloneBy t used s r k → IsWritten t.signature request p s k n →
    is_among o.cut_points r.id ≡ true → IsCutPoint t o request p r.id n

-- the pattern has an instance where the state has one
abbrev pub SaysSome : Theory → Type 0
SaysSome t =
    (request p : KorePattern) (s : SymbolicState) (w : Valuation) (c : Value) →
    IsAtHand t.signature request p s → GivesSorts t.signature w s.variables → IsStateInstance t.signature w s c → HasSome t.signature (request ∷ []) p

-- and has none where the state has none
abbrev pub SaysNone : Theory → Type 0
SaysNone t =
    (used : List Text) (request p : KorePattern) (first s : SymbolicState) →
    IsPatternOf t.signature p s → AreAtHand first.variables (free_variables request) → AreAtHand (free_variables request) s.variables →
    HaveOneSort s.variables → IsGrown t.signature used (whole first) (whole s) → HasNoInstance t.signature (whole s) → ¬ HasSome t.signature (request ∷ []) p

-- values of the first state's variables, and of the new ones, are values of all
abbrev pub GivesValues : Theory → Type 0
GivesValues t =
    (used : List Text) (first s : SymbolicState) →
    HaveValues t.signature first.variables → IsGrown t.signature used (whole first) (whole s) → HaveValues t.signature s.variables
