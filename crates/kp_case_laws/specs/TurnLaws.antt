-- The longer statements of the laws, by name.
-- Source: this project.
use Rattle.std.specs.Prelude.{◌≡◌, ◌<◌, ◌++◌, List, [], ◌∷◌, Option, Some, None}
use Rattle.std.specs.List.{AllByRecursion, AllZip, Contains}
use Rattle.kp_kore.specs.Syntax.{KorePattern}
use Rattle.kp_kore.specs.Signature.{KoreSignature}
use Rattle.kp_kore.specs.Rules.{Rewrite, RuleBody, rewrite, RewriteRule}
use Rattle.kp_kore.specs.Theory.{Theory}
use Rattle.kp_kore.specs.Steps.{Fires, HasTurn, NoneFires}
use Rattle.kp_kore.specs.Cases.{NextState, HasTurnAlone, AreNextStates}
use Rattle.kp_kore.specs.Scopes.{LeadsIn}
use Rattle.kp_symbolic.specs.States.{Literal, AreTrue, SymbolicState}
use Rattle.kp_rules.specs.Skeletons.{Form}
use Rattle.kp_case_laws.specs.Parts.{StatePart, IsRestricted, OfEachInstance, whole}
use Rattle.kp_case_laws.specs.Cases.{MetPart, AreCases, left_side}
use Rattle.kp_rules.specs.LeftSides.{IsLeftSide, IsOverLeft}
use Rattle.kp_case_laws.specs.Firing.{SaysCondition, FiringPart, FiresNowhere, AreFiringCases, HasNoInstance, AreWhere, AreDividedSoFar, AreOpposites}
use Rattle.kp_case_laws.specs.Turns.{FiresFirst, NoneOfThese, RemainsTo, TakesFrom, AreAllTurns}
use Rattle.kp_case_laws.specs.NextStates.{StepCase, AreStepCases, IsPatternOf, IsAtHand, IsWritten, IsWithinHand}

-- ---- where a rule fires

-- the part that the left side meets is the one where the rule fires, where the equations and the condition are true
abbrev pub FiresWhereItIsMet : KoreSignature → Type 0
FiresWhereItIsMet g =
    (r : Rewrite) (form : Form) (p : StatePart) (m : MetPart) (apart : List StatePart) (clauses : List (List Literal)) →
    AreCases g (left_side g form) p (Some m) apart → IsLeftSide g r form → IsOverLeft r → SaysCondition g r m clauses →
    AreFiringCases g (rewrite r) p (Some (record { part = m.part; clauses = m.equations ++ clauses })) apart

-- where the left side meets nothing, the rule fires nowhere
abbrev pub FiresNowhereApart : KoreSignature → Type 0
FiresNowhereApart g =
    (r : Rewrite) (form : Form) (p : StatePart) (apart : List StatePart) →
    AreCases g (left_side g form) p None apart → IsLeftSide g r form → AreFiringCases g (rewrite r) p None apart

-- the rule fires in the part by the clauses
abbrev pub FiresInOnePart : KoreSignature → Type 0
FiresInOnePart g =
    (body : RuleBody) (p r : StatePart) (m : FiringPart) (apart : List StatePart) →
    AreFiringCases g body p (Some m) apart → IsRestricted g m.part m.clauses [] r → AreWhere g (λ c. Fires g body c) p (r ∷ [])

-- and doesn't in the part by their opposites, nor in those apart
abbrev pub IsExcludedFromParts : KoreSignature → Type 0
IsExcludedFromParts g =
    (body : RuleBody) (p q : StatePart) (m : FiringPart) (apart : List StatePart) (others : List (List Literal)) →
    AreFiringCases g body p (Some m) apart → AreOpposites g m.part m.clauses others → IsRestricted g m.part others [] q →
    AreWhere g (λ c. ¬ Fires g body c) p (q ∷ apart)

-- where the clauses are never true, it fires nowhere
abbrev pub FiresNowhereAtAll : KoreSignature → Type 0
FiresNowhereAtAll g =
    (body : RuleBody) (p : StatePart) (m : FiringPart) (apart : List StatePart) →
    AreFiringCases g body p (Some m) apart → OfEachInstance g m.part (λ w c. ¬ AreTrue g w m.clauses) → FiresNowhere g body p

-- where no part is left without it, it fires on each instance
abbrev pub FiresEverywhere : KoreSignature → Type 0
FiresEverywhere g =
    (body : RuleBody) (p q : StatePart) (m : FiringPart) (apart : List StatePart) (others : List (List Literal)) →
    AreFiringCases g body p (Some m) apart → AreOpposites g m.part m.clauses others → IsRestricted g m.part others [] q →
    AllByRecursion (HasNoInstance g) (q ∷ apart) → OfEachInstance g p (λ w c. Fires g body c)

-- ---- what is left

-- the parts that are left wait for the rule q
abbrev pub SetsOut : KoreSignature → Type 0
SetsOut g =
    (o : Option RewriteRule) (turns : List RewriteRule) (q : RewriteRule) (p : StatePart) (parts : List StatePart) →
    AreWhere g (RemainsTo g o turns) p parts → AreDividedSoFar g (RemainsTo g o turns) (λ c. ¬ Fires g q.body c) p [] parts

-- the next part that waits is divided by where q doesn't fire
abbrev pub GoesOn : KoreSignature → Type 0
GoesOn g =
    (o : Option RewriteRule) (turns : List RewriteRule) (q : RewriteRule) (p r : StatePart) (done waiting parts : List StatePart) →
    AreDividedSoFar g (RemainsTo g o turns) (λ c. ¬ Fires g q.body c) p done (r ∷ waiting) → AreWhere g (λ c. ¬ Fires g q.body c) r parts →
    AreDividedSoFar g (RemainsTo g o turns) (λ c. ¬ Fires g q.body c) p (done ++ parts) waiting

-- where none waits, less is left
abbrev pub Arrives : KoreSignature → Type 0
Arrives g =
    (o : Option RewriteRule) (turns : List RewriteRule) (q : RewriteRule) (p : StatePart) (parts : List StatePart) →
    TakesFrom q o → AreDividedSoFar g (RemainsTo g o turns) (λ c. ¬ Fires g q.body c) p parts [] → AreWhere g (RemainsTo g o (turns ++ q ∷ [])) p parts

-- a rule that takes nothing leaves what was left
abbrev pub TakesNothing : KoreSignature → Type 0
TakesNothing g =
    (o : Option RewriteRule) (turns : List RewriteRule) (q : RewriteRule) (p : StatePart) (parts : List StatePart) →
    (¬ TakesFrom q o) → AreWhere g (RemainsTo g o turns) p parts → AreWhere g (RemainsTo g o (turns ++ q ∷ [])) p parts

-- a part without an instance falls away, of what is left
abbrev pub DropsFromWhatRemains : KoreSignature → Type 0
DropsFromWhatRemains g =
    (o : Option RewriteRule) (turns : List RewriteRule) (p q : StatePart) (before after : List StatePart) →
    HasNoInstance g q → AreWhere g (RemainsTo g o turns) p (before ++ q ∷ after) → AreWhere g (RemainsTo g o turns) p (before ++ after)

-- and of where a rule doesn't fire
abbrev pub DropsFromWhereItIsExcluded : KoreSignature → Type 0
DropsFromWhereItIsExcluded g =
    (q : RewriteRule) (p r : StatePart) (before after : List StatePart) →
    HasNoInstance g r → AreWhere g (λ c. ¬ Fires g q.body c) p (before ++ r ∷ after) → AreWhere g (λ c. ¬ Fires g q.body c) p (before ++ after)

-- ---- who has a turn

-- a rule to which nothing is left has no turn
abbrev pub HasNoTurn : Theory → Type 0
HasNoTurn t =
    (p : StatePart) (before : List RewriteRule) (r : RewriteRule) →
    AllByRecursion (Contains t.rules) before → AreWhere t.signature (FiresFirst t.signature before r) p [] →
    OfEachInstance t.signature p (λ w c. ¬ HasTurn t r c)

-- where all that have their turn are found, what those of smaller numbers leave to a rule is where it has its turn
abbrev pub HasTurnWhereItRemains : Theory → Type 0
HasTurnWhereItRemains t =
    (p : StatePart) (turns before : List RewriteRule) (r : RewriteRule) (parts : List StatePart) →
    AreAllTurns t p turns → AllByRecursion (Contains t.rules) before → AllByRecursion (λ q. q.priority < r.priority → Contains before q) turns →
    AreWhere t.signature (FiresFirst t.signature before r) p parts → AreWhere t.signature (HasTurn t r) p parts

-- and what they leave to none is where no rule fires
abbrev pub NoneFiresOnTheRemainder : Theory → Type 0
NoneFiresOnTheRemainder t =
    (p : StatePart) (turns : List RewriteRule) (parts : List StatePart) →
    AreAllTurns t p turns → AllByRecursion (Contains t.rules) turns →
    AreWhere t.signature (NoneOfThese t.signature turns) p parts → AreWhere t.signature (NoneFires t) p parts

-- ---- next states

-- the cases of a step, as they are written, are the next states
abbrev pub GivesNextStates : Theory → Type 0
GivesNextStates t =
    (request p : KorePattern) (s : SymbolicState) (cases : List StepCase) (nexts : List NextState) →
    IsAtHand t.signature request p s → AreStepCases t s cases → AllByRecursion (IsWithinHand t.signature s) cases →
    AllZip (IsWritten t.signature request p s) cases nexts → AreNextStates t request p nexts

-- one case alone leads on
abbrev pub LeadsOnAlone : Theory → Type 0
LeadsOnAlone t =
    (p q : KorePattern) (s : SymbolicState) (k : StepCase) (r : RewriteRule) →
    IsPatternOf t.signature p s → IsPatternOf t.signature q k.next → AreStepCases t s (k ∷ []) → IsWithinHand t.signature s k →
    k.rule ≡ Some r → LeadsIn t s.variables k.next.variables p q 1

-- and where its rule fires on each instance, it has its turn alone
abbrev pub HasItsTurnAlone : Theory → Type 0
HasItsTurnAlone t =
    (s : SymbolicState) (k : StepCase) (r : RewriteRule) →
    AreStepCases t s (k ∷ []) → k.rule ≡ Some r → Contains t.rules r → OfEachInstance t.signature (whole s) (λ v c. Fires t.signature r.body c) →
    OfEachInstance t.signature (whole s) (λ v c. HasTurnAlone t r.id c)
