-- What the calls promise that make a step, by name.
-- Source: this project.
use Rattle.std.specs.Prelude.{◌≡◌, ◌+◌, ◌∷◌, ◌++◌, [], ℕ, ⊤, ◌⊎◌, Bool, false, IsTrue, List, Vec, Option, Some, None, Result, IfOk, MatchOption, map}
use Rattle.std.specs.List.{AllByRecursion, AllZip}
use Rattle.std.specs.declared.alloc.Global.{Global}
use Rattle.kp_kore.specs.Syntax.{Text, KoreSort}
use Rattle.kp_kore.specs.Parts.{SortedName}
use Rattle.kp_kore.specs.Signature.{KoreSignature}
use Rattle.kp_kore.specs.Rules.{Rewrite, rewrite, RewriteRule}
use Rattle.kp_kore.specs.Steps.{Fires, IsUnknown}
use Rattle.kp_kore.specs.Theory.{Theory}
use Rattle.kp_kore.specs.View.{view}
use Rattle.kp_heads.specs.Heads.{HasValue}
use Rattle.kp_symbolic.specs.States.{SymbolicState}
use Rattle.kp_symbolic.specs.Terms as terms
use Rattle.kp_symbolic_laws.specs.Runs.{IsSortedState}
use Rattle.kp_symbolic.specs.View.{clauses_view, replaced_view, state_view}
use Rattle.kp_symbolic.specs.declared.atom.Replaced.{Replaced}
use Rattle.kp_symbolic.specs.declared.state.State.{State}
use Rattle.kp_solving.specs.Further.{constrained}
use Rattle.kp_rules.specs.Sides.{AreSidesOf}
use Rattle.kp_rules.specs.VerifiedSides.{AreVerifiedSides}
use Rattle.kp_rules.specs.Skeletons.{Form, skeleton_view}
use Rattle.kp_symbolic.specs.Shown.{sum_over}
use Rattle.kp_limits.specs.Compared.{numeric_places}
use Rattle.kp_limits.specs.Wide.{first_wide}
use Rattle.kp_step.specs.Counted.{AreLeftsOf, IsMost, these_rules, IsComparedWithin}
use Rattle.kp_step.specs.Comes.{IsFormOf}
use Rattle.kp_rules.specs.declared.rule.Rewrite as code
use Rattle.kp_rules.specs.declared.sides.ReadSides.{ReadSides}
use Rattle.kp_rules.specs.declared.skeleton.Skeleton.{Skeleton}
use Rattle.kp_rule_sets.specs.declared.rule_set.RuleSet.{RuleSet}
use Rattle.kp_case_laws.specs.Parts.{StatePart, whole, with_clauses, OfEachInstance, IsTold}
use Rattle.kp_case_laws.specs.Firing.{HasNoInstance}
use Rattle.kp_case_laws.specs.Turns.{TakesFrom}
use Rattle.kp_unify.specs.Narrowed.{NumberedPart}
use Rattle.kp_unify.specs.Views.{signature_of, part_view, numbered_view, met_view, IsSetting}
use Rattle.kp_unify.specs.Way.{IsMeeting}
use Rattle.kp_unify.specs.declared.part.Part.{Part}
use Rattle.kp_unify.specs.declared.part.MetPart.{MetPart}
use Rattle.kp_unify.specs.declared.part.Setting.{Setting}
use Rattle.kp_step.specs.Conditions.{condition_clauses}
use Rattle.kp_step.specs.ReadyParts.{IsReadyPart, HasInstance}
use Rattle.kp_step.specs.declared.firing.Firing.{Firing}
use Rattle.kp_step.specs.Rules.{Steps, IsReadBy, IsReadAt, IsForeignAt, IsStepFrom, IsSearchFrom}
use Rattle.kp_step.specs.Places.{IsAt, IsReadAs, IsPriorityAt}
use Rattle.kp_step.specs.Meets.{MeetsRule, AllMeet}
use Rattle.kp_step.specs.Ready.{IsReadyState, IsWholeReady}
use Rattle.kp_step.specs.Limits.{PassesNone, Passes, IsFirstPassed, HasNoWideCondition, IsPassed}
use Rattle.kp_step.specs.Remainders.{IsPartIn, AreUntaken, IsNumberOf, OneTakesAll}
use Rattle.kp_step.specs.Found.{PlacedTurn, IsRuleAt, IsMetIn, IsTurnAt, AreAllFound}
use Rattle.kp_step.specs.Tries.{PlacedFiring, narrowed_of, IsLeftAt, IsFiringOf, CanMeet, AreTurnParts, AreRemaining}
use Rattle.kp_step.specs.Follows.{IsNextOf, IsNextAt, AreNextsOf, IsSolvedPart}
use Rattle.kp_step.specs.RightSides.{moved_state}
use Rattle.kp_step.specs.Answers.{IsRightUndecided, IsForeignAnswer, AreDecided, AreWithout, TellsForeign, TellsTurn, TellsParts, TellsRemainder, firing_model}
use Rattle.kp_step.specs.Views.{numbered_views, turn_view, next_view, limit_view}
use Rattle.kp_step.specs.RightSteps.{IsRightStep}
use Rattle.kp_step.specs.declared.part_answers.PartAnswer.{PartAnswer}
use Rattle.kp_step.specs.declared.part_answers.Decided.{Decided}
use Rattle.kp_step.specs.declared.part_answers.UndecidedClauses.{UndecidedClauses}
use Rattle.kp_step.specs.declared.outcome.StepLimit.{StepLimit}
use Rattle.kp_step.specs.declared.outcome.Next.{Next}
use Rattle.kp_step.specs.declared.outcome.StepOutcome.{StepOutcome}
use Rattle.kp_step.specs.declared.right_side.Following.{Following}
use Rattle.kp_step.specs.declared.turns.Turn.{Turn}
use Rattle.kp_step.specs.declared.turns.Tried.{Tried}
use Rattle.kp_step.specs.declared.turns.Tried.TheVariants as tried
use Rattle.kp_step.specs.declared.outcome.StepOutcome.TheVariants as outcome

-- ---- limits and instances

-- the limit that the state passes, or it passes none
abbrev pub TellsLimit : KoreSignature → SymbolicState → Option StepLimit → Type 0
TellsLimit g s o = MatchOption o (PassesNone g s) (λ l. Passes g s (limit_view l))

-- the limit that the first of the states passes that passes one, or none of them does
abbrev pub TellsLimitAmong : KoreSignature → List SymbolicState → Option StepLimit → Type 0
TellsLimitAmong g ss o = MatchOption o (AllByRecursion (λ x. PassesNone g x) ss) (λ l. IsFirstPassed g ss (limit_view l))

-- the left side, if there is one, is that of the rule, and the turns are those of these rules
abbrev pub AreAsked : Theory → Setting → RuleSet → List Turn → Option Form → Option RewriteRule → List RewriteRule → Type 0
AreAsked t setting rules turns (Some left) (Some r) found = Steps t setting rules × IsFormOf t.signature r.body left × AllZip (IsRuleAt t) (map turn_view turns) found
AreAsked t setting rules turns None None found = Steps t setting rules × AllZip (IsRuleAt t) (map turn_view turns) found
AreAsked t setting rules turns left r found = ⊥

-- what may be compared of the state, where the rules of these turns take from what is left to the rule, or to none
abbrev pub MostAsked : {E : Type 0} → Setting → RuleSet → List Turn → Option Form → SymbolicState → Result ℕ E → Type 0
MostAsked setting rules turns left s result =
    (t : Theory) (o : Option RewriteRule) (found : List RewriteRule) → AreAsked t setting rules turns left o found → IfOk result (IsMost t.signature s (these_rules o found))

-- of the parts of a state that rules leave to the rule, or to none: those that have an instance, or what is shown of one, where a rule
-- can be tried on each
abbrev pub DecidesParts : {E : Type 0} → Setting → RuleSet → List Turn → Option Form → SymbolicState → List NumberedPart → Result Decided E → Type 0
DecidesParts setting rules turns left s parts result =
    (t : Theory) (used : List Text) (o : Option RewriteRule) (found : List RewriteRule) → let g = signature_of setting in AreAsked t setting rules turns left o found → AllByRecursion (IsReadyPart g used) parts →
    IfOk result (AreDecided g s (these_rules o found) parts)

-- with a weight, what is told of a part compares no more whole-number variables than stand in the state and in the left sides of these rules
abbrev pub CountsWhereWeighed : {E : Type 0} → Setting → RuleSet → List Turn → Option Form → SymbolicState → SymbolicState → Result UndecidedClauses E → Type 0
CountsWhereWeighed setting rules turns left s p result =
    (t : Theory) (o : Option RewriteRule) (found : List RewriteRule) → AreAsked t setting rules turns left o found → IfOk result (λ c. IsComparedWithin (signature_of setting) s p (these_rules o found) c.over)

-- the count with the places in the left side of the turn's rule at which a whole-number variable stands, or a number
abbrev pub CountsTurn : {E : Type 0} → Setting → RuleSet → Turn → ℕ → Result ℕ E → Type 0
CountsTurn setting rules turn count result =
    (t : Theory) (r : RewriteRule) → Steps t setting rules → IsRuleAt t (turn_view turn) r →
    IfOk result (λ n. (left : Form) × IsFormOf t.signature r.body left × (n ≡ count + numeric_places t.signature left))

-- the same of the rules of all turns
abbrev pub CountsTurns : {E : Type 0} → Setting → RuleSet → List Turn → ℕ → Result ℕ E → Type 0
CountsTurns setting rules turns begun result =
    (t : Theory) (found : List RewriteRule) → Steps t setting rules → AllZip (IsRuleAt t) (map turn_view turns) found →
    IfOk result (λ n. (lefts : List Form) × AreLeftsOf t.signature found lefts × (n ≡ begun + sum_over (numeric_places t.signature) lefts))

-- what may be compared of the state, where the rules of these turns take from what is left to none
abbrev pub MostOfTurns : {E : Type 0} → Setting → RuleSet → List Turn → SymbolicState → Result ℕ E → Type 0
MostOfTurns setting rules turns s result =
    (t : Theory) (found : List RewriteRule) → Steps t setting rules → AllZip (IsRuleAt t) (map turn_view turns) found → IfOk result (IsMost t.signature s found)

-- and where they take from what is left to a rule of this left side
abbrev pub MostWithLeft : {E : Type 0} → Setting → RuleSet → List Turn → SymbolicState → Form → Result ℕ E → Type 0
MostWithLeft setting rules turns s left result =
    (t : Theory) (r : RewriteRule) (found : List RewriteRule) → Steps t setting rules → IsFormOf t.signature r.body left → AllZip (IsRuleAt t) (map turn_view turns) found →
    IfOk result (IsMost t.signature s (r ∷ found))

-- ---- foreign rules

-- of each step from the whole of a state, whatever the theory that the rule set is
abbrev pub OfEachStep : Setting → RuleSet → Part → (Theory → List Text → SymbolicState → Type 0) → Type 0
OfEachStep setting rules p Told = (t : Theory) (used : List Text) (s : SymbolicState) → IsStepFrom t used s setting rules (numbered_view p) → Told t used s

-- of a part that a left side meets: whether it has an instance, where the equations are true, and that the left side meets the state, if
-- it has or that is open
abbrev pub TellsMet : {E : Type 0} → KoreSignature → Part → Skeleton → MetPart → Result PartAnswer E → Type 0
TellsMet g p k met result =
    (used : List Text) (s : SymbolicState) (apart : List NumberedPart) → let left = skeleton_view k in
    IsWholeReady g used s (numbered_view p) → IsMeeting g used left (part_view p) (met_view met) met.part.next apart →
    IfOk result (IsForeignAnswer g s (with_clauses (part_view met.part) (clauses_view met.equations.items)).state left)

-- whether the foreign rule of each place whose left side this skeleton is might rewrite an instance of the whole of a state
abbrev pub TellsSkeletonMeets : {E : Type 0} → Setting → Part → Skeleton → Result PartAnswer E → Type 0
TellsSkeletonMeets setting p k result =
    (t : Theory) (used : List Text) (s : SymbolicState) (place : ℕ) → let g = signature_of setting in
    g ≡ t.signature → IsSetting used setting → IsWholeReady g used s (numbered_view p) → IsForeignAt t place k →
    IfOk result (TellsForeign t s place)

-- ---- what rules leave

-- what one more rule, which takes from them, leaves of the parts
abbrev pub LeavesWithout : {E : Type 0} → Setting → List Part → ReadSides → Result (Vec Part Global) E → Type 0
LeavesWithout setting parts sides result =
    (used : List Text) (o : Option RewriteRule) (turns : List RewriteRule) (q : RewriteRule) (m : Rewrite) (s p : StatePart) → let g = signature_of setting in
    IsSetting used setting → q.body ≡ rewrite m → AreSidesOf g m sides → AreVerifiedSides g m → TakesFrom q o → AreUntaken g used o turns s p (numbered_views parts) →
    IfOk result (λ left. AreWithout g used o turns q s p (numbered_views parts) (numbered_views left.items))

-- what the rule of one more turn leaves of the parts
abbrev pub LeavesBy : {E : Type 0} → Setting → RuleSet → Turn → Option ℕ → Vec Part Global → Result (Vec Part Global) E → Type 0
LeavesBy setting rules turn priority parts result =
    (t : Theory) (used : List Text) (o : Option RewriteRule) (found : List RewriteRule) (q : RewriteRule) (s p : StatePart) → let g = signature_of setting in
    Steps t setting rules → IsSetting used setting → IsNumberOf priority o → IsRuleAt t (turn_view turn) q → AreUntaken g used o found s p (numbered_views parts.items) →
    IfOk result (λ left. AreUntaken g used o (found ++ q ∷ []) s p (numbered_views left.items))

-- it fires on all of them, where it alone takes from them and leaves nothing
abbrev pub TakesAllBy : {E : Type 0} → Setting → RuleSet → Turn → Option ℕ → Vec Part Global → Result (Vec Part Global) E → Type 0
TakesAllBy setting rules turn priority parts result =
    (t : Theory) (used : List Text) (found : List RewriteRule) (q : RewriteRule) (s p : StatePart) → let g = signature_of setting in
    Steps t setting rules → IsSetting used setting → priority ≡ None → IsRuleAt t (turn_view turn) q → AreUntaken g used None found s p (numbered_views parts.items) →
    IfOk result (λ left. OneTakesAll g (q ∷ []) (numbered_views parts.items) (numbered_views left.items))

-- what the rules of all turns leave of the parts
abbrev pub LeavesAfter : {E : Type 0} → Setting → RuleSet → List Turn → Option ℕ → Vec Part Global → Result (Vec Part Global) E → Type 0
LeavesAfter setting rules turns priority parts result =
    (t : Theory) (used : List Text) (o : Option RewriteRule) (found : List RewriteRule) (s p : StatePart) → let g = signature_of setting in
    Steps t setting rules → IsSetting used setting → IsNumberOf priority o → AllZip (IsRuleAt t) (map turn_view turns) found → AreUntaken g used o [] s p (numbered_views parts.items) →
    IfOk result (λ left. AreUntaken g used o found s p (numbered_views left.items))

-- the rule of the only turn fires on all of them, where it leaves nothing
abbrev pub TakesAllAfter : {E : Type 0} → Setting → RuleSet → List Turn → Option ℕ → Vec Part Global → Result (Vec Part Global) E → Type 0
TakesAllAfter setting rules turns priority parts result =
    (t : Theory) (used : List Text) (found : List RewriteRule) (s p : StatePart) → let g = signature_of setting in
    Steps t setting rules → IsSetting used setting → priority ≡ None → AllZip (IsRuleAt t) (map turn_view turns) found → AreUntaken g used None [] s p (numbered_views parts.items) →
    IfOk result (λ left. OneTakesAll g found (numbered_views parts.items) (numbered_views left.items))

-- what they leave of the part to the rule of this number
abbrev pub LeavesTo : {E : Type 0} → Setting → RuleSet → List Turn → ℕ → Part → Result (Vec Part Global) E → Type 0
LeavesTo setting rules turns priority part result =
    (t : Theory) (used : List Text) (r : RewriteRule) (found : List RewriteRule) (s p : StatePart) → let g = signature_of setting in
    Steps t setting rules → IsSetting used setting → r.priority ≡ priority → AllZip (IsRuleAt t) (map turn_view turns) found → AreUntaken g used (Some r) [] s p (numbered_view part ∷ []) →
    IfOk result (λ left. AreUntaken g used (Some r) found s p (numbered_views left.items))

-- ---- turns

-- of the rule of each place that has this left side and fires so on the whole of a state
abbrev pub WhereFiringIs : Setting → Part → Skeleton → Firing → (Theory → SymbolicState → ℕ → Type 0) → Type 0
WhereFiringIs setting p k f Told =
    (t : Theory) (used : List Text) (s : SymbolicState) (place : ℕ) →
    signature_of setting ≡ t.signature → IsSetting used setting → IsWholeReady t.signature used s (numbered_view p) → IsLeftAt t place k → IsFiringOf t used s place (firing_model f) → Told t s place

-- where it is told, the rule meets the state, and it isn't known that its left side stands for no instance; where it isn't, it is known
abbrev pub TellsMayMeet : {E : Type 0} → Setting → Part → Skeleton → Firing → Result Bool E → Type 0
TellsMayMeet setting p k f result = WhereFiringIs setting p k f (λ t s place. let m = firing_model f in
    IfOk result (λ b. (IsTrue b → CanMeet t s place m) × (b ≡ false → HasNoInstance t.signature (with_clauses m.part.part m.equations))))

-- what no number of the condition is told of: there is none that leaves 128 bits, or the left side stands for no instance
abbrev pub TellsNoNumber : KoreSignature → PlacedFiring → Type 0
TellsNoNumber g f = (first_wide g (narrowed_of f).part.state ≡ None) ⊎ HasNoInstance g (with_clauses f.part.part f.equations)

-- a limit that is told is passed, and none is where there is no such number, where the narrowed state is that on which the rule fires
abbrev pub TellsWideCondition : {E : Type 0} → Setting → Part → Skeleton → Firing → State → Result (Option StepLimit) E → Type 0
TellsWideCondition setting p k f narrowed result =
    WhereFiringIs setting p k f (λ t s place. state_view narrowed ≡ (narrowed_of (firing_model f)).part.state → PassesNone t.signature s → IfOk result (λ o. MatchOption o (TellsNoNumber t.signature (firing_model f)) (λ l. IsPassed t s (limit_view l))))

-- behind these turns, of the rules that are found so far, which meet the state
abbrev pub BehindTurns : Setting → RuleSet → List Turn → Part → (Theory → List Text → SymbolicState → List RewriteRule → Type 0) → Type 0
BehindTurns setting rules turns p Told =
    (t : Theory) (used : List Text) (s : SymbolicState) (found : List RewriteRule) →
    IsSearchFrom t used s setting rules (numbered_view p) → AllZip (IsRuleAt t) (map turn_view turns) found → AllMeet t.signature s found → Told t used s found

-- the parts of the turn of the rule of this number, of the part where it fires
abbrev pub IsTurnToldBy : {E : Type 0} → ℕ → Part → Result Decided E → Theory → List Text → SymbolicState → List RewriteRule → ℕ → PlacedFiring → Type 0
IsTurnToldBy priority part result t used s found place f =
    IsPriorityAt t place priority → numbered_view part ≡ narrowed_of f → IfOk result (TellsParts t used s place found f.part.part)

-- of the rule of each place that has this left side
abbrev pub TellsTurnParts : {E : Type 0} → Setting → RuleSet → List Turn → Part → Skeleton → ℕ → Part → Result Decided E → Type 0
TellsTurnParts setting rules turns p k priority part result =
    BehindTurns setting rules turns p (λ t used s found. (place : ℕ) (f : PlacedFiring) → IsLeftAt t place k → IsFiringOf t used s place f → IsTurnToldBy priority part result t used s found place f)

-- and meets the state
abbrev pub TellsRemainingParts : {E : Type 0} → Setting → RuleSet → List Turn → Part → Skeleton → ℕ → Part → Result Decided E → Type 0
TellsRemainingParts setting rules turns p k priority part result =
    BehindTurns setting rules turns p (λ t used s found. (place : ℕ) (f : PlacedFiring) → IsLeftAt t place k → (i : IsFiringOf t used s place f) → MeetsRule t.signature s i.rule.body → IsTurnToldBy priority part result t used s found place f)

-- the turn of the rule that is read at the place, if these parts are some
abbrev pub MakesTurn : ℕ → ℕ → Vec Part Global → Vec Replaced Global → Tried → Type 0
MakesTurn place priority parts bindings made =
    (t : Theory) (used : List Text) (s : SymbolicState) (earlier : List PlacedTurn) (found : List RewriteRule) (m : Rewrite) (p : StatePart) →
    AllZip (IsRuleAt t) earlier found → IsSortedState t.signature s → AllMeet t.signature s found → IsReadAs t place m → IsPriorityAt t place priority → IsMetIn t m (map replaced_view bindings.items) p →
    AreTurnParts t used s place found p (numbered_views parts.items) → TellsTurn t used s earlier place made

-- what is found of the rule of the place, behind these turns
abbrev pub TriesRule : {E : Type 0} → Setting → RuleSet → List Turn → Part → ℕ → Result Tried E → Type 0
TriesRule setting rules turns p place result = BehindTurns setting rules turns p (λ t used s found. IfOk result (TellsTurn t used s (map turn_view turns) place))

-- the same where the place's rule is read, with these sides
abbrev pub TriesSides : {E : Type 0} → Setting → RuleSet → List Turn → Part → ℕ → ReadSides → Result Tried E → Type 0
TriesSides setting rules turns p place sides result =
    BehindTurns setting rules turns p (λ t used s found. (m : Rewrite) → IsReadAs t place m → AreSidesOf t.signature m sides → AreVerifiedSides t.signature m →
    IfOk result (TellsTurn t used s (map turn_view turns) place))

-- of a rule that is tried: unless the step ends with a limit, no number of its condition is wide
abbrev pub IsBehindNumber : Theory → SymbolicState → ℕ → Tried → Type 0
IsBehindNumber t s place (tried.Ended (outcome.Limited l)) = ⊤
IsBehindNumber t s place x = (r : RewriteRule) → IsAt t place r → HasNoWideCondition t s r

-- the same where the place's rule has this left side and fires so
abbrev pub TriesFiring : {E : Type 0} → Setting → RuleSet → List Turn → Part → ℕ → Skeleton → Firing → Result Tried E → Type 0
TriesFiring setting rules turns p place k f result =
    BehindTurns setting rules turns p (λ t used s found. IsLeftAt t place k → IsFiringOf t used s place (firing_model f) →
    IfOk result (λ x. TellsTurn t used s (map turn_view turns) place x × IsBehindNumber t s place x))

-- ---- what follows

-- the state that follows from a part, before its equations are solved
abbrev pub following_state : KoreSignature → StatePart → ReadSides → List terms.Replaced → List SortedName → KoreSort → SymbolicState
following_state g p sides bindings new s = constrained (moved_state g p bindings new s (view sides.right)) (condition_clauses g bindings (map view sides.ensured.items))

-- of each part in which a rule that is read so fires on each instance, what its variables stand for being these
abbrev pub WhereItFires : Setting → Part → code.Rewrite → List Replaced → (KoreSignature → List Text → Rewrite → StatePart → Type 0) → Type 0
WhereItFires setting part rule bindings Told =
    (t : Theory) (used : List Text) (m : Rewrite) (s p : StatePart) → let g = signature_of setting in
    g ≡ t.signature → IsSetting used setting → IsReadBy g m rule → IsMetIn t m (map replaced_view bindings) p → IsPartIn g used s p (numbered_view part) →
    OfEachInstance g (part_view part) (λ w c. Fires g (rewrite m) c) → Told g used m s

-- the state that follows from the part
abbrev pub FollowsFrom : {E : Type 0} → Setting → Part → code.Rewrite → List Replaced → Result Following E → Type 0
FollowsFrom setting part rule bindings result =
    WhereItFires setting part rule bindings (λ g used m s. IfOk result (λ f. IsNextOf g used s (rewrite m) (part_view part) (state_view f.state) f.next))

-- the same where the sorts of the rule's new variables have values
abbrev pub FollowsWhereValued : {E : Type 0} → Setting → Part → code.Rewrite → List Replaced → Result Following E → Type 0
FollowsWhereValued setting part rule bindings result =
    WhereItFires setting part rule bindings (λ g used m s. IfOk result (λ f. AllByRecursion (λ x. HasValue g x.sort) m.new_variables → IsNextOf g used s (rewrite m) (part_view part) (state_view f.state) f.next))

-- the same of a next state with its part
abbrev pub NextFollowsFrom : {E : Type 0} → Setting → Part → code.Rewrite → List Replaced → Result Next E → Type 0
NextFollowsFrom setting part rule bindings result =
    WhereItFires setting part rule bindings (λ g used m s. IfOk result (λ n. IsNextOf g used s (rewrite m) (part_view part) (state_view n.state) n.next))

-- the next states of the turn's parts
abbrev pub AreNextsAt : Theory → List Text → StatePart → Turn → Vec Next Global → Type 0
AreNextsAt t used s k ns = AllZip (IsNextAt t used s (turn_view k)) (numbered_views k.parts.items) (map next_view ns.items)

-- these follow by the rule that is read at the turn's place
abbrev pub FollowsInTurn : {E : Type 0} → Setting → Turn → code.Rewrite → Result (Vec Next Global) E → Type 0
FollowsInTurn setting turn rule result =
    (t : Theory) (used : List Text) (s : StatePart) → signature_of setting ≡ t.signature → IsSetting used setting →
    IsTurnAt t used s (turn_view turn) → IsReadAt t turn.place rule → IfOk result (AreNextsAt t used s turn)

-- these follow by the rule of the turn's place
abbrev pub FollowsAtTurn : {E : Type 0} → Setting → RuleSet → Turn → Result (Vec Next Global) E → Type 0
FollowsAtTurn setting rules turn result =
    (t : Theory) (used : List Text) (s : StatePart) → Steps t setting rules → IsSetting used setting → IsTurnAt t used s (turn_view turn) → IfOk result (AreNextsAt t used s turn)

-- the next states of all turns, one after the other
abbrev pub FollowsInTurns : {E : Type 0} → Setting → RuleSet → List Turn → Result (Vec Next Global) E → Type 0
FollowsInTurns setting rules turns result =
    (t : Theory) (used : List Text) (s : StatePart) → Steps t setting rules → IsSetting used setting → AllByRecursion (IsTurnAt t used s) (map turn_view turns) →
    IfOk result (λ ns. AreNextsOf t used s (map turn_view turns) (map next_view ns.items))

-- the part with its equations solved, where a rule can be tried on it
abbrev pub SettlesPart : KoreSignature → List Text → Part → Part → Type 0
SettlesPart g used old new = IsReadyPart g used (numbered_view old) → IsSolvedPart g used (numbered_view old) (numbered_view new)

-- the same of each
abbrev pub SettlesParts : KoreSignature → List Text → Vec Part Global → Vec Part Global → Type 0
SettlesParts g used old new = AllByRecursion (IsReadyPart g used) (numbered_views old.items) → AllZip (IsSolvedPart g used) (numbered_views old.items) (numbered_views new.items)

-- ---- a step

-- a step from a state is right, whatever the theory that the rule set is
abbrev pub StepsFrom : {E : Type 0} → Setting → RuleSet → SymbolicState → ℕ → Result StepOutcome E → Type 0
StepsFrom setting rules s next result =
    (t : Theory) (used : List Text) → Steps t setting rules → IsSetting used setting → IsReadyState t.signature used s next → IfOk result (IsRightStep t used s)

-- the same, where the state has an instance
abbrev pub StepsFromInstance : {E : Type 0} → Setting → RuleSet → SymbolicState → ℕ → Result StepOutcome E → Type 0
StepsFromInstance setting rules s next result =
    (t : Theory) (used : List Text) → Steps t setting rules → IsSetting used setting → IsReadyState t.signature used s next → HasInstance t.signature (whole s) →
    IfOk result (IsRightStep t used s)

-- the same, where the state's clauses aren't decided and these are shown
abbrev pub StepsFromUndecided : {E : Type 0} → Setting → SymbolicState → UndecidedClauses → Result StepOutcome E → Type 0
StepsFromUndecided setting s told result =
    (t : Theory) (used : List Text) → signature_of setting ≡ t.signature → IsTold t.signature (whole s) → IsRightUndecided t.signature s told → IfOk result (IsRightStep t used s)

-- the same, where no foreign rule might rewrite an instance
abbrev pub OfEachSearch : Setting → RuleSet → Part → (Theory → List Text → SymbolicState → Type 0) → Type 0
OfEachSearch setting rules p Told = (t : Theory) (used : List Text) (s : SymbolicState) → IsSearchFrom t used s setting rules (numbered_view p) → Told t used s

-- each step from the whole of a state is right, where that has an instance
abbrev pub StepsByRules : {E : Type 0} → Setting → RuleSet → Part → Result StepOutcome E → Type 0
StepsByRules setting rules p result = OfEachStep setting rules p (λ t used s. HasInstance t.signature (whole s) → IfOk result (IsRightStep t used s))

-- the same, where no foreign rule might rewrite an instance
abbrev pub StepsBySearch : {E : Type 0} → Setting → RuleSet → Part → Result StepOutcome E → Type 0
StepsBySearch setting rules p result =
    OfEachSearch setting rules p (λ t used s. HasInstance t.signature (whole s) → IfOk result (IsRightStep t used s))

-- the same, where these are the turns of all rules
abbrev pub StepsByTurns : {E : Type 0} → Setting → RuleSet → Part → List Turn → Result StepOutcome E → Type 0
StepsByTurns setting rules p turns result =
    OfEachSearch setting rules p (λ t used s. HasInstance t.signature (whole s) → AreAllFound t used (whole s) (map turn_view turns) → IfOk result (IsRightStep t used s))

-- the same, where these are the parts that remain
abbrev pub StepsByCases : {E : Type 0} → Setting → RuleSet → List Turn → Vec Part Global → Result StepOutcome E → Type 0
StepsByCases setting rules turns remainder result =
    (t : Theory) (used : List Text) (s : SymbolicState) (found : List RewriteRule) →
    Steps t setting rules → IsSetting used setting → HasInstance t.signature (whole s) → PassesNone t.signature s → OfEachInstance t.signature (whole s) (λ w c. ¬ IsUnknown t c) →
    AreAllFound t used (whole s) (map turn_view turns) → AllZip (IsRuleAt t) (map turn_view turns) found →
    AreRemaining t used s found (numbered_views remainder.items) → IfOk result (IsRightStep t used s)

-- the parts that the rules of these turns leave
abbrev pub LeavesRemainder : {E : Type 0} → Setting → RuleSet → Part → List Turn → Result Decided E → Type 0
LeavesRemainder setting rules p turns result = BehindTurns setting rules turns p (λ t used s found. HasInstance t.signature (whole s) → IfOk result (TellsRemainder t used s found))
