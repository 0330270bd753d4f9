-- What the code finds of parts and rules, and when that is right.
use Rattle.std.specs.Prelude.{◌≡◌, ◌⊎◌, ◌<◌, ℕ, take, get_or, length, List, [], ◌++◌, ◌∷◌, Option, Some, None, map, ⊤}
use Rattle.std.specs.List.{AllByRecursion, Contains}
use Rattle.kp_kore.specs.Syntax.{Text}
use Rattle.kp_kore.specs.Signature.{KoreSignature}
use Rattle.kp_kore.specs.Rules.{RewriteRule, ForeignLeft, foreign_rule}
use Rattle.kp_kore.specs.Theory.{Theory}
use Rattle.kp_kore.specs.Steps.{Fires, HasTurn, IsUnknownBy, IsUnknown}
use Rattle.kp_symbolic.specs.States.{Literal, SymbolicState}
use Rattle.kp_symbolic.specs.Plain.{rough_clauses}
use Rattle.kp_symbolic.specs.Verdicts.{Weighed, undecided, IsStateUndecided, IsTooHeavy, IsRightVerdict}
use Rattle.kp_satisfiability.specs.Answers.{IsWeighedAs}
use Rattle.kp_satisfiability.specs.Read.{HasSortedClauses}
use Rattle.kp_rules.specs.Skeletons.{Form}
use Rattle.kp_symbolic.specs.View.{clauses_view, replaced_view}
use Rattle.kp_case_laws.specs.Parts.{StatePart, whole, OfEachInstance}
use Rattle.kp_case_laws.specs.Firing.{HasNoInstance}
use Rattle.kp_unify.specs.Narrowed.{NumberedPart}
use Rattle.kp_unify.specs.Views.{numbered_view}
use Rattle.kp_overlap.specs.Overlaps.{MeetsForm}
use Rattle.kp_step.specs.Counted.{most_for, IsCounted, IsComparedWithin}
use Rattle.kp_step.specs.declared.firing.Firing.{Firing}
use Rattle.kp_step.specs.Places.{IsAt}
use Rattle.kp_step.specs.ReadyParts.{HasInstance, parts_of}
use Rattle.kp_step.specs.Remainders.{AreUntaken, AreKept}
use Rattle.kp_step.specs.Found.{PlacedTurn, IsTurnAt, AreTriedBefore, AreAllFound}
use Rattle.kp_step.specs.Tries.{PlacedFiring, AreTurnParts, AreRemaining}
use Rattle.kp_step.specs.Causes.{AreAllBefore, IsUndecidedStep, MeetsForeign}
use Rattle.kp_step.specs.Views.{numbered_views, turn_view}
use Rattle.kp_step.specs.RightSteps.{IsToldUndecided, IsRightStep}
use Rattle.kp_step.specs.declared.part_answers.UndecidedClauses.{UndecidedClauses}
use Rattle.kp_step.specs.declared.foreign.UndecidedRule.{UndecidedRule}
use Rattle.kp_step.specs.declared.part_answers.PartAnswer as answers
use Rattle.kp_step.specs.declared.part_answers.PartAnswer.TheVariants as answer
use Rattle.kp_step.specs.declared.part_answers.Decided as decisions
use Rattle.kp_step.specs.declared.part_answers.Decided.TheVariants as decided
use Rattle.kp_step.specs.declared.turns.Tried as trials
use Rattle.kp_step.specs.declared.turns.Tried.TheVariants as tried
use Rattle.kp_step.specs.declared.turns.Searched as searches
use Rattle.kp_step.specs.declared.turns.Searched.TheVariants as searched
use Rattle.kp_step.specs.declared.outcome.StepOutcome.{StepOutcome}

-- ---- parts

-- the clauses of the part are left undecided, and these are told
abbrev pub IsRightUndecided : KoreSignature → SymbolicState → UndecidedClauses → Type 0
IsRightUndecided g p o = (h : Option Weighed) × IsWeighedAs h o.over × IsRightVerdict g p (undecided (clauses_view o.shown.items) h)

-- what is shown of a part that isn't decided, whether or not the state has an instance: where the part passes a weight, the state's
-- own clauses that aren't plain, if there are any
abbrev pub IsShownBeside : KoreSignature → SymbolicState → SymbolicState → List (List Literal) → Option Weighed → Type 0
IsShownBeside g s p shown None = IsStateUndecided g p shown
    ⊎ ((h : Weighed) × (all : List (List Literal)) × IsTooHeavy g p all h × (¬ (rough_clauses g s ≡ [])) × (shown ≡ rough_clauses g s))
IsShownBeside g s p shown (Some h) = IsTooHeavy g p shown h × (rough_clauses g s ≡ [])

-- these are shown of the part p of the state s
abbrev pub ShowsOf : KoreSignature → SymbolicState → SymbolicState → UndecidedClauses → Type 0
ShowsOf g s p o = (h : Option Weighed) × IsWeighedAs h o.over × IsShownBeside g s p (clauses_view o.shown.items) h

abbrev pub IsRightAnswerOf : KoreSignature → SymbolicState → SymbolicState → answers.PartAnswer → Type 0
IsRightAnswerOf g s p answer.Instance = HasInstance g (whole p)
IsRightAnswerOf g s p answer.Nothing = HasNoInstance g (whole p)
IsRightAnswerOf g s p (answer.UndecidedClauses o) = ShowsOf g s p o

-- what is answered of a state alone
abbrev pub IsRightAnswerAlone : KoreSignature → SymbolicState → answers.PartAnswer → Type 0
IsRightAnswerAlone g s answer.Instance = HasInstance g (whole s)
IsRightAnswerAlone g s answer.Nothing = HasNoInstance g (whole s)
IsRightAnswerAlone g s (answer.UndecidedClauses o) = IsRightUndecided g s o

-- the left side meets the state where the part has an instance
abbrev pub AreMet : KoreSignature → SymbolicState → Form → SymbolicState → Type 0
AreMet g s left p = OfEachInstance g (whole p) (λ w c. MeetsForm g s.sort s.term left)

-- what is answered of such a part: where it has an instance, or that is open, the left side meets the state
pub record IsMetAnswer (g : KoreSignature) (s p : SymbolicState) (left : Form) (a : answers.PartAnswer) : Type 0 where
  pub right : IsRightAnswerOf g s p a
  pub meets : ¬ (a ≡ answer.Nothing) → MeetsForm g s.sort s.term left

abbrev pub TellsWhereMet : KoreSignature → SymbolicState → SymbolicState → Form → answers.PartAnswer → Type 0
TellsWhereMet g s p left a = HasSortedClauses g p → AreMet g s left p → IsMetAnswer g s p left a

-- where it is left open with a weight, it compares no more whole-number variables than so many
abbrev pub IsCountedAnswer : KoreSignature → SymbolicState → ℕ → answers.PartAnswer → Type 0
IsCountedAnswer g p most (answer.UndecidedClauses o) = IsCounted g p most o.over
IsCountedAnswer g p most a = ⊤

-- what is answered where a foreign rule's left side is met
abbrev pub IsForeignAnswer : KoreSignature → SymbolicState → SymbolicState → Form → answers.PartAnswer → Type 0
IsForeignAnswer g s p left a = IsMetAnswer g s p left a × IsCountedAnswer g p (most_for g s (left ∷ [])) a

-- those of the parts that these rules leave that have an instance, or what is shown of one of them
abbrev pub AreDecided : KoreSignature → SymbolicState → List RewriteRule → List NumberedPart → decisions.Decided → Type 0
AreDecided g s rules ps (decided.Parts ks) = AreKept g ps (numbered_views ks.items)
AreDecided g s rules ps (decided.UndecidedClauses o) = (q : NumberedPart) × Contains ps q × ShowsOf g s q.part.state o × IsComparedWithin g s q.part.state rules o.over

-- ---- what rules leave

-- Without the instances on which the rule q fires; where none is left, it fires on each.
pub record AreWithout (g : KoreSignature) (used : List Text) (o : Option RewriteRule) (turns : List RewriteRule) (q : RewriteRule) (s m : StatePart) (parts left : List NumberedPart) : Type 0 where
  pub are_left : AreUntaken g used o (turns ++ q ∷ []) s m left
  pub everywhere : AllByRecursion (HasNoInstance g) (parts_of left) → AllByRecursion (λ p. OfEachInstance g p (λ w c. Fires g q.body c)) (parts_of parts)

-- ---- rules

-- what is told of the foreign rule of the place: that it might rewrite an instance, none, or what is left open
abbrev pub TellsForeign : Theory → SymbolicState → ℕ → answers.PartAnswer → Type 0
TellsForeign t s place answer.Instance = (r : RewriteRule) × IsAt t place r × MeetsForeign t s r
TellsForeign t s place answer.Nothing = (r : RewriteRule) → IsAt t place r → OfEachInstance t.signature (whole s) (λ w c. ¬ IsUnknownBy t.signature r.body c)
TellsForeign t s place (answer.UndecidedClauses o) = (r : RewriteRule) × IsAt t place r × (h : Option Weighed) × IsWeighedAs h o.over × IsUndecidedStep t s (Some r) (clauses_view o.shown.items) h × (l : ForeignLeft) × (r.body ≡ foreign_rule l)

-- what is left open of the foreign rule of a place
abbrev pub IsUndecidedAt : Theory → SymbolicState → UndecidedRule → Type 0
IsUndecidedAt t s o = (r : RewriteRule) × IsAt t o.place r × (h : Option Weighed) × IsWeighedAs h o.told.over × IsUndecidedStep t s (Some r) (clauses_view o.told.shown.items) h × (l : ForeignLeft) × (r.body ≡ foreign_rule l)

-- the rule of the place is foreign and might rewrite no instance, where it is
abbrev pub RewritesNone : Theory → SymbolicState → ℕ → Type 0
RewritesNone t s i = (r : RewriteRule) → IsAt t i r → OfEachInstance t.signature (whole s) (λ w c. ¬ IsUnknownBy t.signature r.body c)

-- it stands at one of these places, and none before it might rewrite an instance
pub record StandsFirst (t : Theory) (s : SymbolicState) (places : List ℕ) (x : UndecidedRule) : Type 0 where
  pub number : ℕ
  pub within : number < length places
  pub place : x.place ≡ get_or places number x.place
  pub before : AllByRecursion (RewritesNone t s) (take number places)

-- of those asked so far at these places, so many: none is left open and none might rewrite an instance, or before the first that is
abbrev pub IsFirstLeftOpen : Theory → SymbolicState → List ℕ → ℕ → List UndecidedRule → Type 0
IsFirstLeftOpen t s places i [] = AllByRecursion (RewritesNone t s) (take i places)
IsFirstLeftOpen t s places i (x ∷ xs) = StandsFirst t s places x

-- of those that are left open the first is told
abbrev pub TellsFirst : Theory → SymbolicState → List UndecidedRule → Type 0
TellsFirst t s [] = ⊤
TellsFirst t s (x ∷ xs) = IsToldUndecided t s (clauses_view x.told.shown.items) x.told.over (Some x.place)

-- of each foreign rule: none might rewrite an instance, or the step ends
abbrev pub TellsKnown : Theory → List Text → SymbolicState → Option StepOutcome → Type 0
TellsKnown t used s None = OfEachInstance t.signature (whole s) (λ w c. ¬ IsUnknown t c)
TellsKnown t used s (Some o) = IsRightStep t used s o

-- the rule of the place has no turn, or this one, beside those that were found before; or the step ends, where all that go before
-- were tried
abbrev pub TellsTurn : Theory → List Text → SymbolicState → List PlacedTurn → ℕ → trials.Tried → Type 0
TellsTurn t used s turns place tried.NoTurn = (r : RewriteRule) → IsAt t place r → OfEachInstance t.signature (whole s) (λ w c. ¬ HasTurn t r c)
TellsTurn t used s turns place (tried.Turn k) =
    (k.place ≡ place) × (i : IsTurnAt t used (whole s) (turn_view k)) × AllByRecursion (λ n. (r : RewriteRule) → IsAt t n.place r → Contains i.before r) turns
TellsTurn t used s turns place (tried.Ended o) = AreTriedBefore t (whole s) turns place → IsRightStep t used s o

-- the turns of all rules are found, or the step ends
abbrev pub TellsTurns : Theory → List Text → SymbolicState → searches.Searched → Type 0
TellsTurns t used s (searched.Found turns) = AreAllFound t used (whole s) (map turn_view turns.items)
TellsTurns t used s (searched.Ended o) = IsRightStep t used s o

-- the parts of a rule's turn, or what is left open of one, where those found are all that go before
abbrev pub TellsParts : Theory → List Text → SymbolicState → ℕ → List RewriteRule → StatePart → decisions.Decided → Type 0
TellsParts t used s place found m (decided.Parts ks) = AreTurnParts t used s place found m (numbered_views ks.items)
TellsParts t used s place found m (decided.UndecidedClauses o) = (r : RewriteRule) × IsAt t place r × (h : Option Weighed) × IsWeighedAs h o.over × (AreAllBefore t s (Some r) found → IsUndecidedStep t s (Some r) (clauses_view o.shown.items) h)

-- the parts where none of the rules found fires, or what is left open of one, where those found are all
abbrev pub TellsRemainder : Theory → List Text → SymbolicState → List RewriteRule → decisions.Decided → Type 0
TellsRemainder t used s found (decided.Parts ks) = AreRemaining t used s found (numbered_views ks.items)
TellsRemainder t used s found (decided.UndecidedClauses o) = (h : Option Weighed) × IsWeighedAs h o.over × (AreAllBefore t s None found → IsUndecidedStep t s None (clauses_view o.shown.items) h)

-- what the code's firing of a rule is
abbrev pub firing_model : Firing → PlacedFiring
firing_model f = record {
  part = numbered_view f.part;
  equations = clauses_view f.equations.items;
  condition = clauses_view f.condition.items;
  bindings = map replaced_view f.bindings.items;
  apart = parts_of (numbered_views f.apart.items);
}
