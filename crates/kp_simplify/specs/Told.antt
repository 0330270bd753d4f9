-- What the code's answer of simplify, or its refusal, says of the pattern.
-- Source: the K Haskell backend's JSON-RPC documentation (simplify).
use Rattle.std.specs.Prelude.{◌≡◌, ◌≢◌, ◌↔◌, List, Option, Some, None, min, option_map, string_bytes, ⊤}
use Rattle.kp_kore.specs.Syntax.{KorePattern}
use Rattle.kp_kore.specs.Parts.{free_variables}
use Rattle.kp_kore.specs.Signature.{KoreSignature, injection, meaning_of}
use Rattle.kp_kore.specs.View.{view}
use Rattle.kp_kore.specs.Value.{Value}
use Rattle.kp_kore.specs.Instance.{Valuation, GivesSorts, IsInstance}
use Rattle.kp_kore.specs.Implied as theory
use Rattle.kp_kore.specs.Implied.{state, nothing}
use Rattle.kp_results.specs.Results as parts
use Rattle.kp_results.specs.View.{undecided_view}
use Rattle.kp_clauses.specs.Faults.{state_fault, foreign_symbol, other_shape}
use Rattle.kp_compile.specs.Spelled.{injection_name}
use Rattle.kp_symbolic.specs.States.{Literal, SymbolicState, IsStateInstance}
use Rattle.kp_symbolic.specs.WellFormed.{AreAtHand}
use Rattle.kp_symbolic.specs.Writing.{InjectsWhereItStands}
use Rattle.kp_symbolic.specs.Solving.{IsReadAs}
use Rattle.kp_symbolic.specs.Shown.{unknown_clauses, weight_passed, wide_number}
use Rattle.kp_symbolic.specs.Verdicts.{Weighed, some_valuation, undecided, IsRightVerdict}
use Rattle.kp_symbolic.specs.Endings.{Result, answered, what_is_undecided, IsRightOfSimplify, IsSimplifyFloorKept}
use Rattle.kp_symbolic_laws.specs.Runs.{IsSoundState}
use Rattle.kp_outward.specs.Errors.{InjectsIfThere}
use Rattle.kp_limits.specs.Wide.{WideCall, first_wide}
use Rattle.kp_simplify.specs.Spelled.{parts_of_cause, part_of_weight}
use Rattle.kp_simplify.specs.Answers.{IsAnswer, first_deep, state_sides}
use Rattle.kp_simplify.specs.declared.answer.Simplified.{Simplified}
use Rattle.kp_simplify.specs.declared.answer.Simplified.TheVariants as found
use Rattle.kp_simplify.specs.declared.simplify_pattern.SimplifyError.{SimplifyError}
use Rattle.kp_simplify.specs.declared.simplify_pattern.SimplifyError.TheVariants as error

-- ---- the answer of a state

-- how a call that leaves 128 bits is told
abbrev pub parts_of_call : WideCall → parts.Undecided
parts_of_call c = parts_of_cause (wide_number c.symbol c.first c.second)

-- how a weight that is passed is told
abbrev pub parts_of_weight : Weighed → parts.Limit
parts_of_weight h = parts.weighed (part_of_weight h.weight) (min h.number 18446744073709551615)

-- the code's answer is this one; \bottom is told without its sort
abbrev pub IsToldAs : Result theory.Simplified → Simplified → Type 0
IsToldAs (answered (state p)) (found.State q) = p ≡ view q.value
IsToldAs (answered (nothing s)) found.Nothing = ⊤
IsToldAs (what_is_undecided cause) (found.UndecidedStep u) = undecided_view u ≡ parts_of_cause cause
IsToldAs r a = ⊥

-- the predicate is shown, with the weight that is passed
abbrev pub ShowsPredicate : KorePattern → Option Weighed → Simplified → Type 0
ShowsPredicate p h (found.UndecidedStep u) = undecided_view u ≡ parts.predicate p (option_map parts_of_weight h)
ShowsPredicate p h a = ⊥

-- The pattern that is written for a state: inj stands in it only where it is what it should be; where the state's literals are
-- written right, it has the state's instances, and no variables but those at hand.
pub record IsSpelledState (g : KoreSignature) (s : SymbolicState) (p : KorePattern) : Type 0 where
  pub injects : InjectsWhereItStands g p
  pub instances : IsSoundState g s → (v : Valuation) (u : Value) → GivesSorts g v s.variables → IsInstance g v p u ↔ IsStateInstance g v s u
  pub variables : IsSoundState g s → AreAtHand (free_variables p) s.variables

abbrev pub IsSpelled : KoreSignature → SymbolicState → Result theory.Simplified → Type 0
IsSpelled g s (answered (state p)) = IsSpelledState g s p
IsSpelled g s r = ⊤

-- the code's answer is one of the state; a state that is told is spelled right
pub record IsAnswered (g : KoreSignature) (s : SymbolicState) (a : Simplified) : Type 0 where
  pub answer : Result theory.Simplified
  pub is : IsAnswer g s answer
  pub is_told : IsToldAs answer a
  pub spelled : IsSpelled g s answer

-- ---- the answer of a pattern

-- a right answer, which leaves no pattern undecided that must be decided: that of the state that the pattern is read as
pub record IsFound (g : KoreSignature) (p : KorePattern) (a : Simplified) : Type 0 where
  pub read_as : SymbolicState
  pub read : IsReadAs g p read_as
  pub answer : Result theory.Simplified
  pub is : IsAnswer g read_as answer
  pub is_told : IsToldAs answer a
  pub right : IsRightOfSimplify g p answer
  pub floor : IsSimplifyFloorKept g p answer

-- ---- refusals

-- the state, or the predicate of what isn't decided, that an answer would tell
abbrev pub pattern_in : Result theory.Simplified → Option KorePattern
pattern_in (answered (state p)) = Some p
pattern_in (what_is_undecided (unknown_clauses p)) = Some p
pattern_in (what_is_undecided (weight_passed p w n)) = Some p
pattern_in r = None

-- in an answer of the state an inj would stand that the signature hasn't
pub record WantsInjection (g : KoreSignature) (s : SymbolicState) : Type 0 where
  pub answer : Result theory.Simplified
  pub is : IsAnswer g s answer
  pub wants : ¬ InjectsIfThere g (pattern_in answer)

-- it would, where these clauses are shown
abbrev pub WantsInjectionFor : KoreSignature → SymbolicState → List (List Literal) → Type 0
WantsInjectionFor g s cs = (h : Option Weighed) → IsRightVerdict g s (undecided cs h) → WantsInjection g s

-- it would, where the state itself is told
abbrev pub WantsInjectionAsState : KoreSignature → SymbolicState → Type 0
WantsInjectionAsState g s = IsRightVerdict g s some_valuation → first_wide g s ≡ None → first_deep g (state_sides s) ≡ None → WantsInjection g s

-- the same of an answer of the pattern: of the state that it is read as
pub record LacksInjection (g : KoreSignature) (p : KorePattern) : Type 0 where
  pub read_as : SymbolicState
  pub read : IsReadAs g p read_as
  pub wants : WantsInjection g read_as

-- it is told that inj is wanted
abbrev pub TellsNoInjection : SimplifyError → Type 0
TellsNoInjection e = e ≡ error.NoInjection

-- T1 and T2 tell the first thing that has no place in a state; what can't be written lacks inj; want of memory tells nothing
abbrev pub IsUnsimplified : KoreSignature → KorePattern → SimplifyError → Type 0
IsUnsimplified g p error.Memory = ⊤
IsUnsimplified g p (error.ForeignSymbol name) = state_fault g p ≡ Some (foreign_symbol (string_bytes name))
IsUnsimplified g p error.OtherShape = state_fault g p ≡ Some other_shape
IsUnsimplified g p error.NoInjection = meaning_of g injection_name ≢ injection
