-- How the answer of implies is told.
-- Source: the K Haskell backend's JSON-RPC documentation (implies); the form of code 5 is this project's.
use Rattle.std.specs.Prelude.{◌≡◌, ◌≢◌, List, Option, Some, None, ⊤, option_map}
use Rattle.kp_kore.specs.Syntax.{KoreSort, KorePattern, top, bottom}
use Rattle.kp_kore.specs.Signature.{KoreSignature, injection, meaning_of}
use Rattle.kp_compile.specs.Spelled.{injection_name}
use Rattle.kp_kore.specs.View.{view}
use Rattle.kp_kore.specs.Implied.{Implied, not_valid, valid}
use Rattle.kp_results.specs.Results as parts
use Rattle.kp_results.specs.View.{undecided_view}
use Rattle.kp_symbolic.specs.States.{Atom, Literal}
use Rattle.kp_symbolic.specs.Writing.{InjectsWhereItStands}
use Rattle.kp_implies.specs.Printed.{joined_atoms}
use Rattle.kp_symbolic.specs.Shown.{wide_number, Undecided as Cause}
use Rattle.kp_symbolic.specs.Verdicts.{Weighed}
use Rattle.kp_limits.specs.Wide.{WideCall}
use Rattle.kp_symbolic.specs.Endings.{Result, answered, what_is_undecided, IsPredicateOf}
use Rattle.kp_simplify.specs.Spelled.{parts_of_cause}
use Rattle.kp_simplify.specs.Told.{parts_of_weight}
use Rattle.kp_implies.specs.declared.answer.Implication.{Implication}
use Rattle.kp_implies.specs.declared.answer.Implication.TheVariants.{NotValid, Valid, Vacuous, Undecided}
use Rattle.kp_implies.specs.declared.answer.ImpliesError.{ImpliesError}
use Rattle.kp_implies.specs.declared.answer.ImpliesError.TheVariants as error

-- the code's answer is this one; \top and \bottom are told without their sort
abbrev pub IsToldAs : Result Implied → Implication → Type 0
IsToldAs (answered not_valid) NotValid = ⊤
IsToldAs (answered (valid p q)) (Valid k) = ((s : KoreSort) × (p ≡ top s)) × (q ≡ view k.value)
IsToldAs (answered (valid p q)) Vacuous = (s : KoreSort) × (p ≡ bottom s) × (q ≡ top s)
IsToldAs (what_is_undecided cause) (Undecided u) = undecided_view u ≡ parts_of_cause cause
IsToldAs r a = ⊥

-- it is this cause
abbrev pub TellsCause : Cause → Implication → Type 0
TellsCause cause (Undecided u) = undecided_view u ≡ parts_of_cause cause
TellsCause cause a = ⊥

-- it is this call of two numbers
abbrev pub TellsCall : WideCall → Implication → Type 0
TellsCall x a = TellsCause (wide_number x.symbol x.first x.second) a

abbrev pub ShowsWide : Option WideCall → Option Implication → Type 0
ShowsWide (Some x) (Some a) = TellsCall x a
ShowsWide None None = ⊤
ShowsWide o p = ⊥

-- the predicate is shown, with the weight that is passed
abbrev pub ShowsPredicate : KorePattern → Option Weighed → Implication → Type 0
ShowsPredicate q h (Undecided u) = undecided_view u ≡ parts.predicate q (option_map parts_of_weight h)
ShowsPredicate q h a = ⊥

-- that of these clauses is
abbrev pub ShowsClauses : KoreSignature → KoreSort → List (List Literal) → Option Weighed → Implication → Type 0
ShowsClauses g sort cs h a = (q : KorePattern) × IsPredicateOf g sort cs q × ShowsPredicate q h a

-- it is valid, with what is written for these equalities; an inj stands in it only where it is what it should be
abbrev pub IsWrittenFor : KoreSignature → KoreSort → List Atom → Implication → Type 0
IsWrittenFor g sort all (Valid k) = (joined_atoms g sort all ≡ view k.value) × InjectsWhereItStands g (joined_atoms g sort all)
IsWrittenFor g sort all a = ⊥

-- ---- refusals

-- an inj would have to be written, and the signature hasn't one; want of memory tells nothing
abbrev pub IsUnanswered : KoreSignature → ImpliesError → Type 0
IsUnanswered g error.Memory = ⊤
IsUnanswered g error.NoInjection = meaning_of g injection_name ≢ injection
