-- Where an inj would stand in what is written for the end of a run, that isn't what it should be.
-- Source: this project.
use Rattle.std.specs.Prelude.{◌≡◌, List}
use Rattle.kp_kore.specs.Syntax.{KoreSort, KorePattern}
use Rattle.kp_kore.specs.Signature.{KoreSignature}
use Rattle.kp_kore.specs.Steps.{AnyByRecursion}
use Rattle.kp_kore.specs.Theory.{Theory}
use Rattle.kp_kore.specs.Executions.{Options}
use Rattle.kp_symbolic.specs.States.{Literal, SymbolicState}
use Rattle.kp_symbolic.specs.Writing.{InjectsWhereItStands, written_term, written_predicate}
use Rattle.kp_symbolic.specs.View.{clauses_view, state_view}
use Rattle.kp_case_laws.specs.Parts.{StatePart}
use Rattle.kp_outward.specs.Arranged.{AreArranged}
use Rattle.kp_outward.specs.Errors.{InjectsIfThere}
use Rattle.kp_unify.specs.Views.{part_view}
use Rattle.kp_unify.specs.declared.part.Part.{Part}
use Rattle.kp_step.specs.declared.outcome.Next.{Next}
use Rattle.kp_step.specs.declared.outcome.StepOutcome.{StepOutcome}
use Rattle.kp_step.specs.declared.outcome.StepOutcome.TheVariants.{Undecided}
use Rattle.kp_execute.specs.declared.answer.ExecuteError.{ExecuteError}
use Rattle.kp_execute.specs.declared.answer.ExecuteError.TheVariants.{NoInjection}
use Rattle.kp_execute.specs.declared.ending.Ending.{Ending}
use Rattle.kp_execute.specs.declared.ending.Ending.TheVariants.{Branching, CutPoint, Aborted}
use Rattle.kp_execute.specs.declared.ending.Run.{Run}
use Rattle.kp_execute.specs.Known.{IsRunOf}

-- ---- states and predicates

-- in the state's term
abbrev pub TermWants : KoreSignature → SymbolicState → Type 0
TermWants g s = ¬ InjectsWhereItStands g (written_term g s.sort s.term)

-- in the predicate of these clauses
abbrev pub ClausesWant : KoreSignature → KoreSort → List (List Literal) → Type 0
ClausesWant g sort cs = (ds : List (List Literal)) × AreArranged g sort cs ds × ¬ InjectsIfThere g (written_predicate g sort ds)

-- in the state's term, or in its predicate
pub data StateWants (g : KoreSignature) (s : SymbolicState) : Type 0 where
  in_term : TermWants g s → StateWants g s
  in_predicate : ClausesWant g s.sort s.clauses → StateWants g s

-- ---- cases

-- in the predicate of what was added to the part, or in the state that is told with it
pub data CaseWants (g : KoreSignature) (p : StatePart) (s : SymbolicState) : Type 0 where
  in_added : ClausesWant g p.state.sort p.added → CaseWants g p s
  in_state : StateWants g s → CaseWants g p s

-- in what is written for a next state
abbrev pub NextWants : KoreSignature → Next → Type 0
NextWants g n = CaseWants g (part_view n.part) (state_view n.state)

-- for a part that remains
abbrev pub RemainderWants : KoreSignature → Part → Type 0
RemainderWants g p = CaseWants g (part_view p) (part_view p).state

-- for one of the next states, or of the parts that remain behind them
pub data CasesWant (g : KoreSignature) (nexts : List Next) (remainder : List Part) : Type 0 where
  in_next : AnyByRecursion (NextWants g) nexts → CasesWant g nexts remainder
  in_remainder : AnyByRecursion (RemainderWants g) remainder → CasesWant g nexts remainder

-- ---- the end of a run

-- for the clauses that a step leaves undecided
abbrev pub StepWants : KoreSignature → KoreSort → StepOutcome → Type 0
StepWants g sort (Undecided told rule) = ClausesWant g sort (clauses_view told.shown.items)
StepWants g sort why = ⊥

-- for what follows the last state, of this sort
abbrev pub EndWants : KoreSignature → KoreSort → Ending → Type 0
EndWants g sort (Branching nexts remainder) = CasesWant g nexts.items remainder.items
EndWants g sort (CutPoint next) = NextWants g next
EndWants g sort (Aborted why) = StepWants g sort why
EndWants g sort ending = ⊥

-- for the last state, or for what follows it
pub data RunWants (g : KoreSignature) (r : Run) : Type 0 where
  in_last : StateWants g (state_view r.state) → RunWants g r
  in_end : EndWants g (state_view r.state).sort r.ending → RunWants g r

-- ---- refusals

-- a right run of the request, for whose end an inj would be written that isn't what it should be
pub record LacksInjection (t : Theory) (o : Options) (p : KorePattern) : Type 0 where
  pub run : Run
  pub is : IsRunOf t o p run
  pub wants : RunWants t.signature run

-- it is told that inj is wanted
abbrev pub TellsNoInjection : ExecuteError → Type 0
TellsNoInjection e = e ≡ NoInjection
