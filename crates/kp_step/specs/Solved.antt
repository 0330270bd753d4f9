-- What is known of a part by the state that it is with its equations solved.
-- Source: unification by substitution; this project.
use Rattle.std.specs.Prelude.{Result, IfOk}
use Rattle.kp_kore.specs.Signature.{KoreSignature}
use Rattle.kp_symbolic.specs.States.{SymbolicState}
use Rattle.kp_symbolic.specs.View.{state_view}
use Rattle.kp_symbolic.specs.declared.state.State.{State}
use Rattle.kp_symbolic_laws.specs.Safe.{IsSafe}
use Rattle.kp_satisfiability.specs.Read.{HasSortedClauses}
use Rattle.kp_case_laws.specs.Parts.{whole}
use Rattle.kp_case_laws.specs.Firing.{HasNoInstance}
use Rattle.kp_unify.specs.Views.{signature_of}
use Rattle.kp_unify.specs.declared.part.Setting.{Setting}
use Rattle.kp_step.specs.ReadyParts.{HasInstance}
use Rattle.kp_step.specs.Answers.{ShowsOf, IsRightAnswerOf}
use Rattle.kp_step.specs.declared.part_answers.PartAnswer.{PartAnswer}
use Rattle.kp_step.specs.declared.part_answers.UndecidedClauses.{UndecidedClauses}

-- where s has an instance, so has p, and where it has none
pub record IsKnownAs (g : KoreSignature) (p s : SymbolicState) : Type 0 where
  pub sorted : HasSortedClauses g s
  pub some : HasInstance g (whole s) → HasInstance g (whole p)
  pub none : HasNoInstance g (whole s) → HasNoInstance g (whole p)

-- what is answered of a part that is left open, by such a state
abbrev pub AnswersBySolved : {E : Type 0} → Setting → State → UndecidedClauses → Result PartAnswer E → Type 0
AnswersBySolved setting solved told result =
    let g = signature_of setting in
    IfOk result (λ a. (s p : SymbolicState) → IsKnownAs g p (state_view solved) → ShowsOf g s p told → IsRightAnswerOf g s p a)

-- the same of a sound part
abbrev pub AnswersWhenSolved : {E : Type 0} → Setting → State → UndecidedClauses → Result PartAnswer E → Type 0
AnswersWhenSolved setting part told result =
    let g = signature_of setting in let p = state_view part in
    IfOk result (λ a. (s : SymbolicState) → IsSafe g p → ShowsOf g s p told → IsRightAnswerOf g s p a)
