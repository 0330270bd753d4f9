-- What is answered of a part with its equations solved is right of it.
use Rattle.std.proofs.Common.{Result, Ok, Err, IfOk}
use Rattle.kp_kore.specs.Signature.{KoreSignature}
use Rattle.kp_symbolic.specs.States.{SymbolicState}
use Rattle.kp_symbolic_laws.specs.Safe.{IsSafe}
use Rattle.kp_step.specs.Answers.{ShowsOf, IsRightAnswerOf}
use Rattle.kp_step.specs.Solved.{IsKnownAs}
use Rattle.kp_step.specs.declared.part_answers.PartAnswer.{PartAnswer}
use Rattle.kp_step.specs.declared.part_answers.UndecidedClauses.{UndecidedClauses}

pub solved_answer : {E : Type 0} (g : KoreSignature) (p x : SymbolicState) (told : UndecidedClauses) (r : Result PartAnswer E) → (IsSafe g p → IsKnownAs g p x) →
    IfOk r (λ a. (s q : SymbolicState) → IsKnownAs g q x → ShowsOf g s q told → IsRightAnswerOf g s q a) → IfOk r (λ a. (s : SymbolicState) → IsSafe g p → ShowsOf g s p told → IsRightAnswerOf g s p a)
solved_answer g p x told (Ok a) known h = λ s safe shows. h s p (known safe) shows
solved_answer g p x told (Err e) known h = tt

pub part_answer : {E : Type 0} (g : KoreSignature) (s p : SymbolicState) (told : UndecidedClauses) (r : Result PartAnswer E) → (IsSafe g p → ShowsOf g s p told) →
    IfOk r (λ a. (s : SymbolicState) → IsSafe g p → ShowsOf g s p told → IsRightAnswerOf g s p a) → IfOk r (λ a. IsSafe g p → IsRightAnswerOf g s p a)
part_answer g s p told (Ok a) shows h = λ safe. h s safe (shows safe)
part_answer g s p told (Err e) shows h = tt
