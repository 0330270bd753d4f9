-- What is answered of two sides, by what is answered of the question that they are.
use Rattle.std.specs.Prelude.{List, Result, Ok, Err, IfOk, Some}
use Rattle.std.proofs.Common.{◌≡◌, sym, subst, ◌++◌}
use Rattle.kp_kore.specs.Syntax.{Text, KoreSort, KorePattern}
use Rattle.kp_kore.specs.Parts.{variable_names}
use Rattle.kp_kore.specs.Signature.{KoreSignature}
use Rattle.kp_signature.specs.Verify.{VerifiesAs}
use Rattle.kp_symbolic.specs.States.{SymbolicState}
use Rattle.kp_symbolic.specs.Solving.{opened_state, IsReadAs}
use Rattle.kp_symbolic_laws.specs.Kept.{CanBeWritten}
use Rattle.kp_symbolic_laws.specs.Runs.{OfEachKept}
use Rattle.kp_unify.specs.Views.{signature_of}
use Rattle.kp_unify.specs.declared.part.Setting.{Setting}
use Rattle.kp_goals.specs.Consequents.{Consequent, IsConsequent, beside}
use Rattle.kp_implies.specs.Promises.{IsRightFor, AnswersSides, IsQuestion, AnswersQuestion}
use Rattle.kp_implies.specs.Steps.{IsAnswered}
use Rattle.kp_implies.specs.declared.answer.Implication.{Implication}
use Rattle.kp_implies.proofs.QuestionLaws.{question_law}
use Rattle.kp_implies.proofs.RightLaws.{answer_law}

-- by what was found, the answer is a right one
pub right_for : (g : KoreSignature) (used : List Text) (a c : KorePattern) (s : SymbolicState) (k : Consequent) (r : Implication) → IsQuestion g used a c s k → IsAnswered g used s k r → IsRightFor g a c r
right_for g used a c s k r question h = record { answer = h.answer; is_told = h.is_told; right = answer_law g used a c s k question h.answer h.is }

ok_then : {A E : Type 0} (P Q : A → Type 0) (r : Result A E) → ((x : A) → P x → Q x) → IfOk r P → IfOk r Q
ok_then P Q (Ok x) f h = f x h
ok_then P Q (Err e) f h = tt

-- where they are read as the state and the consequent
pub sides_law : {E : Type 0} (setting : Setting) (a c : KorePattern) (sort : KoreSort) (read s : SymbolicState) (k : Consequent) (r : Result Implication E) → (VerifiesAs (signature_of setting) a sort → IsReadAs (signature_of setting) a read) →
    (VerifiesAs (signature_of setting) a sort → (o : SymbolicState) → opened_state (signature_of setting) a ≡ Some o → OfEachKept (signature_of setting) (CanBeWritten (signature_of setting)) o) → s ≡ beside read c → IsConsequent (signature_of setting) c k →
    AnswersQuestion setting s k r → AnswersSides setting a c sort r
sides_law setting a c sort read s k r reads kept is consequent answers other of verified too none none_too comparable =
    let g = signature_of setting in
    let used = variable_names a ++ variable_names c in
    let question : IsQuestion g used a c s k = subst (λ z. IsQuestion g used a c z k) (sym is) (question_law g a c read k sort other verified too none none_too comparable (reads verified) (kept verified) consequent) in
    ok_then (IsAnswered g used s k) (IsRightFor g a c) r (λ x h. right_for g used a c s k x question h) (answers used a c of question)
