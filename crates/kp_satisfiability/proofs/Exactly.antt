-- A right answer on plain clauses within the limits is no open one.
use Rattle.kp_kore.specs.Signature.{KoreSignature}
use Rattle.kp_symbolic.specs.States.{SymbolicState}
use Rattle.kp_symbolic.specs.Plain.{IsPlainState}
use Rattle.kp_symbolic.specs.Weights.{IsWithinLimits}
use Rattle.kp_symbolic.specs.Verdicts.{IsDecision, by_some, by_none}
use Rattle.kp_symbolic.specs.Verdicts as model
use Rattle.kp_symbolic.proofs.Exact.{plain_is_decided}
use Rattle.kp_satisfiability.specs.Answers.{IsToldAs, IsDecided, IsRightAnswer}
use Rattle.kp_satisfiability.specs.declared.verdict.Verdict.{Verdict}
use Rattle.kp_satisfiability.specs.declared.verdict.Verdict.TheVariants.{SomeValuation, NoValuation, Undecided}

told_decided : (d : model.Verdict) (a : Verdict) → IsDecision d → IsToldAs d a → IsDecided a
told_decided _ SomeValuation by_some t = tt
told_decided _ NoValuation by_some t = absurd t
told_decided _ (Undecided cs w) by_some t = absurd t
told_decided _ SomeValuation by_none t = absurd t
told_decided _ NoValuation by_none t = tt
told_decided _ (Undecided cs w) by_none t = absurd t

pub right_decided : (g : KoreSignature) (s : SymbolicState) (a : Verdict) → IsRightAnswer g s a → IsPlainState g s → IsWithinLimits g s → IsDecided a
right_decided g s a r p w = told_decided r.verdict a (plain_is_decided g s r.verdict r.right p w) r.is_told
