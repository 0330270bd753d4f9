use Rattle.std.proofs.Common.{subst}
use Rattle.kp_satisfiability.specs.Answers.{IsRightAnswer}
use Rattle.kp_step.proofs.PartLemmas.{none_right, not_none, some_is_other, open_is_other}
use Rattle.kp_step.proofs.kept_parts.is_none.Goals as goal

pub returns-in-NoValuation : goal.returns-in-NoValuation
returns-in-NoValuation c g s right = ((λ yes. none_right g s (subst (IsRightAnswer g s) c.in-NoValuation.is right)), (λ no. absurd (cc)))

pub returns-in-SomeValuation : goal.returns-in-SomeValuation
returns-in-SomeValuation c g s right = ((λ yes. absurd (cc)), (λ no. not_none g s c.args.verdict.now right (some_is_other c.args.verdict.now c.in-SomeValuation.is)))

pub returns-in-Undecided : goal.returns-in-Undecided
returns-in-Undecided c g s right = ((λ yes. absurd (cc)), (λ no. not_none g s c.args.verdict.now right (open_is_other c.args.verdict.now _ _ c.in-Undecided.is)))
