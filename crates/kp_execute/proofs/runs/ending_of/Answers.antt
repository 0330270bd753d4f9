use Rattle.std.proofs.Common.{subst, inl, inr}
use Rattle.kp_step.specs.Answers.{IsRightAnswerAlone}
use Rattle.kp_execute.proofs.RunLemmas.{open_undecided}
use Rattle.kp_execute.proofs.runs.ending_of.Goals as goal

pub returns-in-Nothing : goal.returns-in-Nothing
returns-in-Nothing c g s right = subst (IsRightAnswerAlone g s) c.in-Nothing.is right

pub returns-in-Instance : goal.returns-in-Instance
returns-in-Instance c g s right = inl (subst (IsRightAnswerAlone g s) c.in-Instance.is right)

pub returns-in-UndecidedClauses : goal.returns-in-UndecidedClauses
returns-in-UndecidedClauses c g s right = inr (open_undecided g s c.args.answer.now _ c.in-UndecidedClauses.is right)
