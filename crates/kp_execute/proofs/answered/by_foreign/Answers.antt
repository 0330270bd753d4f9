use Rattle.std.proofs.Common.{sym, subst, string_bytes}
use Rattle.kp_results.specs.View.{state_view}
use Rattle.kp_execute.specs.Answers.{IsRightAnswer}
use Rattle.kp_execute.proofs.AnswerLemmas.{foreign_right}
use Rattle.kp_execute.proofs.answered.by_foreign.Goals as goal

pub returns-in-Ok-clause-answered : goal.returns-in-Ok-clause-answered
returns-in-Ok-clause-answered c = λ t o p runs h. subst (IsRightAnswer t o p) (sym c.aborted.ensures) (foreign_right t o p c.args.run.now (state_view c.args.state) c.args.place (string_bytes c.in-Ok.id) h (c.in-Ok.ensures.found t runs))
