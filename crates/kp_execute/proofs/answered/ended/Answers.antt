use Rattle.std.proofs.Common.{subst}
use Rattle.kp_kore.specs.Replies.{IsComputed}
use Rattle.kp_results.specs.View.{executed_view}
use Rattle.kp_symbolic.specs.View.{state_view}
use Rattle.kp_execute.specs.Written.{pattern_of}
use Rattle.kp_execute.proofs.AnswerLemmas.{ended_right}
use Rattle.kp_execute.proofs.answered.ended.Goals as goal

pub returns-clause-answered : goal.returns-clause-answered
returns-clause-answered c = λ t o p same e.
    let x = executed_view c.args.executed in
    let sort = (state_view e.whole.state).sort in
    ended_right t o p x e (subst (λ g. IsComputed g (pattern_of sort x.state)) same (c.is_state_computed.ensures c.if-not-is_state_computed.false sort))
