use Rattle.kp_results.specs.View.{undecided_view, state_view}
use Rattle.kp_execute.proofs.AnswerLemmas.{open_right, step_of}
use Rattle.kp_execute.proofs.answered.what_is_undecided.Goals as goal

pub returns-in-Ok-clause-answered : goal.returns-in-Ok-clause-answered
returns-in-Ok-clause-answered c = λ t o p same h.
    let r = c.args.run.now in
    let x = state_view c.args.state in
    let why = c.args.why.now in
    open_right t o p r x why (undecided_view c.in-Ok.undecided) h (c.in-Ok.ensures.told t h.run.used same (step_of t o p r x why h))
