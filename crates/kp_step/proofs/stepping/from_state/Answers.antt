use Rattle.kp_symbolic.specs.View.{state_view}
use Rattle.kp_unify.specs.Views.{signature_of, numbered_view}
use Rattle.kp_step.proofs.EndLemmas.{passes_itself, passes_none_at, step_from}
use Rattle.kp_step.proofs.stepping.from_state.Goals as goal

pub returns-in-Some : goal.returns-in-Some
returns-in-Some c t used steps setting ready some =
    passes_itself t (state_view c.args.state.now) (signature_of c.args.setting) c.in_ok-limit.field-0 c.in-Some.limit steps.signature c.in-Some.is c.in_ok-limit.ensures

pub returns-in_ok-whole-in-None : goal.returns-in_ok-whole-in-None
returns-in_ok-whole-in-None c t used steps setting ready some =
    c.by_rules.ensures t used (state_view c.args.state.now)
    (step_from t used (state_view c.args.state.now) c.args.setting c.args.rules.now c.args.next (numbered_view c.in_ok-whole-in-None.field-0) steps setting c.in_ok-whole-in-None.ensures.view c.in_ok-whole-in-None.ensures.next ready some
    (passes_none_at t (state_view c.args.state.now) (signature_of c.args.setting) c.in_ok-limit.field-0 steps.signature c.in-None.is c.in_ok-limit.ensures)) some
