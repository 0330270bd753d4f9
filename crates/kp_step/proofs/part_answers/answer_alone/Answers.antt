use Rattle.kp_symbolic.specs.View.{state_view}
use Rattle.kp_unify.specs.Views.{signature_of}
use Rattle.kp_step.proofs.AnswerLemmas.{says_some, says_none, says_open}
use Rattle.kp_step.proofs.part_answers.answer_alone.Goals as goal

pub returns-in-SomeValuation : goal.returns-in-SomeValuation
returns-in-SomeValuation c sorted = says_some (signature_of c.args.setting) (state_view c.args.state.now) c.in_ok-decide.field-0 (c.in_ok-decide.ensures sorted) c.in-SomeValuation.is

pub returns-in-NoValuation : goal.returns-in-NoValuation
returns-in-NoValuation c sorted = says_none (signature_of c.args.setting) (state_view c.args.state.now) c.in_ok-decide.field-0 (c.in_ok-decide.ensures sorted) c.in-NoValuation.is

pub returns-in-Undecided : goal.returns-in-Undecided
returns-in-Undecided c sorted =
    says_open (signature_of c.args.setting) (state_view c.args.state.now) c.in_ok-decide.field-0 (record { shown = c.in-Undecided.shown; over = c.in-Undecided.over }) (c.in_ok-decide.ensures sorted) c.in-Undecided.is
