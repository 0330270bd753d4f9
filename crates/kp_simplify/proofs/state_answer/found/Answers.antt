use Rattle.std.proofs.lemmas.Result.{IfErr-weaker}
use Rattle.kp_symbolic.specs.Languages.{language_view}
use Rattle.kp_symbolic.specs.View.{state_view}
use Rattle.kp_simplify.proofs.AnswerLemmas.{if_ok, may_by_some, wide_answered, none_wide}
use Rattle.kp_simplify.proofs.state_answer.found.Goals as goal

pub returns-in-Some-clause-answered : goal.returns-in-Some-clause-answered
returns-in-Some-clause-answered c = λ right. let g = language_view c.args.language.now in let s = state_view c.args.state.now in wide_answered g s c.in_ok-call.call c.in-Some.undecided (may_by_some g s right) c.in-Some.is c.in_ok-call.ensures

pub returns-in-None-clause-answered : goal.returns-in-None-clause-answered
returns-in-None-clause-answered c =
    let none = none_wide (language_view c.args.language.now) (state_view c.args.state.now) c.in_ok-call.call c.in-None.is c.in_ok-call.ensures in
    if_ok c.written.result _ _ (λ a h right. h right none) c.written.ensures.answered

pub returns-in-None-clause-wants : goal.returns-in-None-clause-wants
returns-in-None-clause-wants c =
    let none = none_wide (language_view c.args.language.now) (state_view c.args.state.now) c.in_ok-call.call c.in-None.is c.in_ok-call.ensures in
    IfErr-weaker c.written.result _ _ (λ e h is right. h is right none) c.written.ensures.wants
