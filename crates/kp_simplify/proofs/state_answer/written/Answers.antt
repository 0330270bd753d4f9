use Rattle.std.proofs.Common.{◌≡◌, ◌∙◌, sym, None}
use Rattle.std.proofs.lemmas.Result.{IfErr-weaker}
use Rattle.kp_symbolic.specs.Languages.{language_view}
use Rattle.kp_symbolic.specs.View.{state_view}
use Rattle.kp_simplify.specs.Answers.{first_deep, state_sides}
use Rattle.kp_simplify.proofs.AnswerLemmas.{if_ok, deep_answered}
use Rattle.kp_simplify.proofs.state_answer.written.Goals as goal

pub returns-in-Some-clause-answered : goal.returns-in-Some-clause-answered
returns-in-Some-clause-answered c = λ right none. deep_answered (language_view c.args.language.now) (state_view c.args.state.now) c.in-Some.depth c.deep_term.result c.in_ok-deep.deep right none c.in-Some.is c.in_ok-deep.ensures c.deep_term.ensures

pub returns-in-None-clause-answered : goal.returns-in-None-clause-answered
returns-in-None-clause-answered c =
    let shallow : first_deep (language_view c.args.language.now) (state_sides (state_view c.args.state.now)) ≡ None = sym c.in_ok-deep.ensures ∙ c.in-None.is in
    if_ok c.state_shown.result _ _ (λ a h right none. h right none shallow) c.state_shown.ensures.answered

pub returns-in-None-clause-wants : goal.returns-in-None-clause-wants
returns-in-None-clause-wants c =
    let shallow : first_deep (language_view c.args.language.now) (state_sides (state_view c.args.state.now)) ≡ None = sym c.in_ok-deep.ensures ∙ c.in-None.is in
    IfErr-weaker c.state_shown.result _ _ (λ e h is right none. h is right none shallow) c.state_shown.ensures.wants
