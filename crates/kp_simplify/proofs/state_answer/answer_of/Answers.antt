use Rattle.std.proofs.Common.{sym, subst}
use Rattle.std.proofs.lemmas.Result.{IfErr-weaker}
use Rattle.kp_symbolic.specs.Verdicts.{IsRightVerdict, undecided}
use Rattle.kp_symbolic.specs.Languages.{language_view}
use Rattle.kp_symbolic.specs.View.{state_view, clauses_view}
use Rattle.kp_satisfiability.specs.Answers.{IsRightAnswer}
use Rattle.kp_satisfiability.proofs.GivenLemmas.{well_formed_sorted}
use Rattle.kp_simplify.proofs.AnswerLemmas.{if_ok, none_answered, right_none, right_some, shown_of}
use Rattle.kp_simplify.proofs.state_answer.answer_of.Goals as goal

pub returns-in-NoValuation-clause-answered : goal.returns-in-NoValuation-clause-answered
returns-in-NoValuation-clause-answered c = λ well.
    let g = language_view c.args.language.now in
    let s = state_view c.args.state.now in
    none_answered g s (right_none g s (subst (IsRightAnswer g s) c.in-NoValuation.is (c.in_ok-verdict.ensures (well_formed_sorted g s well))))

pub returns-in-SomeValuation-clause-answered : goal.returns-in-SomeValuation-clause-answered
returns-in-SomeValuation-clause-answered c =
    let g = language_view c.args.language.now in
    let s = state_view c.args.state.now in
    if_ok c.found.result _ _ (λ a h well. h (right_some g s (subst (IsRightAnswer g s) c.in-SomeValuation.is (c.in_ok-verdict.ensures (well_formed_sorted g s well))))) c.found.ensures.answered

pub returns-in-Undecided-clause-answered : goal.returns-in-Undecided-clause-answered
returns-in-Undecided-clause-answered c =
    let g = language_view c.args.language.now in
    let s = state_view c.args.state.now in
    if_ok c.what_is_undecided.result _ _
    (λ a h well.
    let k = shown_of g s c.in-Undecided.shown c.in-Undecided.over (subst (IsRightAnswer g s) c.in-Undecided.is (c.in_ok-verdict.ensures (well_formed_sorted g s well))) in
    h k.weight (subst (λ cs. IsRightVerdict g s (undecided (clauses_view cs) k.weight)) (sym c.deref.ensures.value) k.right) k.weighed)
    c.what_is_undecided.ensures.answered

pub returns-in-SomeValuation-clause-wants : goal.returns-in-SomeValuation-clause-wants
returns-in-SomeValuation-clause-wants c =
    let g = language_view c.args.language.now in
    let s = state_view c.args.state.now in
    IfErr-weaker c.found.result _ _ (λ e h is well. h is (right_some g s (subst (IsRightAnswer g s) c.in-SomeValuation.is (c.in_ok-verdict.ensures (well_formed_sorted g s well))))) c.found.ensures.wants

pub returns-in-Undecided-clause-wants : goal.returns-in-Undecided-clause-wants
returns-in-Undecided-clause-wants c =
    let g = language_view c.args.language.now in
    let s = state_view c.args.state.now in
    IfErr-weaker c.what_is_undecided.result _ _
    (λ e h is well.
    let k = shown_of g s c.in-Undecided.shown c.in-Undecided.over (subst (IsRightAnswer g s) c.in-Undecided.is (c.in_ok-verdict.ensures (well_formed_sorted g s well))) in
    h is k.weight (subst (λ cs. IsRightVerdict g s (undecided (clauses_view cs) k.weight)) (sym c.deref.ensures.value) k.right))
    c.what_is_undecided.ensures.wants
