use Rattle.std.proofs.Common.{subst}
use Rattle.kp_execute.specs.Ended.{IsEnded}
use Rattle.std.proofs.lemmas.Result.{IfErr-weaker, err_from_is_err_and}
use Rattle.kp_execute.specs.Wants.{in_end}
use Rattle.kp_execute.proofs.answered.answer_of.Goals as goal

pub returns-in-Result-clause-answered : goal.returns-in-Result-clause-answered
returns-in-Result-clause-answered c = λ t o p runs same is.
    let r = c.args.run.now in
    c.ended.ensures.answered t o p same (record {
      whole = r;
      run = is;
      told = c.is_end_right.ensures t same c.if-not-is_end_right.false;
      order = c.is_end_in_turn.ensures t runs c.if-not-is_end_in_turn.false;
      written = subst (IsEnded t r) c.in-Result.is (c.in_ok-executed.ensures.written t runs same);
    })

pub returns-in-Undecided-clause-answered : goal.returns-in-Undecided-clause-answered
returns-in-Undecided-clause-answered c = λ t o p runs same is.
    c.undecided_end.ensures.answered t o p runs same is (subst (IsEnded t c.args.run.now) c.in-Undecided.is (c.in_ok-executed.ensures.written t runs same)).0

pub returns-in_err-executed-clause-wants : goal.returns-in_err-executed-clause-wants
returns-in_err-executed-clause-wants c =
    let p = err_from_is_err_and c.from_residual.result c.from_residual.ensures.1 in
    rw (p.1, p.2) c.in_err-executed.ensures.wants

pub returns-in-Result-clause-wants : goal.returns-in-Result-clause-wants
returns-in-Result-clause-wants c = IfErr-weaker c.ended.result _ _ (λ e no is. absurd (no is)) c.ended.ensures.refused

pub returns-in-Undecided-clause-wants : goal.returns-in-Undecided-clause-wants
returns-in-Undecided-clause-wants c = IfErr-weaker c.undecided_end.result _ _ (λ e w is. in_end (w is)) c.undecided_end.ensures.wants
