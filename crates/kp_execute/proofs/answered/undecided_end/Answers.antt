use Rattle.std.proofs.Common.{subst, sym}
use Rattle.kp_kore.specs.Replies.{IsComputed}
use Rattle.kp_results.specs.View.{state_view as parts_view}
use Rattle.kp_symbolic.specs.View.{state_view}
use Rattle.kp_execute.specs.Written.{pattern_of}
use Rattle.std.specs.Prelude.{IfErr}
use Rattle.kp_outward.specs.Errors.{IsNoInjection}
use Rattle.kp_symbolic.specs.Languages.{language_view}
use Rattle.kp_execute.specs.Wants.{EndWants}
use Rattle.kp_execute.proofs.answered.undecided_end.Goals as goal

pub returns-in-Aborted-clause-answered : goal.returns-in-Aborted-clause-answered
returns-in-Aborted-clause-answered c = λ t o p runs same is written.
    let sort = (state_view c.args.run.now.state).sort in
    let x = parts_view c.args.state in
    c.by_cause.ensures.answered t o p runs same (record {
      run = is;
      is = c.in-Aborted.is;
      written = written;
      computed = subst (λ g. IsComputed g (pattern_of sort x)) same (c.is_state_computed.ensures c.if-not-is_state_computed.false sort);
    })

pub returns-in-Aborted-clause-wants : goal.returns-in-Aborted-clause-wants
returns-in-Aborted-clause-wants c =
    let g = language_view c.args.language.now in
    let sort = (state_view c.args.run.now.state).sort in
    subst (λ x. IfErr c.by_cause.result (λ e. IsNoInjection e → EndWants g sort x)) (sym c.in-Aborted.is) c.by_cause.ensures.wants
