use Rattle.std.proofs.Common.{subst, sym}
use Rattle.kp_symbolic.specs.View.{state_view}
use Rattle.kp_step.specs.RightSteps.{IsRightStep}
use Rattle.std.specs.Prelude.{IfErr}
use Rattle.kp_outward.specs.Errors.{IsNoInjection}
use Rattle.kp_symbolic.specs.Languages.{language_view}
use Rattle.kp_execute.specs.Wants.{StepWants}
use Rattle.kp_execute.proofs.answered.undecided_of.Goals as goal

pub returns-in-Undecided-clause-told : goal.returns-in-Undecided-clause-told
returns-in-Undecided-clause-told c = λ t used same right. c.clauses_told.ensures.told t same (subst (IsRightStep t used (state_view c.args.run.now.state)) c.in-Undecided.is right)

pub returns-in-Undecided-clause-wants : goal.returns-in-Undecided-clause-wants
returns-in-Undecided-clause-wants c =
    let g = language_view c.args.language.now in
    let sort = (state_view c.args.run.now.state).sort in
    subst (λ w. IfErr c.clauses_told.result (λ e. IsNoInjection e → StepWants g sort w)) (sym c.in-Undecided.is) c.clauses_told.ensures.wants
