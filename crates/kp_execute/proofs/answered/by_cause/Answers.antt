use Rattle.std.proofs.Common.{subst}
use Rattle.kp_results.specs.View.{state_view}
use Rattle.kp_execute.specs.Known.{EndsUndecided}
use Rattle.std.proofs.lemmas.Result.{IfErr-weaker}
use Rattle.kp_execute.proofs.answered.by_cause.Goals as goal

pub returns-in-Foreign-clause-answered : goal.returns-in-Foreign-clause-answered
returns-in-Foreign-clause-answered c = λ t o p runs same h. c.by_foreign.ensures.answered t o p runs (subst (EndsUndecided t o p c.args.run.now (state_view c.args.state)) c.in-Foreign.is h)

pub returns-in-Foreign-clause-wants : goal.returns-in-Foreign-clause-wants
returns-in-Foreign-clause-wants c = IfErr-weaker c.by_foreign.result _ _ (λ e no is. absurd (no is)) c.by_foreign.ensures.refused
