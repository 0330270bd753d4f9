use Rattle.std.proofs.Common.{subst}
use Rattle.kp_unify.specs.Views.{numbered_view}
use Rattle.kp_step.specs.Answers.{TellsKnown}
use Rattle.kp_step.proofs.EndLemmas.{search_from}
use Rattle.kp_step.proofs.stepping.by_rules.Goals as goal

pub returns-in-Some : goal.returns-in-Some
returns-in-Some c t used s from some = subst (TellsKnown t used s) c.in-Some.is (c.in_ok-outcome.ensures t used s from)

pub returns-in-None : goal.returns-in-None
returns-in-None c t used s from some = c.by_search.ensures t used s (search_from t used s c.args.setting c.args.rules.now (numbered_view c.args.part.now) from (subst (TellsKnown t used s) c.in-None.is (c.in_ok-outcome.ensures t used s from))) some
