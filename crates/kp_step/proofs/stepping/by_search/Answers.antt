use Rattle.std.proofs.Common.{sym, subst, map}
use Rattle.kp_case_laws.specs.Parts.{whole}
use Rattle.kp_step.specs.Answers.{TellsTurns}
use Rattle.kp_step.specs.Found.{AreAllFound}
use Rattle.kp_step.specs.Views.{turn_view}
use Rattle.kp_step.proofs.stepping.by_search.Goals as goal

pub returns-in-Found : goal.returns-in-Found
returns-in-Found c t used s from some =
    let told = subst (TellsTurns t used s) c.in-Found.is (c.in_ok-turns.ensures t used s from) in
    c.by_turns.ensures t used s from some (subst (λ ks. AreAllFound t used (whole s) (map turn_view ks)) (sym c.deref.ensures.value) told)

pub returns-in-Ended : goal.returns-in-Ended
returns-in-Ended c t used s from some = subst (TellsTurns t used s) c.in-Ended.is (c.in_ok-turns.ensures t used s from)
