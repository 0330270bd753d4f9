use Rattle.std.proofs.Common.{subst}
use Rattle.std.specs.Prelude.{MatchOption}
use Rattle.kp_run.specs.Turns.{BodyFires, IsFiring}
use Rattle.kp_run.proofs.Turning.{turn_stays}
use Rattle.kp_run.proofs.step.turn_after.Goals as goal

pub returns-in-Some : goal.returns-in-Some
returns-in-Some c = λ g u rules r turn h.
    c.joined.ensures g u rules r turn (subst (λ o. MatchOption o (¬ BodyFires g u r.body.value) (λ f. IsFiring g u f r)) c.in-Some.is h)

pub returns-in-None : goal.returns-in-None
returns-in-None c = λ g u rules r turn h.
    turn_stays g u c.args.turn rules r turn (subst (λ o. MatchOption o (¬ BodyFires g u r.body.value) (λ f. IsFiring g u f r)) c.in-None.is h)
