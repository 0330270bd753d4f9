use Rattle.std.proofs.Common.{subst, None}
use Rattle.std.specs.Option.{option_map}
use Rattle.kp_step.specs.Rules.{TellsRead}
use Rattle.kp_step.proofs.next_states.nexts_at.Goals as goal

pub returns-in-Some : goal.returns-in-Some
returns-in-Some c t used s steps setting turn =
    let place = c.args.turn.now.place in
    c.turn_nexts.ensures t used s steps.signature setting turn (subst (λ o. TellsRead t place (option_map (λ r. r.now) o)) c.in-Some.is (c.read_at.ensures t steps.runs))

pub returns-in-None : goal.returns-in-None
returns-in-None c t used s steps setting turn =
    let place = c.args.turn.now.place in
    let told : TellsRead t place None = subst (λ o. TellsRead t place (option_map (λ r. r.now) o)) c.in-None.is (c.read_at.ensures t steps.runs) in
    absurd (told turn.rule turn.read turn.at turn.body)
