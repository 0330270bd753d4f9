use Rattle.std.proofs.Common.{subst}
use Rattle.std.specs.Option.{option_map}
use Rattle.kp_step.specs.Rules.{TellsRead}
use Rattle.kp_step.proofs.turns.try_rule.Goals as goal

pub returns-in-Some : goal.returns-in-Some
returns-in-Some c t used s found k z all =
    let told = subst (λ o. TellsRead t c.args.place (option_map (λ x. x.now) o)) c.in-Some.is (c.read_at.ensures t k.steps.runs) in
    c.try_sides.ensures t used s found k z all told.read (told.rule, told.at, told.body) told.is.sides told.is.verified
