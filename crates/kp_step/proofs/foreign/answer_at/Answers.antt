use Rattle.std.proofs.Common.{sym, subst}
use Rattle.std.specs.Option.{option_map}
use Rattle.kp_unify.specs.Views.{numbered_view}
use Rattle.kp_step.specs.Rules.{TellsSkeleton}
use Rattle.kp_step.specs.Ready.{IsWholeReady}
use Rattle.kp_step.proofs.foreign.answer_at.Goals as goal

pub returns-in-Some : goal.returns-in-Some
returns-in-Some c t used s k =
    let at = subst (λ o. TellsSkeleton t c.args.place (option_map (λ x. x.now) o)) c.in-Some.is (c.foreign_at.ensures t k.steps.runs) in
    c.meets.ensures t used s c.args.place k.steps.signature k.setting (subst (λ h. IsWholeReady h used s (numbered_view c.args.whole.now)) (sym k.steps.signature) k.whole) at
