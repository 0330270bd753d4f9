use Rattle.kp_unify.specs.Views.{signature_of, numbered_view}
use Rattle.kp_step.proofs.OneSortLemmas.{so_false}
use Rattle.kp_step.proofs.AskedLemmas.{tells_unmet}
use Rattle.kp_step.proofs.foreign.meets_at_two_sorts.Goals as goal

pub returns-then-not-branch : goal.returns-then-not-branch
returns-then-not-branch c t used s place e setting w f =
    tells_unmet t used s place c.args.skeleton.now (numbered_view c.args.whole.now) (signature_of c.args.setting) e w f (λ h. so_false c.in_ok-can_meet.field-0 c.if-not-branch.true (c.in_ok-can_meet.ensures.1 h))
