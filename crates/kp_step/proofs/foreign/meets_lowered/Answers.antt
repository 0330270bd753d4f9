use Rattle.kp_unify.specs.Views.{signature_of}
use Rattle.kp_step.proofs.LoweredLemmas.{foreign_lowered}
use Rattle.kp_step.proofs.foreign.meets_lowered.Goals as goal

pub returns : goal.returns
returns c t used s place e setting w f =
    c.meets_at_one_sort.ensures (c.has_one_sort_each.ensures.0 c.if-not-has_one_sort_each.false) t used s place e setting w
    (foreign_lowered t place (signature_of c.args.setting) c.args.skeleton.now c.in_ok-low.low e f c.in_ok-low.ensures)
