use Rattle.kp_step.proofs.foreign.meets.Goals as goal

pub returns-then-has_one_sort_each : goal.returns-then-has_one_sort_each
returns-then-has_one_sort_each c t used s place e setting w f =
    c.meets_at_one_sort.ensures (c.has_one_sort_each.ensures.0 c.if-has_one_sort_each.true) t used s place e setting w f
