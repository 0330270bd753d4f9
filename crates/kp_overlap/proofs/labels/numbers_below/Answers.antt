use Rattle.std.proofs.Common.{ap, ◌∙◌, ◌++◌, [], ◌∷◌}
use Rattle.kp_overlap.proofs.LabelLemmas.{one_number_more}
use Rattle.kp_overlap.proofs.labels.numbers_below.Goals as goal

pub loop-i-preserved : goal.loop-i-preserved
loop-i-preserved c = c.in_ok-push.ensures.items ∙ ap (λ ns. ns ++ c.loop-i.i ∷ []) c.loop-i.invariant ∙ one_number_more c.loop-i.i
