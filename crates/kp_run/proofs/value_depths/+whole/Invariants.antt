use Rattle.std.proofs.Common.{take}
use Rattle.kp_signature.specs.View.{signature_view}
use Rattle.kp_run.specs.View.{AreDepthsOfAll}
use Rattle.kp_run.proofs.value_depths.+whole.Given as goal

abbrev pub invariant-all_depths_of-loop-value : goal.invariant-all_depths_of-loop-value
invariant-all_depths_of-loop-value l = AreDepthsOfAll (signature_view l.signature) (take l.value-index l.values) l.parts.items
