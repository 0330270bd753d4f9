use Rattle.std.proofs.Common.{string_bytes}
use Rattle.kp_kore.specs.View.{sort_view}
use Rattle.kp_signature.specs.View.{signature_view}
use Rattle.kp_step.proofs.LoweredLemmas.{IsLowering}
use Rattle.kp_step.proofs.lowered_sides.+lowest.Given as goal

abbrev pub invariant-lowest_among-loop-skeleton : goal.invariant-lowest_among-loop-skeleton
invariant-lowest_among-loop-skeleton l =
    IsLowering (signature_view l.signature) (string_bytes l.name.value) (sort_view l.sort) l.skeletons l.skeleton-index (sort_view l.low)
