use Rattle.std.proofs.Common.{[], map, take}
use Rattle.kp_signature.specs.Pairs.{subsort_view}
use Rattle.kp_heads.specs.Steps.{pair_step}
use Rattle.kp_heads.specs.Made.{IsMade}
use Rattle.kp_heads.proofs.made.Made.add_pairs.Given as goal

abbrev pub invariant-loop-pair : goal.invariant-loop-pair
invariant-loop-pair l = IsMade [] l.fn.self → IsMade (map pair_step (map subsort_view (take l.pair-index l.pair-items))) l.self
