use Rattle.std.proofs.Common.{◌≡◌, ◌++◌, map, take}
use Rattle.kp_kore.specs.Signature.{subsorts_among}
use Rattle.kp_kore.specs.View.{patterns_view}
use Rattle.kp_signature.specs.Pairs.{subsort_view}
use Rattle.kp_signature.proofs.subsorts.add_subsorts.Given as goal

abbrev pub invariant-loop-attribute : goal.invariant-loop-attribute
invariant-loop-attribute l =
    map subsort_view l.subsorts.items ≡ map subsort_view l.fn.subsorts.items ++ subsorts_among (patterns_view (take l.attribute-index l.attributes))
