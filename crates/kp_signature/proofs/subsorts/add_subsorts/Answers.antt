use Rattle.std.proofs.Common.{map}
use Rattle.kp_signature.specs.Pairs.{subsort_view}
use Rattle.kp_signature.proofs.SubsortPairs.{pairs_more}
use Rattle.kp_signature.proofs.subsorts.add_subsorts.Goals as goal

pub loop-attribute-preserved : goal.loop-attribute-preserved
loop-attribute-preserved c =
    pairs_more c.args.attributes.now c.loop-attribute.attribute-index c.attribute-item.result
    (map subsort_view c.loop-attribute.subsorts.items) (map subsort_view c.add_subsort.new.subsorts.items) (map subsort_view c.args.subsorts.now.items)
    c.loop-attribute-test.true c.attribute-item.is c.loop-attribute.invariant c.in_ok-add_subsort.ensures
