use Rattle.kp_overlap.proofs.HolderLemmas.{shapes_told}
use Rattle.kp_overlap.proofs.label_holders.agree.Goals as goal

pub returns-in-Leaf-other : goal.returns-in-Leaf-other
returns-in-Leaf-other c = shapes_told c.args.labels.now c.args.shape.now c.args.other.now _ _ c.agree_leaf.result c.in-Leaf.is c.in-Leaf-other.is (c.agree_leaf.ensures c.args.labels.now)
