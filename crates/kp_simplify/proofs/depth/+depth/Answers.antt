use Rattle.kp_simplify.proofs.TermDepths.{most_more}
use Rattle.kp_simplify.proofs.depth.+depth.Goals as goal

pub most_depth-loop-pattern-preserved : goal.most_depth-loop-pattern-preserved
most_depth-loop-pattern-preserved t c =
    most_more c.args.patterns.now c.loop-pattern.pattern-index c.pattern-item.result c.loop-pattern.most c.in_ok-depth_of.field-0 c.max-most.result
    c.loop-pattern-test.true c.pattern-item.is c.loop-pattern.invariant c.in_ok-depth_of.ensures c.max-most.ensures
