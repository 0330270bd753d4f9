use Rattle.kp_text.proofs.Depths.{most_more}
use Rattle.kp_text.proofs.nesting.+nesting.Goals as goal

pub most_nesting-loop-pattern-preserved : goal.most_nesting-loop-pattern-preserved
most_nesting-loop-pattern-preserved t c =
    most_more c.args.patterns.now c.loop-pattern.pattern-index c.pattern-item.result c.loop-pattern.most c.nesting.result c.max-most.result
    c.loop-pattern-test.true c.pattern-item.is c.loop-pattern.invariant c.nesting.ensures.same c.max-most.ensures
