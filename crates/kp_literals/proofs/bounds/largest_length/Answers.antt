use Rattle.std.proofs.Common.{sym, subst, ◌+◌, map, drop}
use Rattle.kp_symbolic.specs.Weights.{largest}
use Rattle.kp_literals.specs.Bounds.{difference_view}
use Rattle.kp_literals.proofs.BoundEnds.{bound_more}
use Rattle.kp_literals.proofs.LengthLemmas.{Longest}
use Rattle.kp_literals.proofs.bounds.largest_length.Goals as goal

pub loop-bound-preserved : goal.loop-bound-preserved
loop-bound-preserved c =
    subst (λ n. Longest (largest (map difference_view c.args.bounds.now)) (largest (map difference_view (drop (c.loop-bound.bound-index + 1) c.args.bounds.now))) n) (sym c.max-length.ensures)
    (bound_more c.args.bounds.now (largest (map difference_view c.args.bounds.now)) c.loop-bound.bound-index c.loop-bound.length c.bound_length.result c.bound-item.result c.loop-bound-test.true c.bound-item.is c.bound_length.ensures c.loop-bound.invariant)
