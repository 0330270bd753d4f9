use Rattle.std.proofs.Common.{Some, below_more}
use Rattle.kp_overlap.specs.Graphs.{IsAt}
use Rattle.kp_overlap.specs.Ranked.{HasRank}
use Rattle.kp_overlap.proofs.RankSteps.{has_one}
use Rattle.kp_overlap.proofs.ranks.has_unranked.Goals as goal

pub loop-label-preserved : goal.loop-label-preserved
loop-label-preserved c = below_more (HasRank c.args.ranks.now) c.loop-label.label c.loop-label.invariant (has_one (λ p. IsAt c.args.ranks.now c.loop-label.label (Some p)) c.holder_of.result c.if-is_none.ensures c.holder_of.ensures)
