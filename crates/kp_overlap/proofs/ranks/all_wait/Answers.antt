use Rattle.std.proofs.Common.{map, length}
use Rattle.kp_overlap.specs.Ranked.{IsRankedOrWaits}
use Rattle.kp_overlap.specs.Views.{shape_view}
use Rattle.kp_overlap.proofs.RankSteps.{all_fail, pass_more, all_pass}
use Rattle.kp_overlap.proofs.ranks.all_wait.Goals as goal

pub returns-then-not-is_ranked_or_waits : goal.returns-then-not-is_ranked_or_waits
returns-then-not-is_ranked_or_waits c = all_fail (IsRankedOrWaits (map shape_view c.args.shapes.now) c.args.labels.now c.args.holders.now c.args.ranks.now) (length c.args.labels.now) c.loop-label.label c.loop-label-test.true c.if-not-is_ranked_or_waits.ensures

pub loop-label-preserved : goal.loop-label-preserved
loop-label-preserved c = pass_more (IsRankedOrWaits (map shape_view c.args.shapes.now) c.args.labels.now c.args.holders.now c.args.ranks.now) c.loop-label.label c.loop-label.invariant c.if-not-is_ranked_or_waits.ensures

pub returns : goal.returns
returns c = all_pass (IsRankedOrWaits (map shape_view c.args.shapes.now) c.args.labels.now c.args.holders.now c.args.ranks.now) (length c.args.labels.now) c.loop-label.label c.loop-label-test.false c.loop-label.invariant
