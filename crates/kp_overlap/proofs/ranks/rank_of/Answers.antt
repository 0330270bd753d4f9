use Rattle.kp_overlap.proofs.RankSteps.{label_rank}
use Rattle.kp_overlap.proofs.ranks.rank_of.Goals as goal

pub returns-then-place-labels : goal.returns-then-place-labels
returns-then-place-labels c = label_rank c.args.labels.now c.args.ranks.now c.args.place c.holder_of.result c.if-place-labels.true c.holder_of.ensures
