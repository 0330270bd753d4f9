use Rattle.kp_overlap.proofs.RankSteps.{rank_before, no_rank_before}
use Rattle.kp_overlap.proofs.ranks.is_before.Goals as goal

pub returns-in-Some : goal.returns-in-Some
returns-in-Some c = rank_before c.args.labels.now c.args.ranks.now c.args.rank c.args.member c.in-Some.other c.in-Some.ensures

pub returns-in-None : goal.returns-in-None
returns-in-None c = no_rank_before c.args.labels.now c.args.ranks.now c.args.rank c.args.member c.in-None.ensures
