use Rattle.std.proofs.Common.{get_or}
use Rattle.kp_overlap.specs.Ranked.{IsBefore}
use Rattle.kp_overlap.proofs.RankSteps.{pass_more, before_fails, before_all}
use Rattle.kp_overlap.proofs.ranks.are_before.Goals as goal

pub returns-then-not-is_before : goal.returns-then-not-is_before
returns-then-not-is_before c = before_fails c.args.labels.now c.args.ranks.now c.args.rank c.args.members.now c.loop-member.member-index c.loop-member-test.true c.if-not-is_before.ensures

pub loop-member-preserved : goal.loop-member-preserved
loop-member-preserved c = pass_more (λ j. IsBefore c.args.labels.now c.args.ranks.now c.args.rank (get_or c.args.members.now j 0)) c.loop-member.member-index c.loop-member.invariant c.if-not-is_before.ensures

pub returns : goal.returns
returns c = before_all c.args.labels.now c.args.ranks.now c.args.rank c.args.members.now c.loop-member.member-index c.loop-member-test.false c.loop-member.invariant
