use Rattle.std.proofs.Common.{ℕ, get_or, below_more}
use Rattle.kp_overlap.specs.Ranked.{HasLabelRank}
use Rattle.kp_overlap.proofs.RankSteps.{waits_here, has_one, none_waits}
use Rattle.kp_overlap.proofs.ranks.waits.Goals as goal

pub returns-then-is_none : goal.returns-then-is_none
returns-then-is_none c = waits_here c.args.labels.now c.args.ranks.now c.args.members.now c.loop-member.member-index c.rank_of.result c.loop-member-test.true c.if-is_none.ensures c.rank_of.ensures

pub loop-member-preserved : goal.loop-member-preserved
loop-member-preserved c =
    let ls = c.args.labels.now in
    let rs = c.args.ranks.now in
    let ns = c.args.members.now in
    let i = c.loop-member.member-index in
    below_more (λ j. (p : ℕ) × HasLabelRank ls rs (get_or ns j 0) p) i c.loop-member.invariant (has_one (HasLabelRank ls rs (get_or ns i 0)) c.rank_of.result c.if-is_none.ensures c.rank_of.ensures)

pub returns : goal.returns
returns c = none_waits c.args.labels.now c.args.ranks.now c.args.members.now c.loop-member.member-index c.loop-member-test.false c.loop-member.invariant
