use Rattle.std.proofs.Common.{rules, pos}
use Rattle.kp_demands.specs.declared.demand.Demand.TheVariants.{Bound}
use Rattle.kp_demands.specs.Demands.{MeetsTruth}
use Rattle.kp_demands.specs.Truths.{HaveTruths}
use Rattle.kp_demands.proofs.Lists.{told_more, told_none, told_all}
use Rattle.kp_demands.proofs.truths.agree.Goals as goal

pub returns-then-not-take-clause-no : goal.returns-then-not-take-clause-no
returns-then-not-take-clause-no c _ truths = told_none (MeetsTruth truths) c.args.demands.now c.loop-demand.demand-index (Bound 0 0 (pos 0)) (HaveTruths c.loop-demand.table truths)
    c.loop-demand-test.true (c.loop-demand.invariant truths) (c.take.ensures.no (search rules) truths)

pub loop-demand-preserved : goal.loop-demand-preserved
loop-demand-preserved c truths = told_more (MeetsTruth truths) c.args.demands.now c.loop-demand.demand-index (Bound 0 0 (pos 0)) (HaveTruths c.loop-demand.table truths) (HaveTruths c.take.new.table truths)
    c.loop-demand-test.true (c.loop-demand.invariant truths) (c.take.ensures.yes (search rules) truths)

pub returns-clause-yes : goal.returns-clause-yes
returns-clause-yes c _ truths = told_all (MeetsTruth truths) c.args.demands.now c.loop-demand.demand-index (HaveTruths c.loop-demand.table truths) (search rules) (c.loop-demand.invariant truths)
