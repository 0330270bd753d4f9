use Rattle.std.proofs.Common.{rules, pos}
use Rattle.kp_demands.specs.declared.demand.Demand.TheVariants.{Bound}
use Rattle.kp_demands.specs.Demands.{IsSized, MeetsBound}
use Rattle.kp_demands.proofs.Lists.{all_at}
use Rattle.kp_demands.proofs.known_bounds.leave_all.Goals as goal

pub leaves-requires : goal.leaves-requires
leaves-requires c = (c.requires.0, c.requires.1, c.requires.2, all_at (IsSized c.requires.0) c.args.demands.now c.loop-demand.demand-index (Bound 0 0 (pos 0)) c.loop-demand-test.true c.requires.3)

pub returns-then-not-leaves : goal.returns-then-not-leaves
returns-then-not-leaves c = λ _ values old all. c.leaves.ensures (search rules) values old (all_at (MeetsBound values) c.args.demands.now c.loop-demand.demand-index (Bound 0 0 (pos 0)) c.loop-demand-test.true all)
