use Rattle.std.proofs.Common.{rules, ◌∙◌, ◌+◌, sym, subst, pos, ℕ, ℤ, take}
use Rattle.std.specs.List.{AllByRecursion}
use Rattle.kp_diff.specs.Bounds.{Meets}
use Rattle.kp_diff.specs.Rows.{bounds_of}
use Rattle.kp_demands.specs.declared.demand.Demand.TheVariants.{Bound}
use Rattle.kp_demands.specs.Demands.{IsSized, MeetsBound}
use Rattle.kp_demands.proofs.Lists.{all_at, all_taken, all_up_to}
use Rattle.kp_demands.proofs.Tightening.{at_size}
use Rattle.kp_demands.proofs.known_bounds.take_all.Goals as goal

pub take-requires-clause-sized : goal.take-requires-clause-sized
take-requires-clause-sized c = (c.requires.sized.0, c.requires.sized.1 ∙ sym c.loop-demand.invariant.size, c.requires.sized.2, all_at (IsSized c.requires.sized.0) c.args.demands.now c.loop-demand.demand-index (Bound 0 0 (pos 0)) c.loop-demand-test.true c.requires.sized.3)

pub returns-then-not-take-clause-no : goal.returns-then-not-take-clause-no
returns-then-not-take-clause-no c = λ _ values old all. c.take.ensures.no (search rules) values
    (at_size c.args.known.now.matrix.size c.loop-demand.known.matrix.size (bounds_of c.loop-demand.known.matrix) values c.loop-demand.invariant.size (c.loop-demand.invariant.met values old (all_taken (MeetsBound values) c.args.demands.now c.loop-demand.demand-index all)))
    (all_at (MeetsBound values) c.args.demands.now c.loop-demand.demand-index (Bound 0 0 (pos 0)) c.loop-demand-test.true all)

pub loop-demand-preserved : goal.loop-demand-preserved
loop-demand-preserved c = record {
  size = c.take.ensures.size ∙ c.loop-demand.invariant.size;
  room = c.take.ensures.room (search rules);
  met = λ (values : ℕ → ℤ) (old : Meets c.args.known.now.matrix.size (bounds_of c.args.known.now.matrix) values) (all : AllByRecursion (MeetsBound values) (take (c.loop-demand.demand-index + 1) c.args.demands.now)).
      let up = (all_up_to (MeetsBound values) c.args.demands.now c.loop-demand.demand-index (Bound 0 0 (pos 0)) c.loop-demand-test.true).0 all in
      subst (λ n. Meets n (bounds_of c.take.new.known.matrix) values) c.loop-demand.invariant.size
      (c.take.ensures.met values (at_size c.args.known.now.matrix.size c.loop-demand.known.matrix.size (bounds_of c.loop-demand.known.matrix) values c.loop-demand.invariant.size (c.loop-demand.invariant.met values old up.0)) up.1 (search rules));
}

pub returns-clause-met : goal.returns-clause-met
returns-clause-met c = λ values old all _. c.loop-demand.invariant.met values old (all_taken (MeetsBound values) c.args.demands.now c.loop-demand.demand-index all)
