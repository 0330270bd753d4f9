use Rattle.std.proofs.Common.{rules, ◌≡◌, sym, subst, ◌↔◌, get_or, pos, ℕ, ℤ}
use Rattle.std.specs.List.{AllByRecursion}
use Rattle.kp_diff.specs.Bounds.{Meets, HaveBits}
use Rattle.kp_diff.specs.Rows.{bounds_of}
use Rattle.kp_diff.proofs.Callers.{free_is_met, free_has_bits}
use Rattle.kp_demands.specs.declared.demand.Demand.TheVariants.{Bound}
use Rattle.kp_demands.specs.Demands.{Sizes, IsSized, MeetsBound}
use Rattle.kp_demands.proofs.Lists.{told_more, told_all, all_at}
use Rattle.kp_demands.proofs.places.fill.Goals as goal

pub loop-demand-init : goal.loop-demand-init
loop-demand-init c = record {
  size = c.clear.ensures.size;
  met = λ (values : ℕ → ℤ) (zero_is : values 0 ≡ pos 0). (λ _. tt, λ _. free_is_met c.args.matrix.now.size (bounds_of c.clear.new.self) values c.clear.ensures.free zero_is);
  bits = λ (s : Sizes) (all : AllByRecursion (IsSized s) c.args.demands.now). free_has_bits s.bits c.args.matrix.now.size (bounds_of c.clear.new.self) c.clear.ensures.free;
}

pub take-requires : goal.take-requires
take-requires c = (c.requires.0, search rules, c.requires.2, all_at (IsSized c.requires.0) c.args.demands.now c.loop-demand.demand-index (Bound 0 0 (pos 0)) c.loop-demand-test.true c.requires.3)

pub loop-demand-preserved : goal.loop-demand-preserved
loop-demand-preserved c = record {
  size = search rules;
  met = λ (values : ℕ → ℤ) (zero_is : values 0 ≡ pos 0). told_more (MeetsBound values) c.args.demands.now c.loop-demand.demand-index (Bound 0 0 (pos 0))
      (Meets c.args.matrix.now.size (bounds_of c.loop-demand.matrix) values) (Meets c.args.matrix.now.size (bounds_of c.take.new.matrix) values)
      c.loop-demand-test.true (c.loop-demand.invariant.met values zero_is) (subst (λ n. Meets n (bounds_of c.take.new.matrix) values ↔ (Meets n (bounds_of c.loop-demand.matrix) values × MeetsBound values (get_or c.args.demands.now c.loop-demand.demand-index (Bound 0 0 (pos 0))))) c.loop-demand.invariant.size (c.take.ensures.met values));
  bits = λ (s : Sizes) (all : AllByRecursion (IsSized s) c.args.demands.now). subst (λ n. HaveBits s.bits n (bounds_of c.take.new.matrix)) c.loop-demand.invariant.size
      (c.take.ensures.bits s (all_at (IsSized s) c.args.demands.now c.loop-demand.demand-index (Bound 0 0 (pos 0)) c.loop-demand-test.true all)
      (subst (λ n. HaveBits s.bits n (bounds_of c.loop-demand.matrix)) (sym c.loop-demand.invariant.size) (c.loop-demand.invariant.bits s all)));
}

pub returns-clause-met : goal.returns-clause-met
returns-clause-met c values zero_is = told_all (MeetsBound values) c.args.demands.now c.loop-demand.demand-index (Meets c.args.matrix.now.size (bounds_of c.loop-demand.matrix) values) (search rules) (c.loop-demand.invariant.met values zero_is)
