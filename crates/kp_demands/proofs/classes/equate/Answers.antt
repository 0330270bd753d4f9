use Rattle.std.proofs.Common.{rules, pos, ℕ}
use Rattle.kp_demands.specs.declared.demand.Demand.TheVariants.{Bound}
use Rattle.kp_demands.specs.Demands.{MeetsSame}
use Rattle.kp_demands.specs.Classes.{HaveRoots}
use Rattle.kp_demands.proofs.Lists.{told_more, told_none, told_all}
use Rattle.kp_demands.proofs.classes.equate.Goals as goal

pub returns-then-not-take-clause-no : goal.returns-then-not-take-clause-no
returns-then-not-take-clause-no c _ classes fixed = told_none (MeetsSame classes) c.args.demands.now c.loop-demand.demand-index (Bound 0 0 (pos 0)) (HaveRoots c.loop-demand.roots classes)
    c.loop-demand-test.true (c.loop-demand.invariant.says classes) (c.take.ensures.no (search rules) classes fixed)

pub loop-demand-preserved : goal.loop-demand-preserved
loop-demand-preserved c = record {
  long = search rules;
  roots = c.take.ensures.roots (search rules);
  says = λ (classes : ℕ → ℕ). told_more (MeetsSame classes) c.args.demands.now c.loop-demand.demand-index (Bound 0 0 (pos 0)) (HaveRoots c.loop-demand.roots classes) (HaveRoots c.take.new.roots classes)
      c.loop-demand-test.true (c.loop-demand.invariant.says classes) (c.take.ensures.yes (search rules) classes);
}

pub returns-clause-yes : goal.returns-clause-yes
returns-clause-yes c _ classes = told_all (MeetsSame classes) c.args.demands.now c.loop-demand.demand-index (HaveRoots c.loop-demand.roots classes) (search rules) (c.loop-demand.invariant.says classes)
