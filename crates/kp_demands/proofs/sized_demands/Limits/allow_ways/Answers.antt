use Rattle.std.proofs.Common.{rules, refl, sym, subst, IsTrue, Vec, Global}
use Rattle.std.specs.List.{AllByRecursion}
use Rattle.kp_demands.specs.Demands.{IsSized}
use Rattle.kp_demands.specs.declared.demand.Demand.{Demand}
use Rattle.kp_demands.proofs.Lists.{all_images, image_at}
use Rattle.kp_demands.proofs.sized_demands.Limits.allow_ways.Goals as goal

pub returns-then-not-allow_all : goal.returns-then-not-allow_all
returns-then-not-allow_all c s limits = (
  (λ t. absurd (cc t)),
  (λ all. subst IsTrue c.if-not-allow_all.true ((c.allow_all.ensures s limits).1
      (subst (AllByRecursion (IsSized s)) (sym c.deref.ensures.value) (image_at (AllByRecursion (IsSized s)) (λ (w : Vec Demand Global). w.items) c.args.ways.now c.loop-way.way-index c.way-item.result c.loop-way-test.true c.way-item.is all)))),
)

pub returns : goal.returns
returns c s limits =
    ((λ t. all_images (AllByRecursion (IsSized s)) (λ (w : Vec Demand Global). w.items) c.args.ways.now c.loop-way.way-index (search rules) (c.loop-way.invariant s limits)), (λ all. refl))
