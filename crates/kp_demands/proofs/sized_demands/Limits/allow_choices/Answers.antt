use Rattle.std.proofs.Common.{rules, refl, List, sym, subst, IsTrue, map, Vec, Global}
use Rattle.std.specs.List.{AllByRecursion}
use Rattle.kp_demands.specs.Demands.{IsSized}
use Rattle.kp_demands.specs.declared.demand.Demand.{Demand}
use Rattle.kp_demands.proofs.Lists.{all_images, image_at}
use Rattle.kp_demands.proofs.sized_demands.Limits.allow_choices.Goals as goal

pub returns-then-not-allow_ways : goal.returns-then-not-allow_ways
returns-then-not-allow_ways c s limits = (
  (λ t. absurd (cc t)),
  (λ all. subst IsTrue c.if-not-allow_ways.true ((c.allow_ways.ensures s limits).1
      (subst (λ (ws : List (Vec Demand Global)). AllByRecursion (AllByRecursion (IsSized s)) (map (λ (w : Vec Demand Global). w.items) ws)) (sym c.deref.ensures.value) (image_at (AllByRecursion (AllByRecursion (IsSized s))) (λ (c : Vec (Vec Demand Global) Global). map (λ (w : Vec Demand Global). w.items) c.items) c.args.choices.now c.loop-ways.ways-index c.ways-item.result c.loop-ways-test.true c.ways-item.is all)))),
)

pub returns : goal.returns
returns c s limits =
    ((λ t. all_images (AllByRecursion (AllByRecursion (IsSized s))) (λ (c : Vec (Vec Demand Global) Global). map (λ (w : Vec Demand Global). w.items) c.items) c.args.choices.now c.loop-ways.ways-index (search rules) (c.loop-ways.invariant s limits)), (λ all. refl))
