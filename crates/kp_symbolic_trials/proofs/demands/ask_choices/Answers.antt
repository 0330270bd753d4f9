use Rattle.std.proofs.Common.{rules, arith, refl, subst}
use Rattle.std.specs.List.{AllByRecursion}
use Rattle.kp_demands.specs.Demands.{Sizes, IsSized}
use Rattle.kp_demands.specs.Tabled.{AreLimitsOf}
use Rattle.kp_symbolic_trials.proofs.demands.ask_choices.Goals as goal

abbrev sizes : Sizes
sizes = record { wholes = 2; truths = 2; classes = 4; bits = 2 }

limits : AreLimitsOf sizes (record { wholes = 2; truths = 2; classes = 4; bound = 4 })
limits = record { wholes = refl; truths = refl; classes = refl; bits = refl }

pub can_be_met-requires : goal.can_be_met-requires
can_be_met-requires c = (
  sizes,
  c.in_ok-tables.ensures.sizes 2,
  omega arith,
  subst (AllByRecursion (IsSized sizes)) c.deref.ensures.value ((c.allow_all.ensures sizes limits).0 (search rules)),
  (c.allow_choices.ensures sizes limits).0 (search rules),
)
