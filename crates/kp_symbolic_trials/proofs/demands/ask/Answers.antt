use Rattle.std.proofs.Common.{rules, arith, refl}
use Rattle.kp_demands.specs.Demands.{Sizes}
use Rattle.kp_symbolic_trials.proofs.demands.ask.Goals as goal

pub meet-requires : goal.meet-requires
meet-requires c =
    let s : Sizes = record { wholes = 2; truths = 2; classes = 4; bits = 2 } in
    (s, c.in_ok-tables.ensures.sizes 2, omega arith, (c.allow_all.ensures s (record { wholes = refl; truths = refl; classes = refl; bits = refl })).0 (search rules))
