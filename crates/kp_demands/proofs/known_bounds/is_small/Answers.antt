use Rattle.std.proofs.Common.{rules, arith, subst, ◌<◌}
use Rattle.std.specs.Prelude.{unsigned_abs}
use Rattle.std.proofs.lemmas.Nat.{pow_below}
use Rattle.kp_demands.proofs.known_bounds.is_small.Goals as goal

pub pow-requires : goal.pow-requires
pow-requires c = pow_below 78 128 (omega arith)

pub returns : goal.returns
returns c h = subst (λ n. unsigned_abs c.args.number < n) c.pow.ensures (search (rules, h))
