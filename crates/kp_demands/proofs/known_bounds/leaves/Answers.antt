use Rattle.std.proofs.Common.{arith, sym, subst, ◌≤◌, ◌<◌, ◌^◌, ◌+◌, ℕ, ℤ}
use Rattle.std.specs.Prelude.{◌-ℤ◌, ◌≤ℤ◌, unsigned_abs}
use Rattle.std.specs.Int.{w128}
use Rattle.std.proofs.lemmas.Int.{to_z-of_z, fits_signed_from_abs}
use Rattle.std.proofs.Math.Pow.{pow_mono}
use Rattle.kp_diff.specs.Bounds.{IsWithin}
use Rattle.kp_demands.specs.declared.demand.Demand.TheVariants.{Bound}
use Rattle.kp_demands.specs.Demands.{MeetsBound, IsSized}
use Rattle.kp_demands.proofs.known_bounds.leaves.Goals as goal

below_all : (bits n m : ℕ) → n + bits ≤ 126 → m < 2 ^ bits → m < 2 ^ 127
below_all bits n m light small = let le : 2 ^ bits ≤ 2 ^ 127 = pow_mono {i = bits} {j = 127} (omega (arith, light)) in omega (arith, le, small)

pub between-requires : goal.between-requires
between-requires c =
    let sized : IsSized c.requires.0 (Bound c.in-Bound.first c.in-Bound.second c.in-Bound.most) = subst (IsSized c.requires.0) c.in-Bound.is c.requires.3 in
    (subst (λ n. c.in-Bound.second ≤ n) c.requires.1 sized.1, subst (λ n. c.in-Bound.first ≤ n) c.requires.1 sized.0)

pub returns-in-Bound : goal.returns-in-Bound
returns-in-Bound c = λ no values old met.
    let sized : IsSized c.requires.0 (Bound c.in-Bound.first c.in-Bound.second c.in-Bound.most) = subst (IsSized c.requires.0) c.in-Bound.is c.requires.3 in
    let whole = to_z-of_z w128 c.in-Bound.most (fits_signed_from_abs w128 c.in-Bound.most (below_all c.requires.0.bits c.requires.0.wholes (unsigned_abs c.in-Bound.most) c.requires.2 sized.2)) in
    c.is_left.ensures no (values c.in-Bound.first) (values c.in-Bound.second)
    (subst (λ o. IsWithin o (values c.in-Bound.second -ℤ values c.in-Bound.first)) (sym c.between.ensures)
    (old.each c.in-Bound.second c.in-Bound.first (subst (λ n. c.in-Bound.second ≤ n) c.requires.1 sized.1) (subst (λ n. c.in-Bound.first ≤ n) c.requires.1 sized.0)))
    (subst (λ z. (values c.in-Bound.first -ℤ values c.in-Bound.second) ≤ℤ z) (sym whole) (subst (MeetsBound values) c.in-Bound.is met))
