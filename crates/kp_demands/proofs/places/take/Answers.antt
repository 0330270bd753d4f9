use Rattle.std.proofs.Common.{arith, ap, sym, subst, ◌∙◌, ◌≤◌, ◌<◌, ◌^◌, ◌+◌, ◌↔◌, ℕ, Some}
use Rattle.std.specs.Prelude.{unsigned_abs}
use Rattle.std.specs.Int.{w128}
use Rattle.std.proofs.lemmas.Int.{to_z-of_z, fits_signed_from_abs}
use Rattle.std.proofs.Math.Pow.{pow_mono}
use Rattle.kp_diff.specs.Bounds.{Meets, narrower}
use Rattle.kp_diff.specs.Rows.{bounds_of}
use Rattle.kp_diff.proofs.Callers.{bounded_is_met}
use Rattle.kp_demands.specs.declared.demand.Demand.TheVariants.{Bound}
use Rattle.kp_demands.specs.Demands.{MeetsBound, IsSized}
use Rattle.kp_demands.proofs.places.take.Goals as goal

below_all : (bits n m : ℕ) → n + bits ≤ 126 → m < 2 ^ bits → m < 2 ^ 127
below_all bits n m light small = let le : 2 ^ bits ≤ 2 ^ 127 = pow_mono {i = bits} {j = 127} (omega (arith, light)) in omega (arith, le, small)

pub returns-in-Bound-clause-met : goal.returns-in-Bound-clause-met
returns-in-Bound-clause-met c values =
    let sized : IsSized c.requires.0 (Bound c.in-Bound.first c.in-Bound.second c.in-Bound.most) = subst (IsSized c.requires.0) c.in-Bound.is c.requires.3 in
    let first : c.in-Bound.first ≤ c.args.matrix.now.size = subst (λ n. c.in-Bound.first ≤ n) c.requires.1 sized.0 in
    let second : c.in-Bound.second ≤ c.args.matrix.now.size = subst (λ n. c.in-Bound.second ≤ n) c.requires.1 sized.1 in
    let whole = to_z-of_z w128 c.in-Bound.most (fits_signed_from_abs w128 c.in-Bound.most (below_all c.requires.0.bits c.requires.0.wholes (unsigned_abs c.in-Bound.most) c.requires.2 sized.2)) in
    subst (λ d. Meets c.args.matrix.now.size (bounds_of c.bound.new.self) values ↔ (Meets c.args.matrix.now.size (bounds_of c.args.matrix.now) values × MeetsBound values d)) (sym c.in-Bound.is)
    (bounded_is_met c.args.matrix.now.size (bounds_of c.args.matrix.now) (bounds_of c.bound.new.self) c.in-Bound.first c.in-Bound.second c.in-Bound.most values first second
    (c.bound.ensures.here ∙ ap (λ z. narrower (bounds_of c.args.matrix.now c.in-Bound.first c.in-Bound.second) (Some z)) whole) c.bound.ensures.elsewhere)
