use Rattle.std.proofs.Common.{◌≡◌, ◌≤◌, sym, ap, subst, ◌∙◌, max, drop, get_or, ◌+◌}
use Rattle.std.proofs.Math.Nat.{max-le}
use Rattle.kp_layers.specs.Layers.{highest}
use Rattle.kp_layers.proofs.Walking.{highest_on}
use Rattle.kp_layers.proofs.open.highest.Goals as goal

pub loop-claim-preserved : goal.loop-claim-preserved
loop-claim-preserved c =
    let layers = c.args.layers.now in
    let claims = c.args.claims.now in
    let i = c.loop-claim.claim-index in
    let most = c.loop-claim.most in
    let is : c.larger-most.result ≡ max most (get_or layers (get_or claims i 0) 0) = c.larger-most.ensures ∙ ap (max most) c.layer_of.ensures in (
      ap (λ m. max m (highest layers (drop (i + 1) claims))) is ∙ highest_on layers claims i most c.loop-claim-test.true ∙ c.loop-claim.invariant.0,
      λ bound low. subst (λ m. m ≤ bound) (sym is) (max-le (c.loop-claim.invariant.1 bound low) (low (get_or claims i 0))),
    )
