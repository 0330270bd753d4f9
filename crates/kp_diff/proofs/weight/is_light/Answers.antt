use Rattle.std.proofs.Common.{arith, ◌∙◌, sym, subst, ◌<◌, ◌-◌, ℕ}
use Rattle.std.proofs.lemmas.List.{length-map}
use Rattle.std.proofs.lemmas.Nat.{pow_below}
use Rattle.kp_diff.specs.Bounds.{IsBelow}
use Rattle.kp_diff.specs.Rows.{rows_of, bound_in}
use Rattle.kp_diff.proofs.Sizes.{weight_is, weight_means}
use Rattle.kp_diff.proofs.weight.is_light.Goals as goal

few : (s : ℕ) → 126 - s < 128
few s = omega arith

pub pow-requires : goal.pow-requires
pow-requires c = pow_below (126 - c.args.size) 128 (few c.args.size)

pub returns : goal.returns
returns c =
    let many = sym (length-map c.args.rows.now (λ v. v.items)) ∙ c.requires.rows_long in (
      λ t. weight_is c.args.size (rows_of c.args.rows.now) c.if-size-gt126.false c.requires
          (λ x hx y hy. subst (λ n. IsBelow n (bound_in (rows_of c.args.rows.now) x y)) c.pow.ensures (c.are_rows_below.ensures.0 t x (subst (λ n. x < n) (sym many) hx) y hy)),
      λ w. c.are_rows_below.ensures.1
          (λ x hx y hy. subst (λ n. IsBelow n (bound_in (rows_of c.args.rows.now) x y)) (sym c.pow.ensures) (weight_means c.args.size (rows_of c.args.rows.now) c.requires w x (subst (λ n. x < n) many hx) y hy)),
    )
