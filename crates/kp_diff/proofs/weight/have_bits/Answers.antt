use Rattle.std.proofs.Common.{arith, ◌∙◌, sym, subst, ◌<◌, ◌≤◌, ℕ, suc}
use Rattle.std.proofs.lemmas.List.{length-map}
use Rattle.std.proofs.lemmas.Nat.{pow_below}
use Rattle.kp_diff.specs.Bounds.{IsBelow}
use Rattle.kp_diff.specs.Rows.{rows_of, bound_in}
use Rattle.kp_diff.proofs.weight.have_bits.Goals as goal

one_more : (a b : ℕ) → a ≤ b → a < suc b
one_more a b h = omega arith

pub pow-requires : goal.pow-requires
pow-requires c = pow_below c.args.bits 128 c.requires.few

pub returns : goal.returns
returns c t x y i j =
    let many = sym (length-map c.args.rows.now (λ v. v.items)) ∙ c.requires.square.rows_long in
    subst (λ n. IsBelow n (bound_in (rows_of c.args.rows.now) x y)) c.pow.ensures
    (c.are_rows_below.ensures.0 t x (subst (λ n. x < n) (sym many) (one_more x c.args.size i)) y (subst (λ n. y < n) (sym (c.requires.square.each_long x (one_more x c.args.size i))) (one_more y c.args.size j)))
