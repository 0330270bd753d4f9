use Rattle.std.proofs.Common.{rules, arith, ◌≡◌, ◌∙◌, subst, ◌+◌, ◌<◌, ℕ, suc, length}
use Rattle.kp_diff.specs.Rows.{rows_of, IsRowUpTo, IsRoundUpTo}
use Rattle.kp_diff.proofs.RoundSteps.{round_step}
use Rattle.kp_diff.proofs.elimination.round.Goals as goal

one_more : (a : ℕ) → suc a ≡ a + 1
one_more a = omega arith

pub loop-x-preserved : goal.loop-x-preserved
loop-x-preserved c =
    let hx : c.loop-x.x < length c.args.rows.now = search rules in
    let row : IsRowUpTo (length c.args.rows.now) (rows_of c.loop-x.rows) (rows_of c.lower_row.new.rows) c.args.k c.loop-x.x (length c.args.rows.now) =
    subst (λ n. IsRowUpTo n (rows_of c.loop-x.rows) (rows_of c.lower_row.new.rows) c.args.k c.loop-x.x n) c.loop-x.invariant.0 c.lower_row.ensures.row in (
      c.lower_row.ensures.long ∙ c.loop-x.invariant.0,
      subst (λ z. IsRoundUpTo (length c.args.rows.now) (rows_of c.args.rows.now) (rows_of c.lower_row.new.rows) c.args.k z) (one_more c.loop-x.x)
          (round_step (length c.args.rows.now) (rows_of c.args.rows.now) (rows_of c.loop-x.rows) (rows_of c.lower_row.new.rows) c.args.k c.loop-x.x c.requires.place hx c.requires.sound c.loop-x.invariant.1 row),
    )
