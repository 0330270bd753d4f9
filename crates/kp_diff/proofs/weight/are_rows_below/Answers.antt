use Rattle.std.proofs.Common.{arith, ◌≡◌, refl, sym, subst, ◌<◌, ℕ, Bool, true, false, length, get_or, None, []}
use Rattle.kp_diff.specs.Bounds.{IsBelow}
use Rattle.kp_diff.specs.Rows.{rows_of}
use Rattle.kp_diff.proofs.Cells.{row_read, below_step}
use Rattle.kp_diff.proofs.weight.are_rows_below.Goals as goal

not_true : {P : Type 0} (b : Bool) → b ≡ false → b ≡ true → P
not_true b e t = absurd (grind (arith, e, t))

pub returns-then-not-is_row_below : goal.returns-then-not-is_row_below
returns-then-not-is_row_below c =
    let row : c.deref.result.now ≡ get_or (rows_of c.args.rows.now) c.loop-row.row-index [] = row_read c.args.rows.now c.loop-row.row-index c.row-item.result c.deref.result.now c.loop-row-test.true c.row-item.is c.deref.ensures.value in (
      λ f. not_true false refl f,
      λ all. not_true c.is_row_below.result c.if-not-is_row_below.true
          (c.is_row_below.ensures.1 (subst (λ r. (y : ℕ) → y < length r → IsBelow c.args.limit (get_or r y None)) (sym row) (all c.loop-row.row-index c.loop-row-test.true))),
    )

pub loop-row-preserved : goal.loop-row-preserved
loop-row-preserved c =
    let row : c.deref.result.now ≡ get_or (rows_of c.args.rows.now) c.loop-row.row-index [] = row_read c.args.rows.now c.loop-row.row-index c.row-item.result c.deref.result.now c.loop-row-test.true c.row-item.is c.deref.ensures.value in
    below_step (rows_of c.args.rows.now) c.args.limit c.loop-row.row-index
    (subst (λ r. (y : ℕ) → y < length r → IsBelow c.args.limit (get_or r y None)) row (c.is_row_below.ensures.0 c.if-not-is_row_below.false))
    c.loop-row.invariant
