use Rattle.std.proofs.Common.{rules, arith, ◌≡◌, ◌∙◌, sym, subst, ◌+◌, ◌<◌, ℕ, suc, length}
use Rattle.std.proofs.lemmas.List.{length-map}
use Rattle.kp_diff.specs.Rows.{rows_of, bound_in, IsRowUpTo}
use Rattle.kp_diff.proofs.Cells.{cell_is, row_len, row_long}
use Rattle.kp_diff.proofs.RowSteps.{row_step, row_stays}
use Rattle.kp_diff.proofs.elimination.lower_row.Goals as goal

one_more : (a : ℕ) → suc a ≡ a + 1
one_more a = omega arith

pub index-requires : goal.index-requires
index-requires c = subst (λ n. c.args.k < n) (sym (row_len (length c.args.rows.now) c.args.rows.now c.args.x c.index-rows-x.result c.requires.square c.requires.places.1)) c.requires.places.0

pub returns-then-is_free-clause-row : goal.returns-then-is_free-clause-row
returns-then-is_free-clause-row c =
    let cell : c.index.result.now ≡ bound_in (rows_of c.args.rows.now) c.args.x c.args.k =
    c.index.ensures ∙ cell_is c.args.rows.now c.args.x c.args.k c.index-rows-x.result c.index.result.now c.requires.places.1
    (subst (λ n. c.args.k < n) (sym (row_long (length c.args.rows.now) c.args.rows.now c.args.x c.index-rows-x.result c.requires.square c.requires.places.1)) c.requires.places.0) in
    row_stays (length c.args.rows.now) (rows_of c.args.rows.now) c.args.k c.args.x (length c.args.rows.now) c.requires.square (c.is_free.ensures c.if-is_free.true ∙ cell)

pub loop-y-preserved : goal.loop-y-preserved
loop-y-preserved c =
    let hy : c.loop-y.y < length c.args.rows.now = search rules in
    let r : IsRowUpTo (length c.args.rows.now) (rows_of c.args.rows.now) (rows_of c.lower.new.rows) c.args.k c.args.x (suc c.loop-y.y) =
    row_step (length c.args.rows.now) (rows_of c.args.rows.now) (rows_of c.loop-y.rows) (rows_of c.lower.new.rows) c.args.k c.args.x c.loop-y.y c.requires.sound c.requires.places.1 hy c.loop-y.invariant.1 c.lower.ensures in (
      sym (length-map c.lower.new.rows (λ v. v.items)) ∙ r.square.rows_long,
      subst (λ z. IsRowUpTo (length c.args.rows.now) (rows_of c.args.rows.now) (rows_of c.lower.new.rows) c.args.k c.args.x z) (one_more c.loop-y.y) r,
    )
