use Rattle.std.proofs.Common.{arith, sym, ap, subst, ◌∙◌, ◌<◌, ◌≤◌, ℕ, suc, get_or}
use Rattle.std.specs.Vec.{vec_len}
use Rattle.kp_diff.proofs.Cells.{within, row_long, row_len, cell_is}
use Rattle.kp_diff.proofs.rows.bound_at.Goals as goal

below : (x s : ℕ) → x ≤ s → x < suc s
below x s h = omega arith

pub index-requires : goal.index-requires
index-requires c = subst (λ v. c.args.y < vec_len v) (sym c.index-rows-x.is) (subst (λ n. c.args.y < n) (sym (row_len (suc c.args.size) c.args.rows.now c.args.x c.index-rows-x.result c.requires.square (below c.args.x c.args.size c.requires.places.0))) (below c.args.y c.args.size c.requires.places.1))

pub returns : goal.returns
returns c =
    let row = below c.args.x c.args.size c.requires.places.0 in
    c.index.ensures ∙ ap (λ v. get_or v.items c.args.y c.index.result.now) c.index-rows-x.is
    ∙ cell_is c.args.rows.now c.args.x c.args.y c.index-rows-x.result c.index.result.now (within (suc c.args.size) c.args.rows.now c.args.x c.requires.square row)
    (subst (λ n. c.args.y < n) (sym (row_long (suc c.args.size) c.args.rows.now c.args.x c.index-rows-x.result c.requires.square row)) (below c.args.y c.args.size c.requires.places.1))
