use Rattle.std.proofs.Common.{arith, ◌≡◌, ◌∙◌, sym, subst, ap, ◌<◌, ◌≤◌, ℕ, suc, length, None, get_or}
use Rattle.std.specs.Vec.{with_items}
use Rattle.std.proofs.lemmas.List.{length-map, with_items_is}
use Rattle.kp_diff.specs.Bounds.{no_bounds}
use Rattle.kp_diff.proofs.Cells.{row_len}
use Rattle.kp_diff.proofs.Steps.{free_step}
use Rattle.kp_diff.proofs.rows.free_all.Goals as goal

below : (x n s : ℕ) → x < n → n ≡ suc s → x < suc s
below x n s h e = omega arith

before : (y n s : ℕ) → y ≤ s → n ≡ suc s → y < n
before y n s h e = omega arith

pub loop-x-preserved : goal.loop-x-preserved
loop-x-preserved c =
    let hx : c.loop-x.x < suc c.args.size = below c.loop-x.x _ c.args.size c.loop-x-test.true (sym (length-map c.args.rows.now (λ v. v.items)) ∙ c.requires.rows_long) in
    let long : length c.deref_mut.result.now ≡ suc c.args.size = c.deref_mut.ensures.len ∙ row_len (suc c.args.size) c.loop-x.rows c.loop-x.x c.index-rows-x.result c.loop-x.invariant.1 hx in
    let is : (with_items (get_or c.loop-x.rows c.loop-x.x c.index-rows-x.result) c.free_one.new.row).items ≡ c.free_one.new.row =
    with_items_is (get_or c.loop-x.rows c.loop-x.x c.index-rows-x.result) c.free_one.new.row (c.free_one.auto.row ∙ c.deref_mut.ensures.len) in
    free_step c.args.size c.loop-x.rows c.loop-x.x (with_items (get_or c.loop-x.rows c.loop-x.x c.index-rows-x.result) c.free_one.new.row)
    c.loop-x.invariant.0 c.loop-x.invariant.1 hx
    (ap length is ∙ c.free_one.auto.row ∙ long)
    (λ y h. subst (λ r. get_or r y None ≡ no_bounds c.loop-x.x y) (sym is) (c.free_one.ensures y (before y _ c.args.size h long)))
    c.loop-x.invariant.2
