use Rattle.std.proofs.Common.{arith, ◌≡◌, ◌≢◌, ◌∙◌, sym, refl, subst, ap, ◌<◌, ◌≤◌, ◌⊎◌, ℕ, suc, Some}
use Rattle.std.specs.Vec.{with_items}
use Rattle.std.specs.Int.{w128}
use Rattle.std.proofs.lemmas.Int.{to_z-of_z}
use Rattle.std.proofs.lemmas.List.{with_items_is}
use Rattle.kp_diff.specs.Bounds.{narrower}
use Rattle.kp_diff.specs.Rows.{bounds_of, rows_of, bound_in, IsSquare}
use Rattle.kp_diff.proofs.RowSteps.{square_stays, changed_here, kept_elsewhere}
use Rattle.kp_diff.proofs.Views.{said_of_fields}
use Rattle.kp_diff.proofs.matrix.Matrix.bound.Goals as goal

below : (x s : ℕ) → x ≤ s → x < suc s
below x s h = omega arith

pub invariant_of-self : goal.invariant_of-self
invariant_of-self c =
    let places : (c.args.x ≤ c.self.inside.size) × (c.args.y ≤ c.self.inside.size) = subst (λ m. (c.args.x ≤ m.size) × (c.args.y ≤ m.size)) (sym c.self.view_is) c.requires in
    let square : IsSquare (suc c.self.inside.size) (rows_of c.deref_mut.result.now) = subst (λ r. IsSquare (suc c.self.inside.size) (rows_of r)) (sym c.deref_mut.ensures.value) c.self.invariant.square in
    let after : (with_items c.self.inside.rows c.narrow.new.rows).items ≡ c.narrow.new.rows = with_items_is c.self.inside.rows c.narrow.new.rows (c.narrow.ensures.long ∙ c.deref_mut.ensures.len) in
    record {
      square = subst (λ r. IsSquare (suc c.self.inside.size) (rows_of r)) (sym after) (subst (λ r. IsSquare (suc c.self.inside.size) r) (sym c.narrow.ensures.rows)
          (square_stays (suc c.self.inside.size) (rows_of c.deref_mut.result.now) c.args.x c.args.y _ (below c.args.x c.self.inside.size places.0) square));
      values_long = c.self.invariant.values_long;
    }

pub returns-clause-here : goal.returns-clause-here
returns-clause-here c =
    let places : (c.args.x ≤ c.self.inside.size) × (c.args.y ≤ c.self.inside.size) = subst (λ m. (c.args.x ≤ m.size) × (c.args.y ≤ m.size)) (sym c.self.view_is) c.requires in
    let square : IsSquare (suc c.self.inside.size) (rows_of c.deref_mut.result.now) = subst (λ r. IsSquare (suc c.self.inside.size) (rows_of r)) (sym c.deref_mut.ensures.value) c.self.invariant.square in
    let after : (with_items c.self.inside.rows c.narrow.new.rows).items ≡ c.narrow.new.rows = with_items_is c.self.inside.rows c.narrow.new.rows (c.narrow.ensures.long ∙ c.deref_mut.ensures.len) in
    said_of_fields (λ m n. bounds_of n c.args.x c.args.y ≡ narrower (bounds_of m c.args.x c.args.y) (Some c.args.c)) c.self.inside.size
    c.deref_mut.result.now c.self.inside.rows.items c.narrow.new.rows (with_items c.self.inside.rows c.narrow.new.rows).items c.self.inside.values.items c.self.inside.values.items c.self.inside.values.items c.args.self.now
    c.deref_mut.ensures.value after refl c.self.view_is
    (ap (λ r. bound_in r c.args.x c.args.y) c.narrow.ensures.rows
    ∙ changed_here (suc c.self.inside.size) (rows_of c.deref_mut.result.now) c.args.x c.args.y _ (below c.args.x c.self.inside.size places.0) (below c.args.y c.self.inside.size places.1) square
    ∙ ap (λ z. narrower (bound_in (rows_of c.deref_mut.result.now) c.args.x c.args.y) (Some z)) (to_z-of_z w128 c.args.c c.ranges.c))

pub returns-clause-elsewhere : goal.returns-clause-elsewhere
returns-clause-elsewhere c =
    let places : (c.args.x ≤ c.self.inside.size) × (c.args.y ≤ c.self.inside.size) = subst (λ m. (c.args.x ≤ m.size) × (c.args.y ≤ m.size)) (sym c.self.view_is) c.requires in
    let square : IsSquare (suc c.self.inside.size) (rows_of c.deref_mut.result.now) = subst (λ r. IsSquare (suc c.self.inside.size) (rows_of r)) (sym c.deref_mut.ensures.value) c.self.invariant.square in
    let after : (with_items c.self.inside.rows c.narrow.new.rows).items ≡ c.narrow.new.rows = with_items_is c.self.inside.rows c.narrow.new.rows (c.narrow.ensures.long ∙ c.deref_mut.ensures.len) in
    said_of_fields (λ m n. (i j : ℕ) → (i ≢ c.args.x) ⊎ (j ≢ c.args.y) → bounds_of n i j ≡ bounds_of m i j) c.self.inside.size
    c.deref_mut.result.now c.self.inside.rows.items c.narrow.new.rows (with_items c.self.inside.rows c.narrow.new.rows).items c.self.inside.values.items c.self.inside.values.items c.self.inside.values.items c.args.self.now
    c.deref_mut.ensures.value after refl c.self.view_is
    (λ i j other. ap (λ r. bound_in r i j) c.narrow.ensures.rows
    ∙ kept_elsewhere (suc c.self.inside.size) (rows_of c.deref_mut.result.now) c.args.x c.args.y _ (below c.args.x c.self.inside.size places.0) square i j other)
