use Rattle.std.proofs.Common.{arith, refl, sym, subst, ◌≡◌, ◌∙◌, ◌↔◌, ◌<◌, ◌≤◌, ℕ, ℤ, suc}
use Rattle.std.specs.Vec.{with_items}
use Rattle.std.proofs.lemmas.List.{length-map, with_items_is}
use Rattle.kp_diff.specs.declared.matrix.Feasibility.TheVariants.{No}
use Rattle.kp_diff.specs.Bounds.{Meets, HaveBits}
use Rattle.kp_diff.specs.Rows.{bounds_of, rows_of, bound_in, IsSquare}
use Rattle.kp_diff.proofs.Views.{said_of_fields}
use Rattle.kp_diff.proofs.matrix.Matrix.pass.Goals as goal

within : (k n s : ℕ) → k ≤ s → n ≡ suc s → k < n
within k n s h e = omega arith

pub pass_over-requires-clause-place : goal.pass_over-requires-clause-place
pass_over-requires-clause-place c =
    let square : IsSquare (suc c.self.inside.size) (rows_of c.deref_mut.result.now) = subst (λ r. IsSquare (suc c.self.inside.size) (rows_of r)) (sym c.deref_mut.ensures.value) c.self.invariant.square in
    within c.args.k _ c.self.inside.size (subst (λ m. c.args.k ≤ m.size) (sym c.self.view_is) c.requires.place) (sym (length-map c.deref_mut.result.now (λ v. v.items)) ∙ square.rows_long)

pub pass_over-requires-clause-bits : goal.pass_over-requires-clause-bits
pass_over-requires-clause-bits c = (
  c.requires.bits.0,
  c.requires.bits.1,
  subst (λ r. HaveBits c.requires.bits.0 c.self.inside.size (bound_in (rows_of r))) (sym c.deref_mut.ensures.value)
      (subst (λ m. HaveBits c.requires.bits.0 m.size (bounds_of m)) (sym c.self.view_is) c.requires.bits.2),
)

pub returns-clause-same : goal.returns-clause-same
returns-clause-same c = said_of_fields (λ m n. (values : ℕ → ℤ) → Meets m.size (bounds_of m) values ↔ Meets m.size (bounds_of n) values) c.self.inside.size
    c.deref_mut.result.now c.self.inside.rows.items c.pass_over.new.rows (with_items c.self.inside.rows c.pass_over.new.rows).items c.self.inside.values.items c.self.inside.values.items c.self.inside.values.items c.args.self.now
    c.deref_mut.ensures.value (with_items_is c.self.inside.rows c.pass_over.new.rows (c.pass_over.ensures.long ∙ c.deref_mut.ensures.len)) refl c.self.view_is
    c.pass_over.ensures.same

pub returns-clause-bits : goal.returns-clause-bits
returns-clause-bits c = said_of_fields (λ m n. (bits : ℕ) → HaveBits bits m.size (bounds_of m) → HaveBits (suc bits) m.size (bounds_of n)) c.self.inside.size
    c.deref_mut.result.now c.self.inside.rows.items c.pass_over.new.rows (with_items c.self.inside.rows c.pass_over.new.rows).items c.self.inside.values.items c.self.inside.values.items c.self.inside.values.items c.args.self.now
    c.deref_mut.ensures.value (with_items_is c.self.inside.rows c.pass_over.new.rows (c.pass_over.ensures.long ∙ c.deref_mut.ensures.len)) refl c.self.view_is
    c.pass_over.ensures.bits

pub returns-clause-no : goal.returns-clause-no
returns-clause-no c = said_of_fields (λ m n. c.pass_over.result ≡ No → (values : ℕ → ℤ) → ¬ Meets m.size (bounds_of m) values) c.self.inside.size
    c.deref_mut.result.now c.self.inside.rows.items c.pass_over.new.rows (with_items c.self.inside.rows c.pass_over.new.rows).items c.self.inside.values.items c.self.inside.values.items c.self.inside.values.items c.args.self.now
    c.deref_mut.ensures.value (with_items_is c.self.inside.rows c.pass_over.new.rows (c.pass_over.ensures.long ∙ c.deref_mut.ensures.len)) refl c.self.view_is
    c.pass_over.ensures.no
