use Rattle.std.proofs.Common.{ap, ◌≡◌, ◌∙◌, ◌↔◌, ◌+◌, ℕ, ℤ, suc}
use Rattle.std.specs.Vec.{with_items}
use Rattle.std.proofs.lemmas.List.{with_items_is}
use Rattle.kp_diff.specs.declared.matrix.Feasibility.TheVariants.{Yes, No}
use Rattle.kp_diff.specs.Bounds.{Meets, IsClosed, HaveBits}
use Rattle.kp_diff.specs.Rows.{bounds_of, values_of, value_in}
use Rattle.kp_diff.proofs.Views.{said_of_fields}
use Rattle.kp_diff.proofs.matrix.Matrix.feasible.Goals as goal

pub returns-clause-yes : goal.returns-clause-yes
returns-clause-yes c = said_of_fields (λ m n. c.solve.result ≡ Yes → Meets m.size (bounds_of m) (values_of n)) c.self.inside.size
    c.deref_mut.result.now c.self.inside.rows.items c.solve.new.rows (with_items c.self.inside.rows c.solve.new.rows).items c.self.inside.values.items c.solve.new.values (with_items c.self.inside.values c.solve.new.values).items c.args.self.now
    c.deref_mut.ensures.value (with_items_is c.self.inside.rows c.solve.new.rows (c.solve.ensures.rows ∙ c.deref_mut.ensures.len))
    (with_items_is c.self.inside.values c.solve.new.values (c.solve.auto.values ∙ c.deref_mut-2.ensures.len)) c.self.view_is
    c.solve.ensures.yes

pub returns-clause-closed : goal.returns-clause-closed
returns-clause-closed c = said_of_fields (λ m n. c.solve.result ≡ Yes → IsClosed m.size (bounds_of n)) c.self.inside.size
    c.deref_mut.result.now c.self.inside.rows.items c.solve.new.rows (with_items c.self.inside.rows c.solve.new.rows).items c.self.inside.values.items c.solve.new.values (with_items c.self.inside.values c.solve.new.values).items c.args.self.now
    c.deref_mut.ensures.value (with_items_is c.self.inside.rows c.solve.new.rows (c.solve.ensures.rows ∙ c.deref_mut.ensures.len))
    (with_items_is c.self.inside.values c.solve.new.values (c.solve.auto.values ∙ c.deref_mut-2.ensures.len)) c.self.view_is
    c.solve.ensures.closed

pub returns-clause-kept : goal.returns-clause-kept
returns-clause-kept c = said_of_fields (λ m n. c.solve.result ≡ No → (i : ℕ) → values_of n i ≡ values_of m i) c.self.inside.size
    c.deref_mut.result.now c.self.inside.rows.items c.solve.new.rows (with_items c.self.inside.rows c.solve.new.rows).items c.self.inside.values.items c.solve.new.values (with_items c.self.inside.values c.solve.new.values).items c.args.self.now
    c.deref_mut.ensures.value (with_items_is c.self.inside.rows c.solve.new.rows (c.solve.ensures.rows ∙ c.deref_mut.ensures.len))
    (with_items_is c.self.inside.values c.solve.new.values (c.solve.auto.values ∙ c.deref_mut-2.ensures.len)) c.self.view_is
    (λ no i. ap (λ v. value_in v i) (c.solve.ensures.kept no ∙ c.deref_mut-2.ensures.value))

pub returns-clause-no : goal.returns-clause-no
returns-clause-no c = said_of_fields (λ m n. c.solve.result ≡ No → (values : ℕ → ℤ) → ¬ Meets m.size (bounds_of m) values) c.self.inside.size
    c.deref_mut.result.now c.self.inside.rows.items c.solve.new.rows (with_items c.self.inside.rows c.solve.new.rows).items c.self.inside.values.items c.solve.new.values (with_items c.self.inside.values c.solve.new.values).items c.args.self.now
    c.deref_mut.ensures.value (with_items_is c.self.inside.rows c.solve.new.rows (c.solve.ensures.rows ∙ c.deref_mut.ensures.len))
    (with_items_is c.self.inside.values c.solve.new.values (c.solve.auto.values ∙ c.deref_mut-2.ensures.len)) c.self.view_is
    c.solve.ensures.no

pub returns-clause-same : goal.returns-clause-same
returns-clause-same c = said_of_fields (λ m n. (values : ℕ → ℤ) → Meets m.size (bounds_of m) values ↔ Meets m.size (bounds_of n) values) c.self.inside.size
    c.deref_mut.result.now c.self.inside.rows.items c.solve.new.rows (with_items c.self.inside.rows c.solve.new.rows).items c.self.inside.values.items c.solve.new.values (with_items c.self.inside.values c.solve.new.values).items c.args.self.now
    c.deref_mut.ensures.value (with_items_is c.self.inside.rows c.solve.new.rows (c.solve.ensures.rows ∙ c.deref_mut.ensures.len))
    (with_items_is c.self.inside.values c.solve.new.values (c.solve.auto.values ∙ c.deref_mut-2.ensures.len)) c.self.view_is
    c.solve.ensures.same

pub returns-clause-bits : goal.returns-clause-bits
returns-clause-bits c = said_of_fields (λ m n. (bits : ℕ) → HaveBits bits m.size (bounds_of m) → HaveBits (suc (m.size + bits)) m.size (bounds_of n)) c.self.inside.size
    c.deref_mut.result.now c.self.inside.rows.items c.solve.new.rows (with_items c.self.inside.rows c.solve.new.rows).items c.self.inside.values.items c.solve.new.values (with_items c.self.inside.values c.solve.new.values).items c.args.self.now
    c.deref_mut.ensures.value (with_items_is c.self.inside.rows c.solve.new.rows (c.solve.ensures.rows ∙ c.deref_mut.ensures.len))
    (with_items_is c.self.inside.values c.solve.new.values (c.solve.auto.values ∙ c.deref_mut-2.ensures.len)) c.self.view_is
    c.solve.ensures.bits
