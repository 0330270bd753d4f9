use Rattle.std.proofs.Common.{rules, arith, ap, ◌≡◌, ◌∙◌, sym, subst, ◌≤◌, ◌<◌, ◌+◌, ℕ, ℤ, suc, Some, FitsSigned, to_z, of_z}
use Rattle.std.specs.Int.{w128}
use Rattle.std.proofs.lemmas.Int.{to_z-of_z}
use Rattle.kp_diff.specs.Bounds.{HaveBits, narrower}
use Rattle.kp_diff.specs.Rows.{Differences, bounds_of}
use Rattle.kp_diff.proofs.Callers.{bounded_is_met, bounded_has_bits}
use Rattle.kp_demands.proofs.Tightening.{passed, at_size, bits_at_size}
use Rattle.kp_demands.proofs.known_bounds.tighten.Goals as goal

-- the number that the code has is the one that is meant
here : (m n : Differences) (x y : ℕ) (most : ℤ) → FitsSigned w128 most → bounds_of n x y ≡ narrower (bounds_of m x y) (Some (to_z w128 (of_z w128 most))) → bounds_of n x y ≡ narrower (bounds_of m x y) (Some most)
here m n x y most fits h = h ∙ ap (λ z. narrower (bounds_of m x y) (Some z)) (to_z-of_z w128 most fits)

room_before : (b : ℕ) → b + 2 ≤ 127 → b < 127
room_before b h = omega (arith, h)

room_after : (b : ℕ) → b + 2 ≤ 127 → suc b < 127
room_after b h = omega (arith, h)

pub passes-requires-clause-place : goal.passes-requires-clause-place
passes-requires-clause-place c = subst (λ n. c.args.first ≤ n) (sym c.bound.ensures.size) c.requires.places.0

pub passes-requires-clause-bits : goal.passes-requires-clause-bits
passes-requires-clause-bits c = (
  c.requires.bits.0,
  room_before c.requires.bits.0 c.requires.bits.1,
  bits_at_size c.requires.bits.0 c.args.matrix.now.size c.bound.new.self.size (bounds_of c.bound.new.self) c.bound.ensures.size
      (bounded_has_bits c.requires.bits.0 c.args.matrix.now.size (bounds_of c.args.matrix.now) (bounds_of c.bound.new.self) c.args.first c.args.second c.args.most (here c.args.matrix.now c.bound.new.self c.args.first c.args.second c.args.most c.ranges.most c.bound.ensures.here) c.bound.ensures.elsewhere c.requires.bits.2 c.requires.bits.3),
)

pub returns-then-not-passes-clause-no : goal.returns-then-not-passes-clause-no
returns-then-not-passes-clause-no c = λ _ values old most. c.passes.ensures.no (search rules) values (at_size c.args.matrix.now.size c.bound.new.self.size (bounds_of c.bound.new.self) values c.bound.ensures.size
    ((bounded_is_met c.args.matrix.now.size (bounds_of c.args.matrix.now) (bounds_of c.bound.new.self) c.args.first c.args.second c.args.most values c.requires.places.0 c.requires.places.1 (here c.args.matrix.now c.bound.new.self c.args.first c.args.second c.args.most c.ranges.most c.bound.ensures.here) c.bound.ensures.elsewhere).1 (old, most)))

pub passes-requires-2-clause-place : goal.passes-requires-2-clause-place
passes-requires-2-clause-place c = subst (λ n. c.args.second ≤ n) (sym (c.passes.ensures.size ∙ c.bound.ensures.size)) c.requires.places.1

pub passes-requires-2-clause-bits : goal.passes-requires-2-clause-bits
passes-requires-2-clause-bits c = (
  suc c.requires.bits.0,
  room_after c.requires.bits.0 c.requires.bits.1,
  bits_at_size (suc c.requires.bits.0) c.bound.new.self.size c.passes.new.matrix.size (bounds_of c.passes.new.matrix) c.passes.ensures.size
      (c.passes.ensures.bits c.requires.bits.0 (bits_at_size c.requires.bits.0 c.args.matrix.now.size c.bound.new.self.size (bounds_of c.bound.new.self) c.bound.ensures.size
      (bounded_has_bits c.requires.bits.0 c.args.matrix.now.size (bounds_of c.args.matrix.now) (bounds_of c.bound.new.self) c.args.first c.args.second c.args.most (here c.args.matrix.now c.bound.new.self c.args.first c.args.second c.args.most c.ranges.most c.bound.ensures.here) c.bound.ensures.elsewhere c.requires.bits.2 c.requires.bits.3))),
)

pub returns-clause-met : goal.returns-clause-met
returns-clause-met c = λ values old most _.
    passed c.args.matrix.now.size c.passes.new.matrix.size (bounds_of c.passes.new.matrix) (bounds_of c.passes-2.new.matrix) values (c.passes.ensures.size ∙ c.bound.ensures.size) (c.passes-2.ensures.same values)
    (passed c.args.matrix.now.size c.bound.new.self.size (bounds_of c.bound.new.self) (bounds_of c.passes.new.matrix) values c.bound.ensures.size (c.passes.ensures.same values)
    ((bounded_is_met c.args.matrix.now.size (bounds_of c.args.matrix.now) (bounds_of c.bound.new.self) c.args.first c.args.second c.args.most values c.requires.places.0 c.requires.places.1 (here c.args.matrix.now c.bound.new.self c.args.first c.args.second c.args.most c.ranges.most c.bound.ensures.here) c.bound.ensures.elsewhere).1 (old, most)))

pub returns-clause-bits : goal.returns-clause-bits
returns-clause-bits c = λ _ bits small have.
    subst (λ n. HaveBits (suc (suc bits)) n (bounds_of c.passes-2.new.matrix)) (c.passes.ensures.size ∙ c.bound.ensures.size) (c.passes-2.ensures.bits (suc bits)
    (bits_at_size (suc bits) c.bound.new.self.size c.passes.new.matrix.size (bounds_of c.passes.new.matrix) c.passes.ensures.size (c.passes.ensures.bits bits
    (bits_at_size bits c.args.matrix.now.size c.bound.new.self.size (bounds_of c.bound.new.self) c.bound.ensures.size
    (bounded_has_bits bits c.args.matrix.now.size (bounds_of c.args.matrix.now) (bounds_of c.bound.new.self) c.args.first c.args.second c.args.most (here c.args.matrix.now c.bound.new.self c.args.first c.args.second c.args.most c.ranges.most c.bound.ensures.here) c.bound.ensures.elsewhere small have)))))

pub returns-clause-no : goal.returns-clause-no
returns-clause-no c = λ no values old most. c.passes-2.ensures.no no values (at_size c.args.matrix.now.size c.passes.new.matrix.size (bounds_of c.passes.new.matrix) values (c.passes.ensures.size ∙ c.bound.ensures.size)
    (passed c.args.matrix.now.size c.bound.new.self.size (bounds_of c.bound.new.self) (bounds_of c.passes.new.matrix) values c.bound.ensures.size (c.passes.ensures.same values)
    ((bounded_is_met c.args.matrix.now.size (bounds_of c.args.matrix.now) (bounds_of c.bound.new.self) c.args.first c.args.second c.args.most values c.requires.places.0 c.requires.places.1 (here c.args.matrix.now c.bound.new.self c.args.first c.args.second c.args.most c.ranges.most c.bound.ensures.here) c.bound.ensures.elsewhere).1 (old, most))))
