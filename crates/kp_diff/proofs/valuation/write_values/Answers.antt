use Rattle.std.proofs.Common.{arith, ◌≡◌, ◌∙◌, sym, subst, ap, ◌<◌, ◌≤◌, ℕ, suc, ℤ, pos, ◌+ℤ◌, ◌-ℤ◌, to_z, of_z, FitsSigned}
use Rattle.std.specs.Int.{w128}
use Rattle.std.proofs.lemmas.Int.{ints, to_z-of_z}
use Rattle.kp_diff.specs.Rows.{rows_of, bound_in, value_in, IsLeast}
use Rattle.kp_diff.proofs.Cells.{least_of_row}
use Rattle.kp_diff.proofs.Sizes.{difference_fits}
use Rattle.kp_diff.proofs.Steps.{each_set}
use Rattle.kp_diff.proofs.Values.{closed_are_met}
use Rattle.kp_diff.proofs.valuation.write_values.Goals as goal

below : (x n s : ℕ) → x < n → n ≡ suc s → x < suc s
below x n s h e = omega arith

at_most : (x n s : ℕ) → x < n → n ≡ suc s → x ≤ s
at_most x n s h e = omega arith

before : (x n s k : ℕ) → x ≤ s → n ≡ suc s → n ≤ k → x < k
before x n s k h e l = omega arith

least : (n : ℕ) → 0 < suc n
least n = omega arith

none_less : (n : ℕ) → 0 ≤ n
none_less n = omega arith

back : (a b : ℤ) → ((a -ℤ b) +ℤ b) ≡ a
back a b = omega (arith, ints)

pub difference-requires : goal.difference-requires
difference-requires c =
    let fa : FitsSigned w128 c.least_of.result = record { sfits = c.least_of.type_inv } in
    let fb : FitsSigned w128 c.least_of-first.result = record { sfits = c.least_of-first.type_inv } in
    rw (to_z-of_z w128 c.least_of.result fa, to_z-of_z w128 c.least_of-first.result fb)
    (difference_fits c.args.size (bound_in (rows_of c.args.rows.now)) c.loop-x.x 0 c.least_of.result c.least_of-first.result
    (at_most c.loop-x.x _ c.args.size c.loop-x-test.true c.requires.long) (none_less c.args.size) c.requires.bits
    (least_of_row (suc c.args.size) c.args.rows.now c.loop-x.x c.index-rows-x.result c.deref-in-loop-x.result.now c.least_of.result c.requires.square (below c.loop-x.x _ c.args.size c.loop-x-test.true c.requires.long) c.index-rows-x.is c.deref-in-loop-x.ensures.value c.least_of.ensures)
    (least_of_row (suc c.args.size) c.args.rows.now 0 c.index-rows-0.result c.deref.result.now c.least_of-first.result c.requires.square (least c.args.size) c.index-rows-0.is c.deref.ensures.value c.least_of-first.ensures))

pub loop-x-preserved : goal.loop-x-preserved
loop-x-preserved c =
    let fa : FitsSigned w128 c.least_of.result = record { sfits = c.least_of.type_inv } in
    let fd : FitsSigned w128 c.difference.result = record { sfits = c.difference.type_inv } in
    let is : (to_z w128 (of_z w128 c.difference.result) +ℤ to_z w128 (of_z w128 c.least_of-first.result)) ≡ c.least_of.result =
    ap (λ d. d +ℤ to_z w128 (of_z w128 c.least_of-first.result)) (to_z-of_z w128 c.difference.result fd ∙ c.difference.ensures)
    ∙ back (to_z w128 (of_z w128 c.least_of.result)) (to_z w128 (of_z w128 c.least_of-first.result)) ∙ to_z-of_z w128 c.least_of.result fa in
    each_set (λ i v. IsLeast (suc c.args.size) (bound_in (rows_of c.args.rows.now) i) (v +ℤ to_z w128 (of_z w128 c.least_of-first.result)))
    c.loop-x.values (pos 0) c.loop-x.x (to_z w128 (of_z w128 c.difference.result)) (subst (λ n. c.loop-x.x < n) (sym c.loop-x.auto.values) c.loop-x-test.true)
    (subst (λ a. IsLeast (suc c.args.size) (bound_in (rows_of c.args.rows.now) c.loop-x.x) a) (sym is)
    (least_of_row (suc c.args.size) c.args.rows.now c.loop-x.x c.index-rows-x.result c.deref-in-loop-x.result.now c.least_of.result c.requires.square (below c.loop-x.x _ c.args.size c.loop-x-test.true c.requires.long) c.index-rows-x.is c.deref-in-loop-x.ensures.value c.least_of.ensures))
    c.loop-x.invariant

pub returns-clause-met : goal.returns-clause-met
returns-clause-met c =
    let fb : FitsSigned w128 c.least_of-first.result = record { sfits = c.least_of-first.type_inv } in
    closed_are_met c.args.size (bound_in (rows_of c.args.rows.now)) (value_in c.loop-x.values) (to_z w128 (of_z w128 c.least_of-first.result)) c.requires.closed
    (subst (λ a. IsLeast (suc c.args.size) (bound_in (rows_of c.args.rows.now) 0) a) (sym (to_z-of_z w128 c.least_of-first.result fb))
    (least_of_row (suc c.args.size) c.args.rows.now 0 c.index-rows-0.result c.deref.result.now c.least_of-first.result c.requires.square (least c.args.size) c.index-rows-0.is c.deref.ensures.value c.least_of-first.ensures))
    (λ x h. c.loop-x.invariant x (before x _ c.args.size c.loop-x.x h c.requires.long c.loop-x-test.false))
