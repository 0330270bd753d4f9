use Rattle.std.proofs.Common.{arith, ◌+◌, ◌≤◌, ℕ, suc}
use Rattle.kp_diff.specs.Rows.{value_in}
use Rattle.kp_diff.proofs.Sizes.{bits_more}
use Rattle.kp_diff.proofs.valuation.solve.Goals as goal

light : (s b : ℕ) → s + b ≤ 126 → suc (s + b) ≤ 127
light s b h = omega arith

pub write_values-requires-clause-bits : goal.write_values-requires-clause-bits
write_values-requires-clause-bits c = λ x y i j. bits_more (suc (c.args.size + c.requires.weight.bits)) 127 _ (light c.args.size c.requires.weight.bits c.requires.weight.weight)
    (c.close-outcome.ensures.bits c.requires.weight.bits c.requires.weight.each x y i j)

pub returns-in-Yes-clause-yes : goal.returns-in-Yes-clause-yes
returns-in-Yes-clause-yes c = λ yes. (c.close-outcome.ensures.same (value_in c.write_values.new.values)).1 c.write_values.ensures.met
