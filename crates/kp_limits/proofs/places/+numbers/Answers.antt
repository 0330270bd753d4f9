use Rattle.std.proofs.Common.{rules, ◌∙◌, sym, ◌≤◌, length}
use Rattle.kp_limits.proofs.SumLemmas.{count_in, sum_more, sum_end, values_sum}
use Rattle.kp_limits.proofs.places.+numbers.Goals as goal

pub numbers_in_all-loop-value-preserved : goal.numbers_in_all-loop-value-preserved
numbers_in_all-loop-value-preserved t c =
    sum_more count_in c.args.values.now c.loop-value.value-index c.loop-value.count c.in_ok-numbers_in.field-0 c.in_ok-count.count c.value-item.result
    c.loop-value-test.true c.value-item.is c.in_ok-numbers_in.ensures c.in_ok-count.ensures c.loop-value.invariant

pub numbers_in_all-returns : goal.numbers_in_all-returns
numbers_in_all-returns t c =
    let past : length c.args.values.now ≤ c.loop-value.value-index = search rules in
    sum_end count_in c.args.values.now c.loop-value.value-index c.loop-value.count past c.loop-value.invariant ∙ sym (values_sum c.args.values.now)
