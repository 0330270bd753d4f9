use Rattle.std.proofs.Common.{◌≡◌, map, arith}
use Rattle.kp_kore.proofs.Views.{same_length, same_at, no_is_right}
use Rattle.kp_ground.specs.View.{value_view}
use Rattle.kp_ground.proofs.ValueLists.{same_values}
use Rattle.kp_ground.proofs.value.Value.+equal.Goals as goal

pub all_equal-returns-then-values-others : goal.all_equal-returns-then-values-others
all_equal-returns-then-values-others t c =
    no_is_right (λ e. c.if-values-others.true (same_length value_view c.args.values.now c.args.others.now
    (same_values (map value_view c.args.values.now) (map value_view c.args.others.now) e)))

pub all_equal-returns-then-not-equal : goal.all_equal-returns-then-not-equal
all_equal-returns-then-not-equal t c =
    no_is_right (λ e.
    let at_place : value_view c.index-values-i.result ≡ value_view c.index-others-i.result =
    same_at value_view c.args.values.now c.args.others.now c.loop-i.i c.index-values-i.result c.index-others-i.result
    (same_values (map value_view c.args.values.now) (map value_view c.args.others.now) e)
    c.loop-i-test.true (omega arith) c.index-values-i.is c.index-others-i.is in
    absurd (cc (c.equal.ensures.1 at_place, c.if-not-equal.true)))
