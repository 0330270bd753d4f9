use Rattle.std.proofs.Common.{◌≡◌, ◌≤◌, map, arith}
use Rattle.kp_kore.specs.Parts.{nesting, most_nesting}
use Rattle.kp_kore.specs.View.{view, patterns_view}
use Rattle.kp_kore.proofs.Apart.{member_is_no_deeper}
use Rattle.kp_kore.proofs.Views.{same_length, same_at, same_patterns, no_is_right}
use Rattle.kp_kore.proofs.pattern.Pattern.+equal.Goals as goal

pub all_equal-returns-then-patterns-others : goal.all_equal-returns-then-patterns-others
all_equal-returns-then-patterns-others t c =
    no_is_right (λ e. c.if-patterns-others.true (same_length view c.args.patterns.now c.args.others.now
    (same_patterns (map view c.args.patterns.now) (map view c.args.others.now) e)))

pub all_equal-returns-then-not-equal : goal.all_equal-returns-then-not-equal
all_equal-returns-then-not-equal t c =
    no_is_right (λ e.
    let at_place : view c.index-patterns-i.result ≡ view c.index-others-i.result =
    same_at view c.args.patterns.now c.args.others.now c.loop-i.i c.index-patterns-i.result c.index-others-i.result
    (same_patterns (map view c.args.patterns.now) (map view c.args.others.now) e)
    c.loop-i-test.true (omega arith) c.index-patterns-i.is c.index-others-i.is in
    absurd (cc (c.equal.ensures.1 at_place, c.if-not-equal.true)))

pub all_equal-equal-requires : goal.all_equal-equal-requires
all_equal-equal-requires t c =
    let deep : nesting (view c.index-patterns-i.result) ≤ most_nesting (patterns_view c.args.patterns.now) =
    member_is_no_deeper c.args.patterns.now c.loop-i.i c.index-patterns-i.result c.loop-i-test.true c.index-patterns-i.is in
    (omega (arith, deep), tt)
