use Rattle.std.proofs.Common.{◌≡◌, arith}
use Rattle.kp_kore.proofs.Views.{same_length, same_at, no_is_right}
use Rattle.kp_symbolic.specs.View.{literal_view}
use Rattle.kp_symbolic.proofs.clause.Literal.all_same.Goals as goal

pub returns-then-literals-others : goal.returns-then-literals-others
returns-then-literals-others c =
    no_is_right (λ e. c.if-literals-others.true (same_length literal_view c.args.literals.now c.args.others.now e))

pub returns-then-not-same : goal.returns-then-not-same
returns-then-not-same c =
    no_is_right (λ e.
    let at_place : literal_view c.index-literals-i.result ≡ literal_view c.index-others-i.result =
    same_at literal_view c.args.literals.now c.args.others.now c.loop-i.i c.index-literals-i.result c.index-others-i.result e
    c.loop-i-test.true (omega arith) c.index-literals-i.is c.index-others-i.is in
    absurd (cc (c.same.ensures.1 at_place, c.if-not-same.true)))
