use Rattle.std.proofs.Common.{◌≡◌, arith}
use Rattle.kp_kore.proofs.Views.{same_length, same_at, no_is_right}
use Rattle.kp_symbolic.specs.View.{replaced_view}
use Rattle.kp_symbolic.proofs.atom.Replaced.all_same.Goals as goal

pub returns-then-replaced-others : goal.returns-then-replaced-others
returns-then-replaced-others c =
    no_is_right (λ e. c.if-replaced-others.true (same_length replaced_view c.args.replaced.now c.args.others.now e))

pub returns-then-not-same : goal.returns-then-not-same
returns-then-not-same c =
    no_is_right (λ e.
    let at_place : replaced_view c.index-replaced-i.result ≡ replaced_view c.index-others-i.result =
    same_at replaced_view c.args.replaced.now c.args.others.now c.loop-i.i c.index-replaced-i.result c.index-others-i.result e
    c.loop-i-test.true (omega arith) c.index-replaced-i.is c.index-others-i.is in
    absurd (cc (c.same.ensures.1 at_place, c.if-not-same.true)))
