use Rattle.std.proofs.Common.{◌≡◌, map, arith}
use Rattle.kp_kore.proofs.Views.{same_length, same_at, no_is_right}
use Rattle.kp_symbolic.specs.View.{term_view}
use Rattle.kp_symbolic.proofs.Lists.{same_terms}
use Rattle.kp_symbolic.proofs.term.Term.+same.Goals as goal

pub all_same-returns-then-terms-others : goal.all_same-returns-then-terms-others
all_same-returns-then-terms-others t c =
    no_is_right (λ e. c.if-terms-others.true (same_length term_view c.args.terms.now c.args.others.now (same_terms (map term_view c.args.terms.now) (map term_view c.args.others.now) e)))

pub all_same-returns-then-not-same : goal.all_same-returns-then-not-same
all_same-returns-then-not-same t c =
    no_is_right (λ e.
    let at_place : term_view c.index-terms-i.result ≡ term_view c.index-others-i.result =
    same_at term_view c.args.terms.now c.args.others.now c.loop-i.i c.index-terms-i.result c.index-others-i.result (same_terms (map term_view c.args.terms.now) (map term_view c.args.others.now) e)
    c.loop-i-test.true (omega arith) c.index-terms-i.is c.index-others-i.is in
    absurd (cc (c.same.ensures.1 at_place, c.if-not-same.true)))
