use Rattle.std.proofs.Common.{rules, ◌≤◌, length}
use Rattle.kp_signature.specs.View.{signature_view}
use Rattle.kp_limits.proofs.WideLemmas.{terms_here, terms_later, terms_none}
use Rattle.kp_limits.proofs.wide.+wide.Goals as goal

pub wide_in_terms-returns-in-Some : goal.wide_in_terms-returns-in-Some
wide_in_terms-returns-in-Some t c =
    terms_here (signature_view c.args.signature.now) c.args.terms.now c.loop-term.term-index c.term-item.result _ c.loop-term-test.true c.term-item.is (search rules) c.loop-term.invariant

pub wide_in_terms-loop-term-preserved : goal.wide_in_terms-loop-term-preserved
wide_in_terms-loop-term-preserved t c =
    terms_later (signature_view c.args.signature.now) c.args.terms.now c.loop-term.term-index c.term-item.result c.loop-term-test.true c.term-item.is (search rules) c.loop-term.invariant

pub wide_in_terms-returns : goal.wide_in_terms-returns
wide_in_terms-returns t c =
    let past : length c.args.terms.now ≤ c.loop-term.term-index = search rules in
    terms_none (signature_view c.args.signature.now) c.args.terms.now c.loop-term.term-index past c.loop-term.invariant
