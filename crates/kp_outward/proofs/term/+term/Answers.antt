use Rattle.std.proofs.Common.{rules, ap, ◌∙◌, ◌≤◌, min, length}
use Rattle.kp_kore.specs.View.{patterns_view}
use Rattle.kp_signature.specs.View.{signature_view}
use Rattle.kp_outward.proofs.TermLists.{next_written, all_written}
use Rattle.kp_outward.proofs.term.+term.Goals as goal

pub terms_out-loop-i-preserved : goal.terms_out-loop-i-preserved
terms_out-loop-i-preserved t c =
    ap patterns_view c.in_ok-push.ensures.items
    ∙ next_written (signature_view c.args.language.now.signature.now) c.loop-i.i c.args.places.now c.args.terms.now c.loop-i.patterns.items c.index-places-i.result c.index-terms-i.result c.in_ok-term_out.field-0 (search rules) c.index-places-i.is c.index-terms-i.is c.loop-i.invariant c.in_ok-term_out.ensures

pub terms_out-returns : goal.terms_out-returns
terms_out-returns t c =
    let end : min (length c.args.terms.now) (length c.args.places.now) ≤ c.loop-i.i = search rules in
    c.loop-i.invariant ∙ all_written (signature_view c.args.language.now.signature.now) c.loop-i.i c.args.places.now c.args.terms.now end
