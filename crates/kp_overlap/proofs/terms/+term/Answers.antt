use Rattle.std.proofs.Common.{rules, ◌≤◌, length}
use Rattle.kp_signature.specs.View.{signature_view}
use Rattle.kp_overlap.proofs.TermLemmas.{forms_made}
use Rattle.kp_overlap.proofs.terms.+term.Goals as goal

pub term_skeletons-returns : goal.term_skeletons-returns
term_skeletons-returns t c =
    let past : length c.args.terms.now ≤ c.loop-term.term-index = search rules in
    forms_made (signature_view c.args.signature.now) c.loop-term.made.items c.args.terms.now c.loop-term.term-index past c.loop-term.invariant
