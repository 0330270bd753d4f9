use Rattle.std.proofs.Common.{option_map}
use Rattle.std.proofs.lemmas.Result.{IfErr-weaker, err_from_is_err_and}
use Rattle.kp_kore.specs.View.{view, sort_view}
use Rattle.kp_signature.specs.View.{signature_view}
use Rattle.kp_symbolic.specs.View.{clauses_view}
use Rattle.kp_outward.proofs.FaultlessLemmas.{clauses_faultless}
use Rattle.kp_outward.proofs.InjectionLemmas.{refused_predicate, handed_predicate}
use Rattle.kp_outward.proofs.RoomLemmas.{ok_always}
use Rattle.kp_outward.proofs.state.predicate_out.Goals as goal

pub returns-clause-written : goal.returns-clause-written
returns-clause-written c =
    let g = signature_view c.args.language.now.signature.now in
    let s = sort_view c.args.sort.now in
    handed_predicate (option_map (λ p. view p.value)) g s (clauses_view c.args.clauses.now) c.checked_if_any.result (option_map (λ p. view p.value) c.in_ok-predicate.predicate) c.checked_if_any.ensures.same c.in_ok-predicate.ensures.written

pub returns-clause-refused : goal.returns-clause-refused
returns-clause-refused c =
    let g = signature_view c.args.language.now.signature.now in
    let s = sort_view c.args.sort.now in
    IfErr-weaker c.checked_if_any.result _ _ (λ e told i. refused_predicate g s (clauses_view c.args.clauses.now) _ (told i) c.in_ok-predicate.ensures.written) c.checked_if_any.ensures.refused

pub returns-in_err-predicate-clause-unread : goal.returns-in_err-predicate-clause-unread
returns-in_err-predicate-clause-unread c =
    let g = signature_view c.args.language.now.signature.now in
    let p = err_from_is_err_and c.from_residual.result c.from_residual.ensures.1 in
    rw (p.1) (λ unread faultless. absurd (cc (unread, p.2.0 (c.in_err-predicate.ensures.refused (clauses_faultless g c.args.clauses.now faultless)))))

pub returns-clause-room : goal.returns-clause-room
returns-clause-room c = ok_always c.checked_if_any.result c.in_ok-predicate.ensures.room
