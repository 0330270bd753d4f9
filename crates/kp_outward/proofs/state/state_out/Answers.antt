use Rattle.std.proofs.lemmas.Result.{IfErr-weaker, err_from_is_err_and}
use Rattle.kp_kore.specs.View.{view}
use Rattle.kp_signature.specs.View.{signature_view}
use Rattle.kp_symbolic.specs.View.{state_view}
use Rattle.kp_outward.proofs.FaultlessLemmas.{clauses_faultless}
use Rattle.kp_outward.proofs.InjectionLemmas.{refused_state, handed_state}
use Rattle.kp_outward.proofs.LawLemmas.{has_instances, has_variables}
use Rattle.kp_outward.proofs.RoomLemmas.{ok_always}
use Rattle.kp_outward.proofs.state.state_out.Goals as goal

pub returns-clause-written : goal.returns-clause-written
returns-clause-written c =
    let g = signature_view c.args.language.now.signature.now in
    handed_state (λ p. view p.value) g (state_view c.args.state.now) c.checked.result (view c.in_ok-pattern.pattern.value) c.checked.ensures.same c.in_ok-pattern.ensures.written

pub returns-clause-refused : goal.returns-clause-refused
returns-clause-refused c =
    let g = signature_view c.args.language.now.signature.now in
    IfErr-weaker c.checked.result _ _ (λ e told i. refused_state g (state_view c.args.state.now) _ (told i) c.in_ok-pattern.ensures.written) c.checked.ensures.refused

pub returns-in_err-pattern-clause-unread : goal.returns-in_err-pattern-clause-unread
returns-in_err-pattern-clause-unread c =
    let g = signature_view c.args.language.now.signature.now in
    let p = err_from_is_err_and c.from_residual.result c.from_residual.ensures.1 in
    rw (p.1) (λ unread faultless. absurd (cc (unread, p.2.0 (c.in_err-pattern.ensures.refused (clauses_faultless g c.args.state.now.clauses.items faultless)))))

pub returns-clause-room : goal.returns-clause-room
returns-clause-room c = ok_always c.checked.result c.in_ok-pattern.ensures.room

pub returns-clause-instances : goal.returns-clause-instances
returns-clause-instances c =
    let g = signature_view c.args.language.now.signature.now in
    let s = state_view c.args.state.now in
    has_instances (λ p. view p.value) g s c.checked.result (handed_state (λ p. view p.value) g s c.checked.result (view c.in_ok-pattern.pattern.value) c.checked.ensures.same c.in_ok-pattern.ensures.written) c.in_ok-pattern.ensures.room c.checked.ensures.injects

pub returns-clause-variables : goal.returns-clause-variables
returns-clause-variables c =
    let g = signature_view c.args.language.now.signature.now in
    let s = state_view c.args.state.now in
    has_variables (λ p. view p.value) g s c.checked.result (handed_state (λ p. view p.value) g s c.checked.result (view c.in_ok-pattern.pattern.value) c.checked.ensures.same c.in_ok-pattern.ensures.written)
