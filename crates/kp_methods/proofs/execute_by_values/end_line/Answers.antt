use Rattle.std.proofs.Common.{◌≡◌, ap, ◌∙◌, subst}
use Rattle.kp_kore.specs.Signature.{KoreSignature}
use Rattle.kp_kore.specs.View.{view, sort_view}
use Rattle.kp_ground.specs.View.{value_view}
use Rattle.kp_signature.specs.View.{signature_view}
use Rattle.kp_compile.specs.Spelled.{spelling}
use Rattle.kp_rpc.specs.View.{id_view}
use Rattle.kp_methods.proofs.Ended.{spelled_at}
use Rattle.kp_methods.proofs.ExecutedEnds.{end_line_is_right}
use Rattle.kp_methods.proofs.execute_by_values.end_line.Goals as goal

pub returns-in-Ok : goal.returns-in-Ok
returns-in-Ok c = λ s options p runs here h.
    let end = c.args.end.now in
    let q = view c.in-Ok.term in
    let same = ap signature_view c.deref.ensures ∙ runs.signature in
    let spelled = spelled_at (signature_view c.deref.result.now) s.theory.signature same (sort_view end.state.sort) (value_view end.state.value) q c.in-Ok.ensures.meant h.run.sorted in
    let normal = subst (λ (g : KoreSignature). q ≡ spelling g (sort_view end.state.sort) (value_view end.state.value)) same c.in-Ok.ensures.normal in
    end_line_is_right c.written_line.result s (id_view c.args.id.now) options p end here h q spelled normal c.written_line.ensures
