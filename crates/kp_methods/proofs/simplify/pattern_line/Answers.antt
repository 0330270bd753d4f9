use Rattle.std.proofs.Common.{ap, subst}
use Rattle.kp_json.specs.Faults.{read}
use Rattle.kp_kore.specs.View.{view, sort_view}
use Rattle.kp_rpc.specs.View.{id_view}
use Rattle.kp_methods.specs.Ends.{TellsFault}
use Rattle.kp_signature.specs.Verify.{VerifiesAs}
use Rattle.kp_signature.specs.View.{signature_view}
use Rattle.kp_methods.specs.Simplified.{IsFaultTold, IsSimplifiedAs, IsUnderstoodAs, understood}
use Rattle.kp_methods.specs.Prepared.{signature_in}
use Rattle.kp_methods.proofs.SimplifiedLines.{line_weaker, told_fault}
use Rattle.kp_methods.proofs.simplify.pattern_line.Goals as goal

pub returns-in-Ok : goal.returns-in-Ok
returns-in-Ok c =
    let g = signature_in c.args.prepared.now in
    let p = view c.args.pattern.now in
    let id = id_view c.args.id.now in
    let verified = subst (λ k. VerifiesAs k p (sort_view c.in-Ok.sort)) (ap signature_view c.deref.ensures) c.in-Ok.ensures.sort in
    line_weaker c.verified_line.result (IsUnderstoodAs g id p) (IsSimplifiedAs g id (read p)) (λ d h. understood p (sort_view c.in-Ok.sort) d verified h) (c.verified_line.ensures verified)

pub returns-in-Err : goal.returns-in-Err
returns-in-Err c =
    let g = signature_in c.args.prepared.now in
    let p = view c.args.pattern.now in
    let id = id_view c.args.id.now in
    line_weaker c.unverified_line.result (IsFaultTold g id p) (IsSimplifiedAs g id (read p)) (told_fault g id p)
    (c.unverified_line.ensures g p (subst (λ k. TellsFault k p c.in-Err.error) (ap signature_view c.deref.ensures) c.in-Err.ensures.fault))
