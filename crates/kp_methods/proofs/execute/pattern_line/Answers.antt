use Rattle.std.proofs.Common.{ap, ◌∙◌, subst}
use Rattle.kp_json.specs.Faults.{read}
use Rattle.kp_kore.specs.View.{view, sort_view}
use Rattle.kp_rpc.specs.View.{id_view, options_view}
use Rattle.kp_methods.specs.Ends.{TellsFault}
use Rattle.kp_signature.specs.Verify.{VerifiesAs}
use Rattle.kp_signature.specs.View.{signature_view}
use Rattle.kp_methods.specs.Simplified.{IsFaultTold}
use Rattle.kp_methods.proofs.SimplifiedLines.{line_weaker}
use Rattle.kp_methods.specs.Executed.{IsExecutedAs, IsUnderstoodAs, understood}
use Rattle.kp_methods.proofs.ExecutedLines.{told_fault}
use Rattle.kp_methods.proofs.execute.pattern_line.Goals as goal

pub returns-in-Ok : goal.returns-in-Ok
returns-in-Ok c = λ s runs over here.
    let p = view c.args.pattern.now in
    let id = id_view c.args.id.now in
    let options = options_view c.args.options in
    let sort = sort_view c.in-Ok.sort in
    let verified = subst (λ g. VerifiesAs g p sort) (ap signature_view c.deref.ensures ∙ runs.signature) c.in-Ok.ensures.sort in
    line_weaker c.verified_line.result (IsUnderstoodAs s id options p) (IsExecutedAs s id options (read p)) (λ d h. understood p sort d verified h) (c.verified_line.ensures s runs over here verified)

pub returns-in-Err : goal.returns-in-Err
returns-in-Err c = λ s runs over here.
    let g = s.theory.signature in
    let p = view c.args.pattern.now in
    let id = id_view c.args.id.now in
    let options = options_view c.args.options in
    line_weaker c.unverified_line.result (IsFaultTold g id p) (IsExecutedAs s id options (read p)) (told_fault s id options p)
    (c.unverified_line.ensures g p (subst (λ k. TellsFault k p c.in-Err.error) (ap signature_view c.deref.ensures ∙ runs.signature) c.in-Err.ensures.fault))
