use Rattle.std.proofs.Common.{sym, subst}
use Rattle.kp_kore.specs.View.{view}
use Rattle.kp_rpc.specs.View.{id_view, options_view}
use Rattle.kp_signature.specs.Verify.{VerifiesAs}
use Rattle.kp_methods.proofs.ExecutedLines.{by_values_line}
use Rattle.kp_methods.proofs.execute.verified_line.Goals as goal

pub returns-in-Some : goal.returns-in-Some
returns-in-Some c = λ s runs over here verified.
    let p = view c.args.pattern.now in
    by_values_line s (id_view c.args.id.now) (options_view c.args.options) p c.in_ok-line.field-0 c.in-Some.line c.in-Some.is (c.in_ok-line.ensures s runs here (subst (VerifiesAs s.theory.signature p) (sym c.in_ok-own.ensures) verified))

pub returns-in-None : goal.returns-in-None
returns-in-None c = λ s runs over here verified. c.symbolic_line.ensures s runs over verified
