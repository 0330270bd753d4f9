use Rattle.std.proofs.Common.{sym, subst}
use Rattle.kp_kore.specs.View.{view}
use Rattle.kp_signature.specs.Verify.{VerifiesAs}
use Rattle.kp_symbolic.specs.Languages.{language_view}
use Rattle.kp_methods.proofs.simplify.understood_line.Goals as goal

pub returns-in-Ok : goal.returns-in-Ok
returns-in-Ok c = λ verified.
    let g = language_view c.args.language.now in
    let p = view c.args.pattern.now in
    c.found_line.ensures g p verified c.in-Ok.ensures.clear (c.in-Ok.ensures.found (subst (VerifiesAs g p) (sym c.in_ok-own.ensures) verified))

pub returns-in-Err : goal.returns-in-Err
returns-in-Err c = λ verified.
    let g = language_view c.args.language.now in
    let p = view c.args.pattern.now in
    c.unsimplified_line.ensures g p c.in-Err.ensures.refused (c.in-Err.ensures.wants (subst (VerifiesAs g p) (sym c.in_ok-own.ensures) verified))
