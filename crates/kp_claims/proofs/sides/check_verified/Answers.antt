use Rattle.std.proofs.Common.{sym, subst, ◌≡◌, Some}
use Rattle.std.specs.Option.{option_map}
use Rattle.kp_kore.specs.View.{view}
use Rattle.kp_signature.specs.Places.{the_top}
use Rattle.kp_signature.specs.Verify.{first_fault}
use Rattle.kp_signature.specs.View.{signature_view}
use Rattle.kp_claims.specs.Faults.{unverified, TellsOf}
use Rattle.kp_claims.proofs.Claimed.{told_verify}
use Rattle.kp_claims.proofs.sides.check_verified.Goals as goal

pub returns-clause-err : goal.returns-clause-err
returns-clause-err c =
    let g = signature_view c.args.signature.now in
    let p = view c.args.pattern.now in
    subst (TellsOf (λ f. option_map unverified (first_fault g the_top p) ≡ Some f)) (sym c.unverified_side.ensures) (told_verify g p c.in-Err.error c.in-Err.ensures.fault)
