use Rattle.std.proofs.Common.{ap, ◌∙◌, subst}
use Rattle.kp_kore.specs.Signature.{KoreSignature}
use Rattle.kp_signature.specs.View.{signature_view}
use Rattle.kp_claim_files.specs.Ground.{IsErrorForProve}
use Rattle.kp_program.proofs.GroundClaims.{claims_read}
use Rattle.kp_program.proofs.claims.claims_of.Goals as goal

pub returns-in-Ok-clause-claims : goal.returns-in-Ok-clause-claims
returns-in-Ok-clause-claims c = λ s is.
    claims_read (signature_view c.deref.result.now) s.theory.signature c.args.bytes.now c.in-Ok.claims.items (ap signature_view c.deref.ensures ∙ (c.rules_of.ensures s is).signature) c.in-Ok.ensures.read

pub returns-in-Err-clause-fault : goal.returns-in-Err-clause-fault
returns-in-Err-clause-fault c = λ s is fits.
    c.claim_trouble.ensures s.theory.signature c.args.bytes.now fits
    (subst (λ (g : KoreSignature). IsErrorForProve g c.args.bytes.now c.in-Err.error) (ap signature_view c.deref.ensures ∙ (c.rules_of.ensures s is).signature) c.in-Err.ensures.fault)
