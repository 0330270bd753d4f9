use Rattle.std.proofs.Common.{subst}
use Rattle.kp_claims.specs.Claims.{counted}
use Rattle.kp_claims.specs.declared.fault.ClaimError.{ClaimError}
use Rattle.kp_claim_files.specs.Ground.{IsErrorForProve, IsFaultForProve}
use Rattle.kp_program.proofs.ClaimCauses.{told_is}
use Rattle.kp_program.proofs.trouble.claim_trouble.Goals as goal

pub returns-in-Text : goal.returns-in-Text
returns-in-Text c = λ g file fits is. c.file_trouble.ensures.claims g file (fits, subst (λ (e : ClaimError). IsErrorForProve g file e) c.in-Text.is is)

pub returns-in-Fault : goal.returns-in-Fault
returns-in-Fault c = λ g file fits is.
    let x = subst (λ (e : ClaimError). IsErrorForProve g file e) c.in-Fault.is is in
    c.file_trouble-in-Fault.ensures.claims g file (fits, x.0, x.1, told_is c.in-Fault.fault (IsFaultForProve g (counted x.0)) x.2)
