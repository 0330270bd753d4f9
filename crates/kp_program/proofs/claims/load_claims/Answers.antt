use Rattle.std.proofs.Common.{Err, ap}
use Rattle.kp_program.proofs.ClaimCauses.{too_long_claims}
use Rattle.kp_program.proofs.claims.load_claims.Goals as goal

pub returns-in-Err-TooLong-clause-trouble : goal.returns-in-Err-TooLong-clause-trouble
returns-in-Err-TooLong-clause-trouble g c = λ s is.
    too_long_claims (g.H.Shelf.names c.args.shelf.now) c.args.name.now s.theory.signature _ c.file_trouble.result (c.in-Err-TooLong.ensures.too_long (ap Err c.in-Err-TooLong.field-0-is)) c.file_trouble.ensures.claims
