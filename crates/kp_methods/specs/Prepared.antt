-- What is looked up of a signature once.
use Rattle.kp_kore.specs.Signature.{KoreSignature}
use Rattle.kp_signature.specs.View.{signature_view}
use Rattle.kp_heads.specs.Made.{IsHeadTableOf}
use Rattle.kp_methods.specs.declared.prepared.Prepared.{Prepared}

-- the signature of which it was looked up
abbrev pub signature_in : Prepared → KoreSignature
signature_in p = signature_view p.signature.value

-- the table of heads is the signature's
abbrev pub IsPrepared : Prepared → Type 0
IsPrepared p = IsHeadTableOf (signature_in p) p.heads
