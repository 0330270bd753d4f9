-- The signature of a language.
use Rattle.kp_kore.specs.Signature.{KoreSignature}
use Rattle.kp_signature.specs.View.{signature_view}
use Rattle.kp_symbolic.specs.declared.language.Language.{Language}

abbrev pub language_view : Language → KoreSignature
language_view l = signature_view l.signature.now
