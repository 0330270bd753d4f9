-- What is looked up of the signature of a registry once.
use Rattle.std.specs.Prelude.{◌≡◌}
use Rattle.kp_kore.specs.Signature.{KoreSignature}
use Rattle.kp_signature.specs.View.{signature_view}
use Rattle.kp_modules.specs.Tables.{rule_set_of}
use Rattle.kp_registry.specs.Registries.{table_of}
use Rattle.kp_registry.specs.declared.book.Registry.{Registry}
use Rattle.kp_methods.specs.Prepared.{IsPrepared, signature_in}
use Rattle.kp_methods.specs.declared.prepared.Prepared.{Prepared}

-- the one signature of all modules
abbrev pub signature_over : Registry → KoreSignature
signature_over registry = signature_view (rule_set_of (table_of registry)).signature.value

-- what was looked up is that signature's
pub record IsReadyFor (registry : Registry) (prepared : Prepared) : Type 0 where
  pub right : IsPrepared prepared
  pub signature : signature_in prepared ≡ signature_over registry
