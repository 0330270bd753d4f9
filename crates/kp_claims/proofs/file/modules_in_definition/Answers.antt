use Rattle.std.proofs.Common.{subst, sym, inr, refl}
use Rattle.kp_kore.specs.View.{definition_view}
use Rattle.kp_text.specs.Errors.{IsErrorOf}
use Rattle.kp_text.specs.Spelling.{IsFaultOf, IsDefinitionText}
use Rattle.kp_claims.specs.Files.{IsFileText}
use Rattle.kp_claims.proofs.TextFaults.{file_fault}
use Rattle.kp_claims.proofs.file.modules_in_definition.Goals as goal

pub returns-in-Ok-clause-found : goal.returns-in-Ok-clause-found
returns-in-Ok-clause-found c = inr (definition_view c.in-Ok.definition, c.in-Ok.ensures.found, refl)

pub returns-in-Err-Fault-clause-fault : goal.returns-in-Err-Fault-clause-fault
returns-in-Err-Fault-clause-fault c h =
    let bytes = c.args.bytes.now in
    let told : IsErrorOf IsDefinitionText bytes c.in-Err-Fault.field-0 = c.in-Err-Fault.ensures.fault in
    subst (IsFaultOf IsFileText bytes) (sym c.further.ensures) (file_fault bytes c.args.fault c.in-Err-Fault.other h (subst (IsErrorOf IsDefinitionText bytes) c.in-Err-Fault.field-0-is told))
