use Rattle.std.proofs.Common.{◌≡◌, ap, subst, ◌∙◌, map}
use Rattle.std.specs.List.{AllZip}
use Rattle.kp_kore.specs.View.{module_view}
use Rattle.kp_signature.specs.View.{signature_view}
use Rattle.kp_claims.specs.Claims.{counted}
use Rattle.kp_claims.specs.Faults.{TellsOf}
use Rattle.kp_claims.specs.Sentences.{seen}
use Rattle.kp_claims.proofs.OneMore.{exit}
use Rattle.kp_claim_sentences.specs.Claims.{IsStatedBy}
use Rattle.kp_claim_sentences.specs.Faults.{IsFaultlessFile, IsFaultOfFile, IsErrorOf}
use Rattle.kp_claim_sentences.specs.Items.{items_view}
use Rattle.kp_claim_files.proofs.FirstFaults.{text_told, sentences_told}
use Rattle.kp_claim_files.proofs.read.read_claims.Goals as goal

pub returns-in_err-modules-clause-fault : goal.returns-in_err-modules-clause-fault
returns-in_err-modules-clause-fault c =
    let g = signature_view c.args.signature.now in
    let bytes = c.args.bytes.now in
    exit c.from_residual.result (IsErrorOf g bytes) c.in_err-modules.field-0.0 c.from_residual.ensures (text_told g bytes c.in_err-modules.field-0.0 c.in_err-modules.ensures.fault)

pub returns-in_err-claims_of-clause-fault : goal.returns-in_err-claims_of-clause-fault
returns-in_err-claims_of-clause-fault c =
    let g = signature_view c.args.signature.now in
    let bytes = c.args.bytes.now in
    let ms = map module_view c.in_ok-modules.modules.items in
    let are : seen c.deref-2.result.now ≡ counted ms = ap seen c.deref-2.ensures.value ∙ c.in_ok-sentences.ensures ∙ ap (λ l. counted (map module_view l)) c.deref.ensures.value in
    exit c.from_residual-in_err-claims_of.result (IsErrorOf g bytes) c.in_err-claims_of.field-0.0 c.from_residual-in_err-claims_of.ensures
    (sentences_told g bytes ms c.in_err-claims_of.field-0.0 c.in_ok-modules.ensures.found (subst (λ l. TellsOf (IsFaultOfFile g l) c.in_err-claims_of.field-0.0) are c.in_err-claims_of.ensures.err))

pub returns-clause-read : goal.returns-clause-read
returns-clause-read c =
    let g = signature_view c.args.signature.now in
    let ms = map module_view c.in_ok-modules.modules.items in
    let are : seen c.deref-2.result.now ≡ counted ms = ap seen c.deref-2.ensures.value ∙ c.in_ok-sentences.ensures ∙ ap (λ l. counted (map module_view l)) c.deref.ensures.value in (
      ms,
      c.in_ok-modules.ensures.found,
      subst (IsFaultlessFile g) are c.in_ok-claims_of.ensures.faultless,
      subst (λ l. AllZip IsStatedBy l (items_view c.in_ok-claims_of.field-0.items)) are c.in_ok-claims_of.ensures.claims,
    )
