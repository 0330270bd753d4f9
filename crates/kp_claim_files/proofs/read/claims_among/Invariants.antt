use Rattle.std.proofs.Common.{[], take}
use Rattle.std.specs.List.{AllZip}
use Rattle.kp_signature.specs.View.{signature_view}
use Rattle.kp_claims.specs.Faults.{labels_of}
use Rattle.kp_names.specs.Met.{Lists}
use Rattle.kp_claims.specs.Sentences.{seen}
use Rattle.kp_claim_sentences.specs.Claims.{IsStatedBy}
use Rattle.kp_claim_sentences.specs.Faults.{AreFaultless, file_labels}
use Rattle.kp_claim_sentences.specs.Items.{items_view}
use Rattle.kp_claim_files.specs.Read.{Notes}
use Rattle.kp_claim_files.proofs.read.claims_among.Given as goal

abbrev pub invariant-loop-i : goal.invariant-loop-i
invariant-loop-i l = record {
  faultless : Notes (file_labels (seen l.sentences)) l.file → AreFaultless (signature_view l.signature) (file_labels (seen l.sentences)) [] (seen (take l.i l.sentences));
  claims : AllZip IsStatedBy (seen (take l.i l.sentences)) (items_view l.items.items);
  labels : Lists (labels_of (seen (take l.i l.sentences))) l.labels;
}
