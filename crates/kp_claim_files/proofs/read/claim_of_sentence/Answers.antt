use Rattle.std.proofs.Common.{refl, sym, subst, inl, inr, IfErr, OnOk}
use Rattle.kp_kore.specs.View.{sentence_view}
use Rattle.kp_signature.specs.View.{signature_view}
use Rattle.kp_claims.specs.Faults.{other_shape, TellsOf}
use Rattle.kp_claim_sentences.specs.Faults.{IsFaultAt, IsFaultless}
use Rattle.kp_claim_files.proofs.FirstFaults.{IsMisplaced}
use Rattle.kp_claim_files.proofs.read.claim_of_sentence.Goals as goal

pub returns-in-Claim-clause-faultless : goal.returns-in-Claim-clause-faultless
returns-in-Claim-clause-faultless c f before notes is =
    subst (λ s. OnOk c.claim_of.result (IsFaultless (signature_view c.args.signature.now) f before (sentence_view s))) (sym c.in-Claim.is) (c.claim_of.ensures.faultless f before notes is)

pub returns-in-Claim-clause-err : goal.returns-in-Claim-clause-err
returns-in-Claim-clause-err c f before notes is =
    subst (λ s. IfErr c.claim_of.result (TellsOf (IsFaultAt (signature_view c.args.signature.now) f before (sentence_view s)))) (sym c.in-Claim.is) (c.claim_of.ensures.err f before notes is)

pub returns-in-Import-clause-err : goal.returns-in-Import-clause-err
returns-in-Import-clause-err c f before notes is = record {
  fault = other_shape;
  told = refl;
  holds = elim c.in-Import.is [
    | inl i ↦ subst (IsMisplaced (signature_view c.args.signature.now) f before) (sym i.2) refl
    | inr o ↦ elim o [
      | inl d ↦ subst (IsMisplaced (signature_view c.args.signature.now) f before) (sym d.1) refl
      | inr p ↦ elim p [
        | inl d ↦ subst (IsMisplaced (signature_view c.args.signature.now) f before) (sym d.1) refl
        | inr q ↦ elim q [
          | inl d ↦ subst (IsMisplaced (signature_view c.args.signature.now) f before) (sym d.1) refl
          | inr d ↦ subst (IsMisplaced (signature_view c.args.signature.now) f before) (sym d.1) refl
        ]
      ]
    ]
  ];
}
