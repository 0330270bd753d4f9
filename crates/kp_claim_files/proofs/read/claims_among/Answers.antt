use Rattle.std.proofs.Common.{rules, ◌≡◌, ◌≤◌, ◌+◌, ◌++◌, ◌∷◌, [], sym, ap, subst, ◌∙◌, take, drop, get_or, length}
use Rattle.std.specs.List.{AllZip}
use Rattle.std.proofs.lemmas.List.{take_all, map-append}
use Rattle.kp_kore.specs.View.{sentence_view}
use Rattle.kp_signature.specs.View.{signature_view}
use Rattle.kp_claims.specs.Faults.{labels_of, TellsOf}
use Rattle.kp_names.specs.Met.{Lists}
use Rattle.kp_claims.specs.Sentences.{seen}
use Rattle.kp_claims.proofs.OneMore.{seen_more, seen_split, labels_more, zip_push, exit}
use Rattle.kp_claim_sentences.specs.Claims.{IsStatedBy}
use Rattle.kp_claim_sentences.specs.Faults.{AreFaultless, file_labels, IsFirstFault}
use Rattle.kp_claim_sentences.specs.Items.{item_view, items_view}
use Rattle.kp_claim_files.proofs.FirstFaults.{one_more, told_first}
use Rattle.kp_claim_files.proofs.read.claims_among.Goals as goal

pub loop-i-preserved : goal.loop-i-preserved
loop-i-preserved c =
    let g = signature_view c.args.signature.now in
    let ss = c.args.sentences.now in
    let i = c.loop-i.i in
    let x = c.index-sentences-i.result in
    let old = seen (take i ss) in
    let item = c.in_ok-item.item in
    let read : x ≡ get_or ss i x = search rules in
    let more : seen (take (i + 1) ss) ≡ old ++ sentence_view x.now ∷ [] = seen_more ss i x c.loop-i-test.true read in
    let items : items_view c.push.new.self.items ≡ items_view c.loop-i.items.items ++ item_view item ∷ [] = ap items_view c.in_ok-push.ensures.items ∙ map-append item_view c.loop-i.items.items (item ∷ []) in
    record {
      faultless = λ notes. subst (AreFaultless g (file_labels (seen ss)) []) (sym more)
          (one_more g (file_labels (seen ss)) old (sentence_view x.now) (c.loop-i.invariant.faultless notes) (c.in_ok-item.ensures.faultless (file_labels (seen ss)) (labels_of old) notes c.loop-i.invariant.labels));
      claims = subst (λ l. AllZip IsStatedBy l (items_view c.push.new.self.items)) (sym more)
          (subst (AllZip IsStatedBy (old ++ sentence_view x.now ∷ [])) (sym items) (zip_push IsStatedBy old (items_view c.loop-i.items.items) (sentence_view x.now) (item_view item) c.loop-i.invariant.claims c.in_ok-item.ensures.claim));
      labels = subst (λ l. Lists (labels_of l) c.claim_of_sentence.new.labels) (sym more)
          (subst (λ l. Lists l c.claim_of_sentence.new.labels) (sym (labels_more old (sentence_view x.now))) (c.in_ok-item.ensures.labels (labels_of old) c.loop-i.invariant.labels));
    }

pub returns-in_err-item-clause-err : goal.returns-in_err-item-clause-err
returns-in_err-item-clause-err c notes =
    let g = signature_view c.args.signature.now in
    let ss = c.args.sentences.now in
    let i = c.loop-i.i in
    let x = c.index-sentences-i.result in
    let e = c.in_err-item.field-0.0 in
    let read : x ≡ get_or ss i x = search rules in
    exit c.from_residual-in_err-item.result (TellsOf (IsFirstFault g (seen ss))) e c.from_residual-in_err-item.ensures
    (told_first g (seen ss) (seen (take i ss)) (seen (drop (i + 1) ss)) (sentence_view x.now) e (seen_split ss i x c.loop-i-test.true read) (c.loop-i.invariant.faultless notes)
    (c.in_err-item.ensures.err (file_labels (seen ss)) (labels_of (seen (take i ss))) notes c.loop-i.invariant.labels))

pub returns-clause-faultless : goal.returns-clause-faultless
returns-clause-faultless c notes =
    let ss = c.args.sentences.now in
    let past : length ss ≤ c.loop-i.i = search rules in
    subst (λ l. AreFaultless (signature_view c.args.signature.now) (file_labels (seen ss)) [] (seen l)) (take_all c.loop-i.i ss past) (c.loop-i.invariant.faultless notes)

pub returns-clause-claims : goal.returns-clause-claims
returns-clause-claims c =
    let past : length c.args.sentences.now ≤ c.loop-i.i = search rules in
    subst (λ l. AllZip IsStatedBy (seen l) (items_view c.loop-i.items.items)) (take_all c.loop-i.i c.args.sentences.now past) c.loop-i.invariant.claims
