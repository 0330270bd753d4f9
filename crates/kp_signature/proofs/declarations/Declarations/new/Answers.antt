use Rattle.std.proofs.Common.{◌≡◌, sym, ap, subst, ◌∙◌, ◌+◌, ◌++◌, ◌∷◌, [], map, take, get_or}
use Rattle.std.proofs.lemmas.List.{append-nil, take_more}
use Rattle.std.proofs.lemmas.Grind.{flat_map-append}
use Rattle.kp_kore.specs.View.{sentence_view}
use Rattle.kp_signature.specs.Order.{IsOrderOf}
use Rattle.kp_signature.specs.Table.{IsTableOf}
use Rattle.kp_signature.specs.Pairs.{subsort_view}
use Rattle.kp_signature.specs.View.{sentences_of}
use Rattle.kp_signature.proofs.declarations.Declarations.new.Goals as goal

pub loop-module-preserved : goal.loop-module-preserved
loop-module-preserved c =
    let ms = c.args.modules.now in
    let i = c.loop-module.module-index in
    let own = map sentence_view c.module-item.result.now.sentences.items in
    let added : IsTableOf c.add_all.new.self (sentences_of (take i ms) ++ own) =
    subst (λ ss. IsTableOf c.add_all.new.self (sentences_of (take i ms) ++ map sentence_view ss)) c.deref.ensures.value (c.in_ok-add_all.ensures (sentences_of (take i ms)) c.loop-module.invariant) in
    let split : sentences_of (take (i + 1) ms) ≡ sentences_of (take i ms) ++ own =
    ap sentences_of (take_more ms i c.module-item.result c.loop-module-test.true)
    ∙ flat_map-append (λ m. map sentence_view m.now.sentences.items) (take i ms) (get_or ms i c.module-item.result ∷ [])
    ∙ ap (λ m. sentences_of (take i ms) ++ sentences_of (m ∷ [])) (sym c.module-item.is)
    ∙ ap (λ l. sentences_of (take i ms) ++ l) (append-nil own) in
    subst (IsTableOf c.add_all.new.self) (sym split) added

pub invariant_of-result-clause-ordered : goal.invariant_of-result-clause-ordered
invariant_of-result-clause-ordered c = ∣ subst (λ l. IsOrderOf (map subsort_view l) c.in_ok-order.order) c.deref-2.ensures.value c.in_ok-order.ensures ∣₁
