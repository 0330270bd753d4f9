use Rattle.std.proofs.Common.{◌≡◌, sym, ap, subst, map}
use Rattle.std.specs.List.{AllZip}
use Rattle.kp_kore.specs.View.{module_view, sentence_view}
use Rattle.kp_signature.specs.View.{signature_view}
use Rattle.kp_kore.specs.Theory.{rewrite_axioms_from}
use Rattle.kp_book.specs.Books.{extended}
use Rattle.kp_modules.specs.Extending.{AreSetsOf, IsTakenFrom}
use Rattle.kp_modules.specs.Made.{IsSetOf}
use Rattle.kp_modules.specs.Tables.{rule_set_of}
use Rattle.kp_modules.proofs.extension.extend.Goals as goal

pub returns-clause-set : goal.returns-clause-set
returns-clause-set c lists sets =
    let id = c.args.id.now in
    let m = module_view c.args.added.now in
    let axioms = rewrite_axioms_from id 1 m.sentences in
    let g = signature_view c.rule_set-rules.result.now.signature.value in
    let whole : g ≡ signature_view (rule_set_of c.args.table.now).signature.value = ap (λ r. signature_view r.signature.value) c.rule_set-rules.ensures in
    let read : signature_view c.deref.result.now ≡ g = ap signature_view c.deref.ensures in
    let sentences : map sentence_view c.deref-2.result.now ≡ m.sentences = ap (map sentence_view) c.deref-2.ensures.value in
    let own : AllZip (IsTakenFrom g) axioms c.deref-4.result.now =
    subst (AllZip (IsTakenFrom g) axioms) (sym c.deref-4.ensures.value)
    (subst (λ l. AllZip (IsTakenFrom g) (rewrite_axioms_from id 1 l) c.in_ok-own.own.items) sentences
    (subst (λ k. AllZip (IsTakenFrom k) (rewrite_axioms_from id 1 (map sentence_view c.deref-2.result.now)) c.in_ok-own.own.items) read c.in_ok-own.ensures.ok)) in
    subst (λ k. IsSetOf k (extended lists id m) c.in_ok-joined.field-0) whole
    (c.in_ok-joined.ensures lists axioms (subst (λ k. AreSetsOf k lists c.args.imports.now) (sym whole) sets) own)
