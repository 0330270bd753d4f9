use Rattle.std.proofs.Common.{◌≡◌, refl, sym, ap, subst, ◌∙◌, map, Some, None, Bor, Contains}
use Rattle.std.specs.Option.{option_map}
use Rattle.kp_kore.specs.Parts.{sort_list}
use Rattle.kp_kore.specs.View.{sort_view, sorts_view, symbol_sentence_view}
use Rattle.kp_kore.specs.declared.sentence.SymbolSentence.{SymbolSentence}
use Rattle.kp_kore.specs.Value.{constructed}
use Rattle.kp_signature.specs.View.{signature_view}
use Rattle.kp_heads.specs.Steps.{constructor_declared}
use Rattle.kp_heads.proofs.Making.{listed_sorts}
use Rattle.kp_heads.proofs.Values.{constructor_has, declared_so, live_arguments, live_declared}
use Rattle.kp_heads.proofs.table.HeadTable.is_live.Goals as goal

pub returns-in-Some : goal.returns-in-Some
returns-in-Some c t =
    let g = signature_view c.args.signature.now in
    let name = c.args.name.now in
    let d = symbol_sentence_view c.in-Some.declaration.now in
    let ss = c.in-Some.declaration.now.arguments.items in
    let e : constructor_declared g name ≡ Some d = sym c.constructor_named.ensures ∙ ap (option_map (λ (s : Bor SymbolSentence). symbol_sentence_view s.now)) c.in-Some.is in
    let same : sort_list (sorts_view ss) ≡ map sort_view c.deref.result.now = listed_sorts ss ∙ ap (map sort_view) (sym c.deref.ensures.value) in
    let all = c.have_values.ensures t in (
      λ h. let r = constructor_has g name d e (λ a k. all.0 h a (subst (λ l. Contains l a) same k)) in (constructed name r.0, (d.result, r.1), refl),
      λ l. all.1 (λ a k. live_arguments g name d (declared_so g name d e).0 l.0 l.1.0 l.1.1 l.2 a (subst (λ l. Contains l a) (sym same) k)),
    )

pub returns-in-None : goal.returns-in-None
returns-in-None c t =
    let g = signature_view c.args.signature.now in
    let none : constructor_declared g c.args.name.now ≡ None = sym c.constructor_named.ensures ∙ ap (option_map (λ (s : Bor SymbolSentence). symbol_sentence_view s.now)) c.in-None.is in
    (λ h. absurd (cc), λ l. absurd (live_declared g c.args.name.now l.0 l.1.0 l.1.1 l.2 none))
