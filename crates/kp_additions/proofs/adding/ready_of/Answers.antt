use Rattle.std.proofs.Common.{◌≡◌, sym, ap, subst, ◌∙◌, map}
use Rattle.std.specs.Str.{IsUtf8}
use Rattle.kp_kore.specs.View.{module_view, sentence_view}
use Rattle.kp_text.specs.Spelling.{IsFaultOf, IsModuleText, SpellsModule}
use Rattle.kp_signature.specs.View.{signature_view}
use Rattle.kp_kore.specs.Theory.{imports_in}
use Rattle.kp_modules.specs.Extending.{AreSetsOf}
use Rattle.kp_modules.specs.Tables.{rule_set_of}
use Rattle.kp_registry.specs.Legal.{id_of}
use Rattle.kp_registry.proofs.Ascii.{id_is_text}
use Rattle.kp_additions.specs.Added.{IsFirstUnbound}
use Rattle.kp_additions.specs.Served.{AtEachBookSeen}
use Rattle.kp_additions.specs.Told.{AreMeant, TellsRefusal}
use Rattle.kp_additions.proofs.Meanings.{exit}
use Rattle.kp_additions.proofs.Telling.{of_import, of_sentence, of_text, readied}
use Rattle.kp_additions.proofs.adding.ready_of.Goals as goal

pub returns-in_err-module-clause-err : goal.returns-in_err-module-clause-err
returns-in_err-module-clause-err g c =
    exit c.from_residual.result (λ e. AtEachBookSeen c.args.registry.now c.args.pass.now (λ o book. TellsRefusal o book c.args.text.items c.args.name_as_id e)) c.in_err-module.field-0.0 c.from_residual.ensures
    (λ o s had f is.
    let h = c.in_err-module.ensures.err f is in
    of_text o s.book c.args.text.items c.args.name_as_id f h.0 h.1 (subst (λ b. IsFaultOf IsModuleText b h.0) c.deref.ensures.value h.2))

pub returns-in_err-imports-clause-err : goal.returns-in_err-imports-clause-err
returns-in_err-imports-clause-err g c =
    let m = c.in_ok-module.module in
    let spells : SpellsModule c.args.text.items (module_view m) = subst (λ b. SpellsModule b (module_view m)) c.deref.ensures.value c.in_ok-module.ensures.spells in
    exit c.from_residual-in_err-imports.result (λ e. AtEachBookSeen c.args.registry.now c.imports_of.new.pass (λ o book. TellsRefusal o book c.args.text.items c.args.name_as_id e)) c.in_err-imports.field-0.0 c.from_residual-in_err-imports.ensures
    (λ o s had f is.
    let h = c.in_err-imports.ensures.err o s had f is in
    of_import o s.book c.args.text.items c.args.name_as_id (module_view m) f h.0 spells h.1 (subst (λ ss. IsFirstUnbound o s.book (imports_in (map sentence_view ss)) h.0) c.deref-2.ensures.value h.2))

pub rules_of-requires : goal.rules_of-requires
rules_of-requires g c = record { id = subst IsUtf8 (sym c.id_of.ensures) (id_is_text c.deref-4.result.now) }

pub returns-in_err-rules-clause-err : goal.returns-in_err-rules-clause-err
returns-in_err-rules-clause-err g c =
    let text = c.args.text.items in
    let m = c.in_ok-module.module in
    let g = signature_view (rule_set_of c.table.result.now).signature.value in
    let spells : SpellsModule text (module_view m) = subst (λ b. SpellsModule b (module_view m)) c.deref.ensures.value c.in_ok-module.ensures.spells in
    let is_id : c.id_of.result ≡ id_of text = c.id_of.ensures ∙ ap id_of c.deref-4.ensures.value in
    exit c.from_residual-in_err-rules.result (λ e. AtEachBookSeen c.args.registry.now c.imports_of.new.pass (λ o book. TellsRefusal o book text c.args.name_as_id e)) c.in_err-rules.field-0.0 c.from_residual-in_err-rules.ensures
    (λ o s had f is.
    let same : g ≡ o.signature = ap (λ t. signature_view (rule_set_of t).signature.value) c.table.ensures ∙ had.table.rules.signature in
    let are : AreMeant o s.book (imports_in (map sentence_view m.sentences.items)) c.in_ok-imports.imports.items = subst (λ ss. AreMeant o s.book (imports_in (map sentence_view ss)) c.in_ok-imports.imports.items) c.deref-2.ensures.value (c.in_ok-imports.ensures.meant o s had) in
    of_sentence o g s.book text c.args.name_as_id m c.id_of.result c.in_ok-imports.imports.items f same is_id spells are (c.in_err-rules.ensures.err f is))

pub returns-clause-entry : goal.returns-clause-entry
returns-clause-entry g c = λ o s had.
    let text = c.args.text.items in
    let m = c.in_ok-module.module in
    let sets = c.in_ok-imports.imports.items in
    let g = signature_view (rule_set_of c.table.result.now).signature.value in
    let spells : SpellsModule text (module_view m) = subst (λ b. SpellsModule b (module_view m)) c.deref.ensures.value c.in_ok-module.ensures.spells in
    let is_id : c.id_of.result ≡ id_of text = c.id_of.ensures ∙ ap id_of c.deref-4.ensures.value in
    let same : g ≡ o.signature = ap (λ t. signature_view (rule_set_of t).signature.value) c.table.ensures ∙ had.table.rules.signature in
    let are : AreMeant o s.book (imports_in (map sentence_view m.sentences.items)) sets = subst (λ ss. AreMeant o s.book (imports_in (map sentence_view ss)) sets) c.deref-2.ensures.value (c.in_ok-imports.ensures.meant o s had) in
    let ready = c.in_ok-prepare.ensures in
    readied o g s.book text c.args.name_as_id m c.id_of.result sets c.in_ok-rules.rules.value c.in_ok-prepare.field-0.entry same is_id spells are
    (λ lists of. c.in_ok-rules.ensures.set lists (subst (AreSetsOf g lists) (sym c.deref-3.ensures.value) of)) c.in_ok-rules.ensures.addable ready.text ready.id ready.own ready.rules
