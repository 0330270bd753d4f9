-- An entry of a module without sentences extends each book.
use Rattle.std.proofs.Common.{◌≡◌, ◌∙◌, sym, ap, subst, ℕ, List, [], false, map, Result, Ok, Err, Some, string_bytes}
use Rattle.std.specs.Prelude.{IfOk}
use Rattle.std.specs.List.{AllZip}
use Rattle.std.specs.declared.alloc.AllocError.{AllocError}
use Rattle.kp_kore.specs.Theory.{imports_in}
use Rattle.kp_kore.specs.View.{module_view, sentence_view}
use Rattle.kp_kore.specs.declared.sentence.Module.{Module}
use Rattle.kp_text.specs.Spelling.{SpellsModule}
use Rattle.kp_signature.specs.View.{signature_view}
use Rattle.kp_rule_sets.specs.declared.rule_set.RuleSet.{RuleSet}
use Rattle.kp_book.specs.Books.{extended, meaning_in}
use Rattle.kp_modules.specs.Made.{IsSetOf}
use Rattle.kp_modules.specs.Tables.{rule_set_of}
use Rattle.kp_modules.specs.declared.table.ModuleTable.{ModuleTable}
use Rattle.kp_registry.specs.Legal.{id_of}
use Rattle.kp_registry.specs.Passes.{Extends, own_name_asked}
use Rattle.kp_registry.specs.Refusals.{own_name_of}
use Rattle.kp_registry.specs.declared.seen.Entry.{Entry}
use Rattle.kp_registry.specs.declared.seen.Ready.{Ready}
use Rattle.kp_registry.proofs.Extended.{extended_extends}

extends_alone : (t given : ModuleTable) (text id : List ℕ) (m : Module) (rules : RuleSet) (e : Entry) → given ≡ t → SpellsModule text (module_view m) → m.sentences.items ≡ [] →
    IsSetOf (signature_view (rule_set_of given).signature.value) (extended [] id (module_view m)) rules → id ≡ id_of text → e.text.items ≡ text → e.id ≡ id_of text →
    own_name_of e ≡ own_name_asked false (string_bytes m.name) → e.rules.value ≡ rules → (es : List Entry) → Extends t es e
extends_alone t given text id m rules e same spells alone set is_id texts ids own rule es = λ o book table seen legal.
    let names : id ≡ id_of e.text.items = is_id ∙ ap id_of (sym texts) in
    let signed : signature_view (rule_set_of given).signature.value ≡ o.signature = ap (λ x. signature_view (rule_set_of x).signature.value) same ∙ table.rules.signature in
    let made = subst (λ g. IsSetOf g (extended [] id (module_view m)) rules) signed set in
    let named = subst (λ n. IsSetOf o.signature (extended [] n (module_view m)) rules) names made in
    extended_extends o book (module_view m) false [] e (subst (λ b. SpellsModule b (module_view m)) (sym texts) spells)
    (subst (λ ss. AllZip (λ name axioms. meaning_in o book name ≡ Some axioms) (imports_in (map sentence_view ss)) []) (sym alone) tt) (ids ∙ ap id_of (sym texts)) own
    (subst (λ s. IsSetOf o.signature (extended [] (id_of e.text.items) (module_view m)) s) (sym rule) named)

-- the same of what `prepare` makes
pub prepared_alone : (t given : ModuleTable) (text id : List ℕ) (m : Module) (rules : RuleSet) (result : Result Ready AllocError) → given ≡ t → SpellsModule text (module_view m) → m.sentences.items ≡ [] →
    IsSetOf (signature_view (rule_set_of given).signature.value) (extended [] id (module_view m)) rules → id ≡ id_of text →
    IfOk result (λ ready. ready.entry.text.items ≡ text) → IfOk result (λ ready. ready.entry.id ≡ id_of text) → IfOk result (λ ready. own_name_of ready.entry ≡ own_name_asked false (string_bytes m.name)) →
    IfOk result (λ ready. ready.entry.rules.value ≡ rules) → IfOk result (λ ready. (es : List Entry) → Extends t es ready.entry)
prepared_alone t given text id m rules (Ok ready) same spells alone set is_id texts ids own rule = extends_alone t given text id m rules ready.entry same spells alone set is_id texts ids own rule
prepared_alone t given text id m rules (Err e) same spells alone set is_id texts ids own rule = tt
