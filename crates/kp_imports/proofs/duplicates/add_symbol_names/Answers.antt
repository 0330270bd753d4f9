use Rattle.std.proofs.Common.{rules, ◌≡◌, sym, ap, ◌∙◌, [], ◌∷◌, get_or, string_bytes}
use Rattle.std.proofs.lemmas.List.{append-nil}
use Rattle.kp_kore.specs.Signature.{symbols_in}
use Rattle.kp_kore.specs.View.{sentence_view}
use Rattle.kp_signature.specs.Table.{symbol_names}
use Rattle.kp_imports.specs.Names.{texts_of}
use Rattle.kp_imports.proofs.Declared.{symbols_append, next_sentence, texts_push}
use Rattle.kp_imports.proofs.duplicates.add_symbol_names.Goals as goal
use Rattle.kp_imports.proofs.duplicates.add_symbol_names.Goals.{in-Some+in_ok-push, in_default}

pub loop-i-preserved : goal.loop-i-preserved
loop-i-preserved c =
    let i = c.loop-i.i in
    let ss = c.args.sentences.now in
    let s = c.index-sentences-i.result in
    let read : s ≡ get_or ss i s = search rules in
    elim c.match-symbol_of.branch [
      | in-Some+in_ok-push w ↦
          let own : symbol_names (symbols_in (sentence_view s ∷ [])) ≡ string_bytes w.in-Some.name.now ∷ [] = search rules in
          next_sentence (λ l. symbol_names (symbols_in l)) symbols_append ss i s (string_bytes w.in-Some.name.now ∷ []) c.loop-i-test.true read own
          (texts_of c.args.names.now.items) (texts_of c.loop-i.names.items) (texts_of c.match-symbol_of.names.items) c.loop-i.invariant
          (ap (λ v. texts_of v.items) w.names-is ∙ texts_push c.loop-i.names.items w.push.new.self.items w.in-Some.name w.in_ok-push.ensures.items)
      | in_default w ↦
          let own : symbol_names (symbols_in (sentence_view s ∷ [])) ≡ [] = search rules in
          next_sentence (λ l. symbol_names (symbols_in l)) symbols_append ss i s [] c.loop-i-test.true read own
          (texts_of c.args.names.now.items) (texts_of c.loop-i.names.items) (texts_of c.match-symbol_of.names.items) c.loop-i.invariant
          (ap (λ v. texts_of v.items) w.names-is ∙ sym (append-nil (texts_of c.loop-i.names.items)))
    ]
