-- Sentences and modules of a text can be spelled in the plain way.
use Rattle.std.proofs.Common.{Bool, true, false, List, [], ◌∷◌, map}
use Rattle.std.specs.Prelude.{codes}
use Rattle.std.specs.List.{AllByRecursion}
use Rattle.kp_kore.specs.Syntax.{Text, KorePattern, KorePatterns}
use Rattle.kp_kore.specs.View.{patterns_of}
use Rattle.kp_text.specs.Tokens.{identifier, defined_as}
use Rattle.kp_text.specs.Grammar.{Leveled, plain, Writing, Writings, meaning, meanings, first_level, pattern_tokens, attributes_tokens, WrittenSentence, written_import, written_sort, written_symbol, written_alias, written_statement, sentence_meaning, statement_meaning, sentence_tokens, sentences_tokens, WrittenModule, module_meaning, module_tokens}
use Rattle.kp_print.proofs.ReadTokens.{IsName}
use Rattle.kp_print.proofs.SoundTokens.{AreFine}
use Rattle.kp_print.proofs.SoundSorts.{parameters_fine, signature_fine}
use Rattle.kp_print.proofs.SoundPatterns.{whole_pattern_fine, attributes_fine}
use Rattle.kp_print.proofs.SpellableModules.{IsWhole, AreAttributes, IsSpellableSentence, IsSpellableModule}

whole : (w : Writing) (more : List Leveled) → AreFine (pattern_tokens first_level w more) → IsWhole (meaning w) × AreFine more
whole w more h = let p = whole_pattern_fine w more h in (record { spellable = p.0; shallow = p.1 }, p.2)

attributes : (ws : Writings) (more : List Leveled) → AreFine (attributes_tokens ws more) → AreAttributes (patterns_of (meanings ws)) × AreFine more
attributes ws more h = let ps = attributes_fine ws more h in (record { spellable = ps.0; shallow = ps.1 }, ps.2)

statement_spellable : (c : Bool) (xs : List Text) (p : KorePattern) (ps : KorePatterns) → AllByRecursion IsName xs → IsWhole p → AreAttributes ps → IsSpellableSentence (statement_meaning c xs p ps)
statement_spellable false xs p ps names h k = record { parameters = names; pattern = h; attributes = k }
statement_spellable true xs p ps names h k = record { parameters = names; pattern = h; attributes = k }

sentence_fine : (w : WrittenSentence) (more : List Leveled) → AreFine (sentence_tokens w more) → IsSpellableSentence (sentence_meaning w) × AreFine more
sentence_fine (written_import x ws) more h = let k = attributes ws more h.1.1 in ((h.1.0.token, k.0), k.1)
sentence_fine (written_sort hooked x xs ws) more h =
    let names = parameters_fine xs (attributes_tokens ws more) h.1.1 in
    let k = attributes ws more names.1 in
    (record { name = h.1.0.token; parameters = names.0; attributes = k.0 }, k.1)
sentence_fine (written_symbol hooked x xs ss s ws) more h =
    let signature = signature_fine x xs ss s (attributes_tokens ws more) h.1 in
    let k = attributes ws more signature.4 in
    (record { name = signature.0; parameters = signature.1; arguments = signature.2; result = signature.3; attributes = k.0 }, k.1)
sentence_fine (written_alias x xs ss s v w ws) more h =
    let signature = signature_fine x xs ss s (plain (identifier (codes "where")) (pattern_tokens first_level v (plain defined_as (pattern_tokens first_level w (attributes_tokens ws more))))) h.1 in
    let left = whole v (plain defined_as (pattern_tokens first_level w (attributes_tokens ws more))) signature.4.1 in
    let right = whole w (attributes_tokens ws more) left.1.1 in
    let k = attributes ws more right.1 in
    (record { name = signature.0; parameters = signature.1; arguments = signature.2; result = signature.3; left = left.0; right = right.0; attributes = k.0 }, k.1)
sentence_fine (written_statement c xs w ws) more h =
    let names = parameters_fine xs (pattern_tokens first_level w (attributes_tokens ws more)) h.1 in
    let p = whole w (attributes_tokens ws more) names.1 in
    let k = attributes ws more p.1 in
    (statement_spellable c xs (meaning w) (patterns_of (meanings ws)) names.0 p.0 k.0, k.1)

sentences_fine : (ws : List WrittenSentence) (more : List Leveled) → AreFine (sentences_tokens ws more) → AllByRecursion IsSpellableSentence (map sentence_meaning ws) × AreFine more
sentences_fine [] more h = (tt, h)
sentences_fine (w ∷ ws) more h =
    let s = sentence_fine w (sentences_tokens ws more) h in
    let ss = sentences_fine ws more s.1 in
    ((s.0, ss.0), ss.1)

pub module_fine : (w : WrittenModule) → AreFine (module_tokens w []) → IsSpellableModule (module_meaning w)
module_fine w h =
    let ss = sentences_fine w.sentences (plain (identifier (codes "endmodule")) (attributes_tokens w.attributes [])) h.1.1 in
    let k = attributes w.attributes [] ss.1.1 in
    record { name = h.1.0.token; sentences = ss.0; attributes = k.0 }
