-- What is read of a text is what it spells.
use Rattle.std.proofs.Common.{◌≡◌, ℕ, List, [], ◌∷◌, ap, subst, ◌∙◌}
use Rattle.kp_kore.specs.Syntax.{KorePattern, KoreModule, KoreDefinition}
use Rattle.std.specs.Prelude.{codes}
use Rattle.kp_kore.specs.View.{patterns_of}
use Rattle.kp_text.specs.Tokens.{identifier, lexemes}
use Rattle.kp_text.specs.Grammar.{Leveled, Writing, first_level, plain, attributes_tokens, sentences_tokens, module_tokens, modules_tokens, pattern_tokens, meaning, meanings, WrittenModule, module_meaning, WrittenModules, modules_meaning, WrittenDefinition, definition_meaning, definition_tokens}
use Rattle.kp_text.specs.Spelling.{HasTokens, SpellsPattern, SpellsModule, SpellsModules, SpellsDefinition}
use Rattle.kp_text.specs.Next.{Answer, pattern_answer, module_answer, modules_answer, definition_answer, done, a_word, after_module, more_modules, answered, run}
use Rattle.kp_text.proofs.Runs.{pattern_place}
use Rattle.kp_text.proofs.SoundPlaces.{answers, completes_written, of_attributes, of_module}
use Rattle.kp_text.proofs.CompleteModules.{module_place, modules_place, definition_place}
use Rattle.kp_text.proofs.Written.{Written}

has_tokens : (bytes : List ℕ) (ls ms : List Leveled) → HasTokens bytes ls → ls ≡ ms → HasTokens bytes ms
has_tokens bytes ls ms h e = subst (λ ns. HasTokens bytes ns) e h

-- a pattern text, by what is written
pub written_pattern : (ls : List Leveled) (a : Answer) → Written pattern_place ls a → (w : Writing) × (ls ≡ pattern_tokens first_level w []) × (pattern_answer (meaning w) ≡ a)
written_pattern ls a (w, rest, is, (js, go)) = (w, is ∙ ap (λ ms. pattern_tokens first_level w ms) js, go)

same_pattern : (p q : KorePattern) → pattern_answer p ≡ pattern_answer q → p ≡ q
same_pattern p q e = cc

pub read_pattern_is_spelled : (bytes : List ℕ) (p : KorePattern) → run (lexemes bytes) pattern_place ≡ answered (pattern_answer p) → SpellsPattern bytes p
read_pattern_is_spelled bytes p e =
    let read = answers (lexemes bytes) pattern_place (pattern_answer p) e in
    let w = written_pattern read.0 (pattern_answer p) (completes_written read.0 pattern_place (pattern_answer p) read.3) in
    (w.0, has_tokens bytes read.0 (pattern_tokens first_level w.0 []) (record { tokens = read.1; shallow = read.2 }) w.1, same_pattern (meaning w.0) p w.2)

-- a module's text, those of modules and of a definition
pub written_module : (ls : List Leveled) (a : Answer) → Written module_place ls a → (w : WrittenModule) × (ls ≡ module_tokens w []) × (module_answer (module_meaning w) ≡ a)
written_module ls a (r, is, go) =
    let m = of_module (λ n. done (module_answer n)) r a go in
    (m.0, is ∙ ap (λ ms. plain (identifier (codes "module")) ms) (m.2 ∙ ap (λ ms. plain (identifier m.0.name) (sentences_tokens m.0.sentences (plain (identifier (codes "endmodule")) (attributes_tokens m.0.attributes ms)))) m.3.0), m.3.1)

of_modules : (answer : List KoreModule → Answer) (ls : List Leveled) (a : Answer) → Written (a_word (codes "module") (after_module (λ m. more_modules (m ∷ []) answer))) ls a → (w : WrittenModules) × (ls ≡ modules_tokens w []) × (answer (modules_meaning w) ≡ a)
of_modules answer ls a (r, is, go) =
    let m = of_module (λ n. more_modules (n ∷ []) answer) r a go in
    (record { first = m.0; others = m.3.0 }, is ∙ ap (λ ms. plain (identifier (codes "module")) ms) (m.2 ∙ ap (λ ms. plain (identifier m.0.name) (sentences_tokens m.0.sentences (plain (identifier (codes "endmodule")) (attributes_tokens m.0.attributes ms)))) m.3.1), m.3.2)

pub written_modules : (ls : List Leveled) (a : Answer) → Written modules_place ls a → (w : WrittenModules) × (ls ≡ modules_tokens w []) × (modules_answer (modules_meaning w) ≡ a)
written_modules ls a go = of_modules modules_answer ls a go

pub written_definition : (ls : List Leveled) (a : Answer) → Written definition_place ls a → (w : WrittenDefinition) × (ls ≡ definition_tokens w []) × (definition_answer (definition_meaning w) ≡ a)
written_definition ls a go =
    let ws = of_attributes (λ as_. a_word (codes "module") (after_module (λ m. more_modules (m ∷ []) (λ ms. definition_answer (record { attributes = as_; modules = ms }))))) ls a go in
    let ms = of_modules (λ ms. definition_answer (record { attributes = patterns_of (meanings ws.0); modules = ms })) ws.1 a ws.3 in
    (record { attributes = ws.0; modules = ms.0 }, ws.2 ∙ ap (λ ns. attributes_tokens ws.0 ns) ms.1, ms.2)

same_module : (m n : KoreModule) → module_answer m ≡ module_answer n → m ≡ n
same_module m n e = cc

same_modules : (m n : List KoreModule) → modules_answer m ≡ modules_answer n → m ≡ n
same_modules m n e = cc

same_definition : (d e : KoreDefinition) → definition_answer d ≡ definition_answer e → d ≡ e
same_definition d e h = cc

pub read_module_is_spelled : (bytes : List ℕ) (m : KoreModule) → run (lexemes bytes) module_place ≡ answered (module_answer m) → SpellsModule bytes m
read_module_is_spelled bytes m e =
    let read = answers (lexemes bytes) module_place (module_answer m) e in
    let w = written_module read.0 (module_answer m) (completes_written read.0 module_place (module_answer m) read.3) in
    (w.0, has_tokens bytes read.0 (module_tokens w.0 []) (record { tokens = read.1; shallow = read.2 }) w.1, same_module (module_meaning w.0) m w.2)

pub read_modules_are_spelled : (bytes : List ℕ) (ms : List KoreModule) → run (lexemes bytes) modules_place ≡ answered (modules_answer ms) → SpellsModules bytes ms
read_modules_are_spelled bytes ms e =
    let read = answers (lexemes bytes) modules_place (modules_answer ms) e in
    let w = written_modules read.0 (modules_answer ms) (completes_written read.0 modules_place (modules_answer ms) read.3) in
    (w.0, has_tokens bytes read.0 (modules_tokens w.0 []) (record { tokens = read.1; shallow = read.2 }) w.1, same_modules (modules_meaning w.0) ms w.2)

pub read_definition_is_spelled : (bytes : List ℕ) (d : KoreDefinition) → run (lexemes bytes) definition_place ≡ answered (definition_answer d) → SpellsDefinition bytes d
read_definition_is_spelled bytes d e =
    let read = answers (lexemes bytes) definition_place (definition_answer d) e in
    let w = written_definition read.0 (definition_answer d) (completes_written read.0 definition_place (definition_answer d) read.3) in
    (w.0, has_tokens bytes read.0 (definition_tokens w.0 []) (record { tokens = read.1; shallow = read.2 }) w.1, same_definition (definition_meaning w.0) d w.2)
