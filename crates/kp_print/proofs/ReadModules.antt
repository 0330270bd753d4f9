-- Printed sentences and modules are read as their plain writings.
use Rattle.std.proofs.Common.{◌≡◌, Bool, true, false, List, [], ◌∷◌, ◌++◌, map, refl, sym, subst, append_assoc, arith}
use Rattle.std.specs.Prelude.{codes}
use Rattle.std.specs.List.{AllByRecursion}
use Rattle.kp_kore.specs.Syntax.{Text, KoreSentence, import_sentence, sort_sentence, symbol_sentence, alias_sentence, axiom_sentence, claim_sentence, KoreModule, Statement}
use Rattle.kp_text.specs.Tokens.{identifier, defined_as}
use Rattle.kp_text.specs.Grammar.{Leveled, plain, first_level, pattern_tokens, attributes_tokens, braced_names, sort_word, symbol_word, sentence_tokens, sentences_tokens, module_tokens}
use Rattle.kp_print.specs.Printed.{pattern_text, attributes_text, parameters_text, signature_text, hooked_text, statement_text, sentence_text, sentences_text, module_text}
use Rattle.kp_print.proofs.ReadTokens.{Reads, plain_reads, space_reads, goes_on, name_reads}
use Rattle.kp_print.proofs.ReadSorts.{parameters_read, signature_reads}
use Rattle.kp_print.proofs.ReadPatterns.{whole_pattern_reads, attributes_read}
use Rattle.kp_print.proofs.Spellable.{written, all_written}
use Rattle.kp_print.proofs.SpellableModules.{IsStatement, IsSpellableSentence, IsSpellableModule, sentence_written, module_written}

sort_keyword : (hooked : Bool) (rest : Text) (ls : List Leveled) → Reads rest ls → Reads ((hooked_text hooked ++ codes "sort ") ++ rest) (plain (identifier (sort_word hooked)) ls)
sort_keyword true rest ls r = plain_reads (codes "hooked-sort") (32 ∷ rest) (identifier (codes "hooked-sort")) ls refl refl (space_reads rest ls r)
sort_keyword false rest ls r = plain_reads (codes "sort") (32 ∷ rest) (identifier (codes "sort")) ls refl refl (space_reads rest ls r)

symbol_keyword : (hooked : Bool) (rest : Text) (ls : List Leveled) → Reads rest ls → Reads ((hooked_text hooked ++ codes "symbol ") ++ rest) (plain (identifier (symbol_word hooked)) ls)
symbol_keyword true rest ls r = plain_reads (codes "hooked-symbol") (32 ∷ rest) (identifier (codes "hooked-symbol")) ls refl refl (space_reads rest ls r)
symbol_keyword false rest ls r = plain_reads (codes "symbol") (32 ∷ rest) (identifier (codes "symbol")) ls refl refl (space_reads rest ls r)

-- how parts are put before another text
three_before : (a b c rest : Text) → (a ++ b ++ c) ++ rest ≡ a ++ (b ++ (c ++ rest))
three_before a b c rest = simp append_assoc

four_before : (a b c d rest : Text) → (a ++ b ++ c ++ d) ++ rest ≡ a ++ (b ++ (c ++ (d ++ rest)))
four_before a b c d rest = simp append_assoc

five_before : (a b c d e rest : Text) → (a ++ b ++ c ++ d ++ e) ++ rest ≡ a ++ (b ++ (c ++ (d ++ (e ++ rest))))
five_before a b c d e rest = simp append_assoc

seven_before : (a b c d e f g rest : Text) → (a ++ b ++ c ++ d ++ e ++ f ++ g) ++ rest ≡ a ++ (b ++ (c ++ (d ++ (e ++ (f ++ (g ++ rest))))))
seven_before a b c d e f g rest = simp append_assoc

-- the other way round, for texts that are read
put : (a b : Text) (ls : List Leveled) → a ≡ b → Reads b ls → Reads a ls
put a b ls e r = subst (λ (x : Text). Reads x ls) (sym e) r

statement_reads : (s : Statement) (rest : Text) (ls : List Leveled) → IsStatement s → Reads rest ls → Reads (statement_text s ++ rest) (braced_names s.parameters (pattern_tokens first_level (written s.pattern) (attributes_tokens (all_written s.attributes) ls)))
statement_reads s rest ls h r = put _ _ _ (four_before (parameters_text s.parameters) (codes " ") (pattern_text s.pattern) (attributes_text s.attributes) rest)
    (parameters_read s.parameters (32 ∷ (pattern_text s.pattern ++ (attributes_text s.attributes ++ rest))) _ h.parameters
    (space_reads _ _ (whole_pattern_reads s.pattern (attributes_text s.attributes ++ rest) (attributes_tokens (all_written s.attributes) ls) h.pattern.spellable h.pattern.shallow refl
    (attributes_read s.attributes rest ls h.attributes.spellable h.attributes.shallow r))))

sentence_reads : (s : KoreSentence) (rest : Text) (ls : List Leveled) → IsSpellableSentence s → Reads rest ls → Reads (sentence_text s ++ rest) (sentence_tokens (sentence_written s) ls)
sentence_reads (import_sentence x ps) rest ls h r = put _ _ _ (three_before (codes "import ") x (attributes_text ps) rest)
    (plain_reads (codes "import") (32 ∷ (x ++ (attributes_text ps ++ rest))) (identifier (codes "import")) _ refl refl
    (space_reads _ _ (name_reads 0 x (attributes_text ps ++ rest) (attributes_tokens (all_written ps) ls) (omega arith) h.0 refl
    (attributes_read ps rest ls h.1.spellable h.1.shallow r))))
sentence_reads (sort_sentence s) rest ls h r = put _ _ _ (four_before (hooked_text s.hooked ++ codes "sort ") s.name (parameters_text s.parameters) (attributes_text s.attributes) rest)
    (sort_keyword s.hooked (s.name ++ (parameters_text s.parameters ++ (attributes_text s.attributes ++ rest))) _
    (name_reads 0 s.name (parameters_text s.parameters ++ (attributes_text s.attributes ++ rest)) _ (omega arith) h.name refl
    (parameters_read s.parameters (attributes_text s.attributes ++ rest) (attributes_tokens (all_written s.attributes) ls) h.parameters
    (attributes_read s.attributes rest ls h.attributes.spellable h.attributes.shallow r))))
sentence_reads (symbol_sentence s) rest ls h r = put _ _ _ (three_before (hooked_text s.hooked ++ codes "symbol ") (signature_text s.name s.parameters s.arguments s.result) (attributes_text s.attributes) rest)
    (symbol_keyword s.hooked (signature_text s.name s.parameters s.arguments s.result ++ (attributes_text s.attributes ++ rest)) _
    (signature_reads s.name s.parameters s.arguments s.result (attributes_text s.attributes ++ rest) (attributes_tokens (all_written s.attributes) ls) h.name h.parameters h.arguments h.result refl
    (attributes_read s.attributes rest ls h.attributes.spellable h.attributes.shallow r)))
sentence_reads (alias_sentence s) rest ls h r =
    let behind = attributes_text s.attributes ++ rest in
    let right = pattern_text s.right ++ behind in
    let left = pattern_text s.left ++ (58 ∷ (61 ∷ right)) in
    put _ _ _ (seven_before (codes "alias ") (signature_text s.name s.parameters s.arguments s.result) (codes " where ") (pattern_text s.left) (codes ":=") (pattern_text s.right) (attributes_text s.attributes) rest)
    (plain_reads (codes "alias") (32 ∷ (signature_text s.name s.parameters s.arguments s.result ++ (codes " where " ++ left))) (identifier (codes "alias")) _ refl refl
    (space_reads _ _ (signature_reads s.name s.parameters s.arguments s.result (codes " where " ++ left) _ h.name h.parameters h.arguments h.result refl
    (space_reads _ _ (plain_reads (codes "where") (32 ∷ left) (identifier (codes "where")) _ refl refl
    (space_reads _ _ (whole_pattern_reads s.left (58 ∷ (61 ∷ right)) _ h.left.spellable h.left.shallow refl
    (plain_reads (58 ∷ (61 ∷ [])) right defined_as _ refl refl
    (whole_pattern_reads s.right behind (attributes_tokens (all_written s.attributes) ls) h.right.spellable h.right.shallow refl
    (attributes_read s.attributes rest ls h.attributes.spellable h.attributes.shallow r))))))))))
sentence_reads (axiom_sentence s) rest ls h r = plain_reads (codes "axiom") (statement_text s ++ rest) (identifier (codes "axiom")) _ refl refl (statement_reads s rest ls h r)
sentence_reads (claim_sentence s) rest ls h r = plain_reads (codes "claim") (statement_text s ++ rest) (identifier (codes "claim")) _ refl refl (statement_reads s rest ls h r)

sentences_read : (ss : List KoreSentence) (rest : Text) (ls : List Leveled) → AllByRecursion IsSpellableSentence ss → Reads rest ls → Reads (sentences_text ss ++ rest) (sentences_tokens (map sentence_written ss) ls)
sentences_read [] rest ls h r = r
sentences_read (s ∷ ss) rest ls h r = put _ _ _ (three_before (codes " ") (sentence_text s) (sentences_text ss) rest)
    (space_reads _ _ (sentence_reads s (sentences_text ss ++ rest) (sentences_tokens (map sentence_written ss) ls) h.0 (sentences_read ss rest ls h.1 r)))

sentences_end : (ss : List KoreSentence) (rest : Text) → goes_on rest ≡ false → goes_on (sentences_text ss ++ rest) ≡ false
sentences_end [] rest e = e
sentences_end (s ∷ ss) rest e = refl

pub module_reads : (m : KoreModule) (rest : Text) (ls : List Leveled) → IsSpellableModule m → Reads rest ls → Reads (module_text m ++ rest) (module_tokens (module_written m) ls)
module_reads m rest ls h r =
    let behind = codes " endmodule" ++ (attributes_text m.attributes ++ rest) in
    put _ _ _ (five_before (codes "module ") m.name (sentences_text m.sentences) (codes " endmodule") (attributes_text m.attributes) rest)
    (plain_reads (codes "module") (32 ∷ (m.name ++ (sentences_text m.sentences ++ behind))) (identifier (codes "module")) _ refl refl
    (space_reads _ _ (name_reads 0 m.name (sentences_text m.sentences ++ behind) _ (omega arith) h.name (sentences_end m.sentences behind refl)
    (sentences_read m.sentences behind _ h.sentences
    (space_reads _ _ (plain_reads (codes "endmodule") (attributes_text m.attributes ++ rest) (identifier (codes "endmodule")) _ refl refl
    (attributes_read m.attributes rest ls h.attributes.spellable h.attributes.shallow r)))))))
