-- The tokens of sentences, modules and definitions lead on from where these may stand.
use Rattle.std.proofs.Common.{◌≡◌, ℕ, Bool, true, false, List, [], ◌∷◌, ◌++◌, map, refl, sym, ap, subst, ◌∙◌, append_assoc}
use Rattle.std.proofs.lemmas.List.{append-nil}
use Rattle.std.specs.Prelude.{codes}
use Rattle.kp_kore.specs.Syntax.{Text, KoreSort, KoreSorts, KorePattern, KorePatterns, KoreSentence, import_sentence, sort_sentence, symbol_sentence, alias_sentence, KoreModule, KoreDefinition}
use Rattle.kp_kore.specs.View.{sorts_of, patterns_of}
use Rattle.kp_text.specs.Tokens.{identifier, mark, defined_as, lexemes}
use Rattle.kp_text.specs.Grammar.{Leveled, plain, first_level, sort_tokens, sorts_tokens, pattern_tokens, attributes_tokens, more_names_tokens, names_tokens, braced_names, signature_tokens, Writing, Writings, meaning, meanings, WrittenSentence, written_import, written_sort, written_symbol, written_alias, written_statement, statement_meaning, sentence_meaning, sentence_tokens, sentences_tokens, WrittenModule, module_meaning, module_tokens, WrittenModules, modules_meaning, modules_tokens, other_modules_tokens, WrittenDefinition, definition_meaning, definition_tokens}
use Rattle.kp_text.specs.Next.{Answer, module_answer, modules_answer, definition_answer, Place, done, a_mark, a_defined_as, a_word, a_sort, sorts, names, more_names, a_pattern, sentences, more_modules, an_attributes, a_signature, a_sort_declaration, a_symbol_declaration, a_statement, an_alias, after_module, answered, run}
use Rattle.kp_text.specs.Spelling.{SpellsModule, SpellsModules, SpellsDefinition}
use Rattle.kp_text.proofs.Completes.{Completes, NoBrace}
use Rattle.kp_text.proofs.CompleteSorts.{closing_parenthesis, closing_bracket, sorts_of_list, sort_completes, sorts_complete}
use Rattle.kp_text.proofs.CompletePatterns.{pattern_completes, list_completes}
use Rattle.kp_text.proofs.Runs.{runs}

more_names_complete : (xs ys : List Text) (k : List Text → Place) (more : List Leveled) (a : Answer) → Completes more (k (ys ++ xs)) a → Completes (more_names_tokens xs (plain (mark 125) more)) (more_names ys k) a
more_names_complete [] ys k more a go = (refl, subst (λ zs. Completes more (k zs) a) (append-nil ys) go)
more_names_complete (x ∷ xs) ys k more a go = (refl, (refl, more_names_complete xs (ys ++ x ∷ []) k more a (subst (λ zs. Completes more (k zs) a) (sym (append_assoc ys (x ∷ []) xs)) go)))

names_complete : (xs : List Text) (k : List Text → Place) (more : List Leveled) (a : Answer) → Completes more (k xs) a → Completes (names_tokens xs (plain (mark 125) more)) (names k) a
names_complete [] k more a go = (refl, go)
names_complete (x ∷ xs) k more a go = (refl, more_names_complete xs (x ∷ []) k more a go)

attributes_complete : (ws : Writings) (k : KorePatterns → Place) (more : List Leveled) (a : Answer) → Completes more (k (patterns_of (meanings ws))) a → Completes (attributes_tokens ws more) (an_attributes k) a
attributes_complete ws k more a go = (refl, list_completes ws first_level 93 (λ ps. k (patterns_of ps)) more a closing_bracket go)

signature_completes : (x : Text) (xs : List Text) (ss : KoreSorts) (s : KoreSort) (k : Text → List Text → KoreSorts → KoreSort → Place) (more : List Leveled) (a : Answer) → ((v : KoreSort) → NoBrace (k x xs ss v)) → Completes more (k x xs ss s) a → Completes (signature_tokens x xs ss s more) (a_signature k) a
signature_completes x xs ss s k more a none go =
    let rest = plain (mark 58) (sort_tokens 1 s more) in (
      refl,
      (
        refl,
        names_complete xs (λ ys. a_mark 40 (sorts 1 41 (λ ts. a_mark 58 (a_sort 1 (λ v. k x ys (sorts_of ts) v))))) (plain (mark 40) (sorts_tokens 1 ss (plain (mark 41) rest))) a (
          refl,
          sorts_complete ss 1 41 (λ ts. a_mark 58 (a_sort 1 (λ v. k x xs (sorts_of ts) v))) rest a closing_parenthesis
              (subst (λ us. Completes rest (a_mark 58 (a_sort 1 (λ v. k x xs us v))) a) (sym (sorts_of_list ss)) (refl, sort_completes s 1 (λ v. k x xs ss v) more a none go)),
        ),
      ),
    )

-- after the word of a sort, a symbol, an axiom
sort_completes_as : (h : Bool) (x : Text) (xs : List Text) (ws : Writings) (k : KoreSentence → Place) (more : List Leveled) (a : Answer) → Completes more (k (sentence_meaning (written_sort h x xs ws))) a → Completes (plain (identifier x) (braced_names xs (attributes_tokens ws more))) (a_sort_declaration h k) a
sort_completes_as h x xs ws k more a go = (
  refl,
  (
    refl,
    names_complete xs (λ ys. an_attributes (λ as_. k (sort_sentence (record { hooked = h; name = x; parameters = ys; attributes = as_ })))) (attributes_tokens ws more) a
        (attributes_complete ws (λ as_. k (sort_sentence (record { hooked = h; name = x; parameters = xs; attributes = as_ }))) more a go),
  ),
)

symbol_completes : (h : Bool) (x : Text) (xs : List Text) (ss : KoreSorts) (s : KoreSort) (ws : Writings) (k : KoreSentence → Place) (more : List Leveled) (a : Answer) → Completes more (k (sentence_meaning (written_symbol h x xs ss s ws))) a → Completes (signature_tokens x xs ss s (attributes_tokens ws more)) (a_symbol_declaration h k) a
symbol_completes h x xs ss s ws k more a go =
    signature_completes x xs ss s (λ y ys ts t. an_attributes (λ as_. k (symbol_sentence (record { hooked = h; name = y; parameters = ys; arguments = ts; result = t; attributes = as_ })))) (attributes_tokens ws more) a (λ v. refl)
    (attributes_complete ws (λ as_. k (symbol_sentence (record { hooked = h; name = x; parameters = xs; arguments = ss; result = s; attributes = as_ }))) more a go)

statement_completes : (c : Bool) (xs : List Text) (w : Writing) (ws : Writings) (k : KoreSentence → Place) (more : List Leveled) (a : Answer) → Completes more (k (sentence_meaning (written_statement c xs w ws))) a → Completes (braced_names xs (pattern_tokens first_level w (attributes_tokens ws more))) (a_statement c k) a
statement_completes c xs w ws k more a go = (
  refl,
  names_complete xs (λ ys. a_pattern first_level (λ p. an_attributes (λ as_. k (statement_meaning c ys p as_)))) (pattern_tokens first_level w (attributes_tokens ws more)) a
      (pattern_completes w first_level (λ p. an_attributes (λ as_. k (statement_meaning c xs p as_))) (attributes_tokens ws more) a (λ p. refl)
      (attributes_complete ws (λ as_. k (statement_meaning c xs (meaning w) as_)) more a go)),
)

alias_completes : (x : Text) (xs : List Text) (ss : KoreSorts) (s : KoreSort) (v w : Writing) (ws : Writings) (k : KoreSentence → Place) (more : List Leveled) (a : Answer) → Completes more (k (sentence_meaning (written_alias x xs ss s v w ws))) a → Completes (signature_tokens x xs ss s (plain (identifier (codes "where")) (pattern_tokens first_level v (plain defined_as (pattern_tokens first_level w (attributes_tokens ws more)))))) (an_alias k) a
alias_completes x xs ss s v w ws k more a go =
    let end = attributes_tokens ws more in
    let second = plain defined_as (pattern_tokens first_level w end) in
    let made = λ (y : Text) (ys : List Text) (ts : KoreSorts) (t : KoreSort) (p q : KorePattern) (as_ : KorePatterns). k (alias_sentence (record { name = y; parameters = ys; arguments = ts; result = t; left = p; right = q; attributes = as_ })) in
    signature_completes x xs ss s (λ y ys ts t. a_word (codes "where") (a_pattern first_level (λ p. a_defined_as (a_pattern first_level (λ q. an_attributes (made y ys ts t p q)))))) (plain (identifier (codes "where")) (pattern_tokens first_level v second)) a (λ u. refl) (
      refl,
      pattern_completes v first_level (λ p. a_defined_as (a_pattern first_level (λ q. an_attributes (made x xs ss s p q)))) second a (λ p. refl) (
        refl,
        pattern_completes w first_level (λ q. an_attributes (made x xs ss s (meaning v) q)) end a (λ p. refl)
            (attributes_complete ws (made x xs ss s (meaning v) (meaning w)) more a go),
      ),
    )

sentence_completes : (w : WrittenSentence) (so_far : List KoreSentence) (k : List KoreSentence → Place) (more : List Leveled) (a : Answer) → Completes more (sentences (so_far ++ sentence_meaning w ∷ []) k) a → Completes (sentence_tokens w more) (sentences so_far k) a
sentence_completes (written_import x ws) so_far k more a go = (refl, (refl, attributes_complete ws (λ as_. sentences (so_far ++ import_sentence x as_ ∷ []) k) more a go))
sentence_completes (written_sort false x xs ws) so_far k more a go = (refl, sort_completes_as false x xs ws (λ s. sentences (so_far ++ s ∷ []) k) more a go)
sentence_completes (written_sort true x xs ws) so_far k more a go = (refl, sort_completes_as true x xs ws (λ s. sentences (so_far ++ s ∷ []) k) more a go)
sentence_completes (written_symbol false x xs ss s ws) so_far k more a go = (refl, symbol_completes false x xs ss s ws (λ t. sentences (so_far ++ t ∷ []) k) more a go)
sentence_completes (written_symbol true x xs ss s ws) so_far k more a go = (refl, symbol_completes true x xs ss s ws (λ t. sentences (so_far ++ t ∷ []) k) more a go)
sentence_completes (written_alias x xs ss s v w ws) so_far k more a go = (refl, alias_completes x xs ss s v w ws (λ t. sentences (so_far ++ t ∷ []) k) more a go)
sentence_completes (written_statement false xs w ws) so_far k more a go = (refl, statement_completes false xs w ws (λ t. sentences (so_far ++ t ∷ []) k) more a go)
sentence_completes (written_statement true xs w ws) so_far k more a go = (refl, statement_completes true xs w ws (λ t. sentences (so_far ++ t ∷ []) k) more a go)

sentences_complete : (ws : List WrittenSentence) (so_far : List KoreSentence) (k : List KoreSentence → Place) (more : List Leveled) (a : Answer) → Completes more (k (so_far ++ map sentence_meaning ws)) a → Completes (sentences_tokens ws (plain (identifier (codes "endmodule")) more)) (sentences so_far k) a
sentences_complete [] so_far k more a go = (refl, subst (λ ss. Completes more (k ss) a) (append-nil so_far) go)
sentences_complete (w ∷ ws) so_far k more a go = sentence_completes w so_far k (sentences_tokens ws (plain (identifier (codes "endmodule")) more)) a (sentences_complete ws (so_far ++ sentence_meaning w ∷ []) k more a (subst (λ ss. Completes more (k ss) a) (sym (append_assoc so_far (sentence_meaning w ∷ []) (map sentence_meaning ws))) go))

-- a module behind its word
module_completes : (m : WrittenModule) (k : KoreModule → Place) (more : List Leveled) (a : Answer) → Completes more (k (module_meaning m)) a → Completes (plain (identifier m.name) (sentences_tokens m.sentences (plain (identifier (codes "endmodule")) (attributes_tokens m.attributes more)))) (after_module k) a
module_completes m k more a go = (
  refl,
  sentences_complete m.sentences [] (λ ss. an_attributes (λ as_. k (record { name = m.name; sentences = ss; attributes = as_ }))) (attributes_tokens m.attributes more) a
      (attributes_complete m.attributes (λ as_. k (record { name = m.name; sentences = map sentence_meaning m.sentences; attributes = as_ })) more a go),
)

other_modules_complete : (ms : List WrittenModule) (so_far : List KoreModule) (answer : List KoreModule → Answer) (a : Answer) → answer (so_far ++ map module_meaning ms) ≡ a → Completes (other_modules_tokens ms []) (more_modules so_far answer) a
other_modules_complete [] so_far answer a is = ap answered (ap answer (sym (append-nil so_far)) ∙ is)
other_modules_complete (m ∷ ms) so_far answer a is = (refl, module_completes m (λ n. more_modules (so_far ++ n ∷ []) answer) (other_modules_tokens ms []) a (other_modules_complete ms (so_far ++ module_meaning m ∷ []) answer a (ap answer (append_assoc so_far (module_meaning m ∷ []) (map module_meaning ms)) ∙ is)))

modules_complete : (ms : WrittenModules) (answer : List KoreModule → Answer) (a : Answer) → answer (modules_meaning ms) ≡ a → Completes (modules_tokens ms []) (a_word (codes "module") (after_module (λ m. more_modules (m ∷ []) answer))) a
modules_complete ms answer a is = (refl, module_completes ms.first (λ m. more_modules (m ∷ []) answer) (other_modules_tokens ms.others []) a (other_modules_complete ms.others (module_meaning ms.first ∷ []) answer a is))

-- the places where a module, modules and a definition are read
abbrev pub module_place : Place
module_place = a_word (codes "module") (after_module (λ m. done (module_answer m)))

abbrev pub modules_place : Place
modules_place = a_word (codes "module") (after_module (λ m. more_modules (m ∷ []) modules_answer))

abbrev pub definition_place : Place
definition_place = an_attributes (λ as_. a_word (codes "module") (after_module (λ m. more_modules (m ∷ []) (λ ms. definition_answer (record { attributes = as_; modules = ms })))))

pub module_text_completes : (w : WrittenModule) → Completes (module_tokens w []) module_place (module_answer (module_meaning w))
module_text_completes w = (refl, module_completes w (λ m. done (module_answer m)) [] (module_answer (module_meaning w)) refl)

pub modules_text_completes : (w : WrittenModules) → Completes (modules_tokens w []) modules_place (modules_answer (modules_meaning w))
modules_text_completes w = modules_complete w modules_answer (modules_answer (modules_meaning w)) refl

pub definition_text_completes : (w : WrittenDefinition) → Completes (definition_tokens w []) definition_place (definition_answer (definition_meaning w))
definition_text_completes w = attributes_complete w.attributes (λ as_. a_word (codes "module") (after_module (λ m. more_modules (m ∷ []) (λ ms. definition_answer (record { attributes = as_; modules = ms }))))) (modules_tokens w.modules []) (definition_answer (definition_meaning w)) (modules_complete w.modules (λ ms. definition_answer (record { attributes = patterns_of (meanings w.attributes); modules = ms })) (definition_answer (definition_meaning w)) refl)

pub spelled_module_runs : (bytes : List ℕ) (m : KoreModule) → SpellsModule bytes m → run (lexemes bytes) module_place ≡ answered (module_answer m)
spelled_module_runs bytes m spells = runs (lexemes bytes) (module_tokens spells.0 []) module_place (module_answer m) spells.1.tokens spells.1.shallow (subst (λ n. Completes (module_tokens spells.0 []) module_place (module_answer n)) spells.2 (module_text_completes spells.0))

pub spelled_modules_run : (bytes : List ℕ) (ms : List KoreModule) → SpellsModules bytes ms → run (lexemes bytes) modules_place ≡ answered (modules_answer ms)
spelled_modules_run bytes ms spells = runs (lexemes bytes) (modules_tokens spells.0 []) modules_place (modules_answer ms) spells.1.tokens spells.1.shallow (subst (λ n. Completes (modules_tokens spells.0 []) modules_place (modules_answer n)) spells.2 (modules_text_completes spells.0))

pub spelled_definition_runs : (bytes : List ℕ) (d : KoreDefinition) → SpellsDefinition bytes d → run (lexemes bytes) definition_place ≡ answered (definition_answer d)
spelled_definition_runs bytes d spells = runs (lexemes bytes) (definition_tokens spells.0 []) definition_place (definition_answer d) spells.1.tokens spells.1.shallow (subst (λ n. Completes (definition_tokens spells.0 []) definition_place (definition_answer n)) spells.2 (definition_text_completes spells.0))

same_module : (m n : KoreModule) → answered (module_answer m) ≡ answered (module_answer n) → m ≡ n
same_module m n e = cc

same_modules : (m n : List KoreModule) → answered (modules_answer m) ≡ answered (modules_answer n) → m ≡ n
same_modules m n e = cc

same_definition : (d e : KoreDefinition) → answered (definition_answer d) ≡ answered (definition_answer e) → d ≡ e
same_definition d e h = cc

pub one_module : (bytes : List ℕ) (m n : KoreModule) → SpellsModule bytes m → SpellsModule bytes n → m ≡ n
one_module bytes m n one other = same_module m n (sym (spelled_module_runs bytes m one) ∙ spelled_module_runs bytes n other)

pub one_modules : (bytes : List ℕ) (ms ns : List KoreModule) → SpellsModules bytes ms → SpellsModules bytes ns → ms ≡ ns
one_modules bytes ms ns one other = same_modules ms ns (sym (spelled_modules_run bytes ms one) ∙ spelled_modules_run bytes ns other)

pub one_definition : (bytes : List ℕ) (d e : KoreDefinition) → SpellsDefinition bytes d → SpellsDefinition bytes e → d ≡ e
one_definition bytes d e one other = same_definition d e (sym (spelled_definition_runs bytes d one) ∙ spelled_definition_runs bytes e other)
