-- Sentences whose word was read, and how their text is read on.
use Rattle.std.specs.Prelude.{◌≡◌, ℕ, Bool, List, [], ◌∷◌, ◌++◌, Option, Some, None, true, false, bytes_eq, codes, if◌then◌else◌, string_bytes}
use Rattle.kp_kore.specs.Syntax.{Text, KoreSort, KoreSorts, KorePattern, SortDeclaration, SymbolDeclaration, AliasDeclaration, Statement, KoreSentence, sort_sentence, symbol_sentence, alias_sentence, axiom_sentence, claim_sentence}
use Rattle.kp_kore.specs.View.{sort_view, sorts_view, names_view, sentence_view}
use Rattle.kp_kore.specs.declared.sentence.Sentence.{Sentence}
use Rattle.kp_text.specs.Grammar.{first_level}
use Rattle.kp_text.specs.Next.{Place, Step, goes, refused, a_mark, a_name, a_word, a_defined_as, a_pattern, names, an_attributes, a_signature, an_import, sentences}
use Rattle.kp_text.specs.Reads.{run_text, failed}
use Rattle.kp_text.specs.declared.tail.Tail.{Tail}
use Rattle.kp_text.specs.declared.fault.TextFailure.{TextFailure}
use Rattle.kp_text.specs.declared.sentences.Declared.{Declared}
use Rattle.kp_text.specs.declared.sentences.SentenceWord.{SentenceWord}
use Rattle.kp_text.specs.declared.sentences.SentenceWord.TheVariants as word

abbrev pub braced_names : (List Text → Place) → Place
braced_names k = a_mark 123 (names k)

-- name{parameters}(sorts):sort was read
abbrev pub FindsDeclared : Tail → List ℕ → Declared → List ℕ → Type 0
FindsDeclared tail text d rest = (k : Text → List Text → KoreSorts → KoreSort → Place) → run_text tail rest (k (string_bytes d.name) (names_view d.parameters.items) (sorts_view d.arguments.items) (sort_view d.result_sort)) ≡ run_text tail text (a_signature k)

abbrev pub StopsDeclared : Tail → List ℕ → TextFailure → Type 0
StopsDeclared tail text e = (k : Text → List Text → KoreSorts → KoreSort → Place) → run_text tail text (a_signature k) ≡ failed e (run_text tail text (a_signature k))

-- what follows the words of declarations, where = p := q, and what follows axiom and claim
abbrev pub sort_declared : Bool → (SortDeclaration → Place) → Place
sort_declared h k = a_name (λ x. braced_names (λ xs. an_attributes (λ as_. k (record { hooked = h; name = x; parameters = xs; attributes = as_ }))))

abbrev pub symbol_declared : Bool → (SymbolDeclaration → Place) → Place
symbol_declared h k = a_signature (λ x xs ss s. an_attributes (λ as_. k (record { hooked = h; name = x; parameters = xs; arguments = ss; result = s; attributes = as_ })))

abbrev pub an_equation : (KorePattern → KorePattern → Place) → Place
an_equation k = a_word (codes "where") (a_pattern first_level (λ p. a_defined_as (a_pattern first_level (λ q. k p q))))

abbrev pub alias_declared : (AliasDeclaration → Place) → Place
alias_declared k = a_signature (λ x xs ss s. an_equation (λ p q. an_attributes (λ as_. k (record { name = x; parameters = xs; arguments = ss; result = s; left = p; right = q; attributes = as_ }))))

abbrev pub stated : (Statement → Place) → Place
stated k = braced_names (λ xs. a_pattern first_level (λ p. an_attributes (λ as_. k (record { parameters = xs; pattern = p; attributes = as_ }))))

-- which word it is
abbrev pub sentence_word_of : Text → Option SentenceWord
sentence_word_of w =
    if bytes_eq w (codes "endmodule") then Some word.End
    else if bytes_eq w (codes "import") then Some word.Import
    else if bytes_eq w (codes "sort") then Some (word.Sort false)
    else if bytes_eq w (codes "hooked-sort") then Some (word.Sort true)
    else if bytes_eq w (codes "symbol") then Some (word.Symbol false)
    else if bytes_eq w (codes "hooked-symbol") then Some (word.Symbol true)
    else if bytes_eq w (codes "alias") then Some word.Alias
    else if bytes_eq w (codes "axiom") then Some word.Axiom
    else if bytes_eq w (codes "claim") then Some word.Claim
    else None

-- what follows a word
abbrev pub word_place : List KoreSentence → (List KoreSentence → Place) → SentenceWord → Place
word_place so_far k word.End = k so_far
word_place so_far k word.Import = an_import (λ s. sentences (so_far ++ s ∷ []) k)
word_place so_far k (word.Sort h) = sort_declared h (λ s. sentences (so_far ++ sort_sentence s ∷ []) k)
word_place so_far k (word.Symbol h) = symbol_declared h (λ s. sentences (so_far ++ symbol_sentence s ∷ []) k)
word_place so_far k word.Alias = alias_declared (λ s. sentences (so_far ++ alias_sentence s ∷ []) k)
word_place so_far k word.Axiom = stated (λ s. sentences (so_far ++ axiom_sentence s ∷ []) k)
word_place so_far k word.Claim = stated (λ s. sentences (so_far ++ claim_sentence s ∷ []) k)

abbrev pub sentence_step : List KoreSentence → (List KoreSentence → Place) → Option SentenceWord → Step
sentence_step so_far k None = refused
sentence_step so_far k (Some w) = goes 0 (word_place so_far k w)

-- a sentence was read, or the end of the module
abbrev pub sentence_goes : List KoreSentence → (List KoreSentence → Place) → Option Sentence → Place
sentence_goes so_far k None = k so_far
sentence_goes so_far k (Some s) = sentences (so_far ++ sentence_view s ∷ []) k
