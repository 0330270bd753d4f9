-- Sentences and modules that a text can spell, and the plain way to write them.
use Rattle.std.proofs.Common.{◌≡◌, ◌≤◌, true, false, List, [], ◌∷◌, map, refl, ap}
use Rattle.std.specs.List.{AllByRecursion}
use Rattle.kp_kore.specs.Syntax.{KorePattern, KorePatterns, SymbolDeclaration, SortDeclaration, AliasDeclaration, Statement, KoreSentence, import_sentence, sort_sentence, symbol_sentence, alias_sentence, axiom_sentence, claim_sentence, KoreModule}
use Rattle.kp_kore.specs.Parts.{nesting, most_nesting}
use Rattle.kp_text.specs.Grammar.{WrittenSentence, written_import, written_sort, written_symbol, written_alias, written_statement, sentence_meaning, WrittenModule, module_meaning}
use Rattle.kp_print.proofs.ReadTokens.{IsName}
use Rattle.kp_print.proofs.Spellable.{IsSort, AreSorts, IsSpellable, AreSpellable, written, all_written, written_means, all_written_mean}

-- a pattern that stands in no other, and attributes
pub record IsWhole (p : KorePattern) : Type 0 where
  pub spellable : IsSpellable p
  pub shallow : nesting p ≤ 256

pub record AreAttributes (ps : KorePatterns) : Type 0 where
  pub spellable : AreSpellable ps
  pub shallow : most_nesting ps ≤ 256

pub record IsSortDeclaration (s : SortDeclaration) : Type 0 where
  pub name : IsName s.name
  pub parameters : AllByRecursion IsName s.parameters
  pub attributes : AreAttributes s.attributes

pub record IsSymbolDeclaration (s : SymbolDeclaration) : Type 0 where
  pub name : IsName s.name
  pub parameters : AllByRecursion IsName s.parameters
  pub arguments : AreSorts s.arguments
  pub result : IsSort s.result
  pub attributes : AreAttributes s.attributes

pub record IsAliasDeclaration (s : AliasDeclaration) : Type 0 where
  pub name : IsName s.name
  pub parameters : AllByRecursion IsName s.parameters
  pub arguments : AreSorts s.arguments
  pub result : IsSort s.result
  pub left : IsWhole s.left
  pub right : IsWhole s.right
  pub attributes : AreAttributes s.attributes

pub record IsStatement (s : Statement) : Type 0 where
  pub parameters : AllByRecursion IsName s.parameters
  pub pattern : IsWhole s.pattern
  pub attributes : AreAttributes s.attributes

abbrev pub IsSpellableSentence : KoreSentence → Type 0
IsSpellableSentence (import_sentence x ps) = IsName x × AreAttributes ps
IsSpellableSentence (sort_sentence s) = IsSortDeclaration s
IsSpellableSentence (symbol_sentence s) = IsSymbolDeclaration s
IsSpellableSentence (alias_sentence s) = IsAliasDeclaration s
IsSpellableSentence (axiom_sentence s) = IsStatement s
IsSpellableSentence (claim_sentence s) = IsStatement s

pub record IsSpellableModule (m : KoreModule) : Type 0 where
  pub name : IsName m.name
  pub sentences : AllByRecursion IsSpellableSentence m.sentences
  pub attributes : AreAttributes m.attributes

-- the plain way to write them
abbrev pub sentence_written : KoreSentence → WrittenSentence
sentence_written (import_sentence x ps) = written_import x (all_written ps)
sentence_written (sort_sentence s) = written_sort s.hooked s.name s.parameters (all_written s.attributes)
sentence_written (symbol_sentence s) = written_symbol s.hooked s.name s.parameters s.arguments s.result (all_written s.attributes)
sentence_written (alias_sentence s) = written_alias s.name s.parameters s.arguments s.result (written s.left) (written s.right) (all_written s.attributes)
sentence_written (axiom_sentence s) = written_statement false s.parameters (written s.pattern) (all_written s.attributes)
sentence_written (claim_sentence s) = written_statement true s.parameters (written s.pattern) (all_written s.attributes)

abbrev pub module_written : KoreModule → WrittenModule
module_written m = record { name = m.name; sentences = map sentence_written m.sentences; attributes = all_written m.attributes }

-- it means them
sentence_means : (s : KoreSentence) → IsSpellableSentence s → sentence_meaning (sentence_written s) ≡ s
sentence_means (import_sentence x ps) h = ap (import_sentence x) (all_written_mean ps h.1.spellable)
sentence_means (sort_sentence s) h = ap (λ (ps : KorePatterns). sort_sentence (record { hooked = s.hooked; name = s.name; parameters = s.parameters; attributes = ps })) (all_written_mean s.attributes h.attributes.spellable)
sentence_means (symbol_sentence s) h = ap (λ (ps : KorePatterns). symbol_sentence (record { hooked = s.hooked; name = s.name; parameters = s.parameters; arguments = s.arguments; result = s.result; attributes = ps })) (all_written_mean s.attributes h.attributes.spellable)
sentence_means (alias_sentence s) h = rw (written_means s.left h.left.spellable, written_means s.right h.right.spellable, all_written_mean s.attributes h.attributes.spellable) refl
sentence_means (axiom_sentence s) h = rw (written_means s.pattern h.pattern.spellable, all_written_mean s.attributes h.attributes.spellable) refl
sentence_means (claim_sentence s) h = rw (written_means s.pattern h.pattern.spellable, all_written_mean s.attributes h.attributes.spellable) refl

sentences_mean : (ss : List KoreSentence) → AllByRecursion IsSpellableSentence ss → map sentence_meaning (map sentence_written ss) ≡ ss
sentences_mean [] h = refl
sentences_mean (s ∷ ss) h = rw (sentence_means s h.0, sentences_mean ss h.1) refl

pub module_means : (m : KoreModule) → IsSpellableModule m → module_meaning (module_written m) ≡ m
module_means m h = rw (sentences_mean m.sentences h.sentences, all_written_mean m.attributes h.attributes.spellable) refl
