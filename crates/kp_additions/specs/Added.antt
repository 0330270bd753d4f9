-- Whether a module is added at a book, and why not: the first cause of its text, its imports, its axioms, its sentences;
-- then a name that is bound to another text; then a full book.
-- Source: the K Haskell backend's JSON-RPC documentation (add-module, name-as-id, the errors of a module); this project.
use Rattle.std.specs.Prelude.{◌≡◌, ◌<◌, ℕ, Bool, true, List, ◌∷◌, ◌++◌, length, Some, None}
use Rattle.std.specs.List.{AllByRecursion}
use Rattle.kp_kore.specs.Syntax.{Text, KoreModule}
use Rattle.kp_text.specs.Kinds.{kind_number}
use Rattle.kp_text.specs.Spelling.{SpellsModule, IsModuleText, IsFaultOf}
use Rattle.kp_text.specs.declared.fault.TextFault.{TextFault}
use Rattle.kp_kore.specs.Theory.{NumberedAxiom, imports_in}
use Rattle.kp_replies.specs.Failures.{bad_text, unknown_import, bad_axiom, bad_sentence, full_book, Failure, bad_module, duplicate}
use Rattle.kp_modules.specs.Extending.{IsAddable, IsExtendFault, rule_fault, declaration}
use Rattle.kp_book.specs.Books.{Opening, Registration, IsDuplicate, meaning_in, most_entries}
use Rattle.kp_registry.specs.Legal.{Fits, id_of}
use Rattle.kp_registry.specs.Passes.{own_name_asked}
use Rattle.kp_registry.specs.Refusals.{IsFree, IsAlsoFree}

-- each of these names means something
abbrev pub AreBound : Opening → List Registration → List Text → Type 0
AreBound o book = AllByRecursion (λ name. (axioms : List NumberedAxiom) × (meaning_in o book name ≡ Some axioms))

-- the first of these names that means nothing
pub record IsFirstUnbound (o : Opening) (book : List Registration) (names : List Text) (name : Text) : Type 0 where
  pub before : List Text
  pub after : List Text
  pub are : names ≡ before ++ name ∷ after
  pub bound : AreBound o book before
  pub unbound : meaning_in o book name ≡ None

-- the text spells this module, whose imports mean something
pub record IsImportable (o : Opening) (book : List Registration) (text : List ℕ) (m : KoreModule) : Type 0 where
  pub spells : SpellsModule text m
  pub bound : AreBound o book (imports_in m.sentences)

-- and it has no axiom at fault and no sentence that an added module may not have
pub record IsSound (o : Opening) (book : List Registration) (text : List ℕ) (m : KoreModule) : Type 0 where
  pub importable : IsImportable o book text m
  pub addable : IsAddable o.signature (id_of text) m

-- why this text isn't added, where its own name is or isn't asked for
pub data IsRefusedFor (o : Opening) (book : List Registration) (text : List ℕ) (name_as_id : Bool) : Failure → Type 0 where
  no_module : (f : TextFault) → IsFaultOf IsModuleText text f → IsRefusedFor o book text name_as_id (bad_module (bad_text f.at (kind_number f.kind)))
  no_import : (m : KoreModule) (name : Text) → SpellsModule text m → IsFirstUnbound o book (imports_in m.sentences) name → IsRefusedFor o book text name_as_id (bad_module (unknown_import name))
  no_rule : (m : KoreModule) (n : ℕ) → IsImportable o book text m → IsExtendFault o.signature (id_of text) m (rule_fault n) → IsRefusedFor o book text name_as_id (bad_module (bad_axiom n))
  declares : (m : KoreModule) (n : ℕ) → IsImportable o book text m → IsExtendFault o.signature (id_of text) m (declaration n) → IsRefusedFor o book text name_as_id (bad_module (bad_sentence n))
  other_id : (m : KoreModule) (n : ℕ) → IsSound o book text m → IsDuplicate o book text (id_of text) n → IsRefusedFor o book text name_as_id (duplicate n (id_of text))
  other_name : (m : KoreModule) (n : ℕ) → IsSound o book text m → IsFree o book text (id_of text) → name_as_id ≡ true → IsDuplicate o book text m.name n →
      IsRefusedFor o book text name_as_id (duplicate n m.name)
  no_room : (m : KoreModule) → IsSound o book text m → IsFree o book text (id_of text) → IsAlsoFree o book text (own_name_asked name_as_id m.name) → length book ≡ most_entries →
      IsRefusedFor o book text name_as_id (bad_module full_book)

-- this text, which spells this sound module, is added as the registration, which fits behind the book
pub record IsAdded (o : Opening) (book : List Registration) (text : List ℕ) (name_as_id : Bool) (r : Registration) : Type 0 where
  pub spelled : KoreModule
  pub sound : IsSound o book text spelled
  pub fits : Fits o book r
  pub text_is : r.text ≡ text
  pub also_is : r.also ≡ own_name_asked name_as_id spelled.name
  pub room : length book < most_entries
