-- What adding a text to a book tells, and what is ready to be entered.
use Rattle.std.specs.Prelude.{◌≡◌, ℕ, Bool, List, [], ◌∷◌, ◌++◌, Option, Some, None, string_bytes}
use Rattle.std.specs.List.{AllZip}
use Rattle.std.specs.declared.alloc.Global.{Global}
use Rattle.std.specs.declared.sync.Arc.{Arc}
use Rattle.kp_kore.specs.Syntax.{Text, KoreModule}
use Rattle.kp_kore.specs.Signature.{KoreSignature}
use Rattle.kp_text.specs.Kinds.{kind_number}
use Rattle.kp_text.specs.Spelling.{IsFaultOf, IsModuleText}
use Rattle.kp_text.specs.declared.fault.TextFault.{TextFault}
use Rattle.kp_kore.specs.Theory.{NumberedAxiom, imports_in}
use Rattle.kp_rule_sets.specs.declared.rule_set.RuleSet.{RuleSet}
use Rattle.kp_replies.specs.Failures.{AdditionFault, bad_text, bad_axiom, bad_sentence, unknown_import, Failure, bad_module, duplicate}
use Rattle.kp_replies.specs.View.{addition_view}
use Rattle.kp_book.specs.Books.{Opening, Registration, Seen, Grows, with_own, meaning_in, extended}
use Rattle.kp_modules.specs.Extending.{ExtendFault, IsExtendFault, rule_fault, declaration}
use Rattle.kp_modules.specs.Made.{IsSetOf}
use Rattle.kp_registry.specs.Legal.{id_of}
use Rattle.kp_registry.specs.Passes.{MeansAt, own_name_asked}
use Rattle.kp_registry.specs.Refusals.{own_name_of}
use Rattle.kp_registry.specs.declared.book.Registry.{Registry}
use Rattle.kp_registry.specs.declared.seen.Entry.{Entry}
use Rattle.kp_additions.specs.Added.{IsAdded, IsFirstUnbound, IsRefusedFor, IsSound}
use Rattle.kp_additions.specs.Served.{HasSeenAt, Pass}
use Rattle.kp_additions.specs.declared.error.AdditionError.{AdditionError}
use Rattle.kp_additions.specs.declared.error.AdditionError.TheVariants as error

-- ---- what is told

-- want of memory tells none
abbrev pub failure_told : AdditionError → Option Failure
failure_told error.Memory = None
failure_told (error.Bad fault) = Some (bad_module (addition_view fault))
failure_told (error.Duplicate entry name) = Some (duplicate entry (string_bytes name))

-- the error is want of memory, or tells why the text isn't added at the book
abbrev pub TellsRefusal : Opening → List Registration → List ℕ → Bool → AdditionError → Type 0
TellsRefusal o book text name_as_id e = (f : Failure) → failure_told e ≡ Some f → IsRefusedFor o book text name_as_id f

-- or the text's fault
abbrev pub TellsText : List ℕ → AdditionError → Type 0
TellsText text e = (f : Failure) → failure_told e ≡ Some f → (t : TextFault) × (f ≡ bad_module (bad_text t.at (kind_number t.kind))) × IsFaultOf IsModuleText text t

-- or that the name means nothing at the book
abbrev pub TellsNoMeaning : Opening → List Registration → Text → AdditionError → Type 0
TellsNoMeaning o book name e = (f : Failure) → failure_told e ≡ Some f → (f ≡ bad_module (unknown_import name)) × (meaning_in o book name ≡ None)

-- or the first of these names that means nothing at the book
abbrev pub TellsUnbound : Opening → List Registration → List Text → AdditionError → Type 0
TellsUnbound o book names e = (f : Failure) → failure_told e ≡ Some f → (name : Text) × (f ≡ bad_module (unknown_import name)) × IsFirstUnbound o book names name

-- an axiom or a sentence of an added module is at fault
abbrev pub sentence_fault : ExtendFault → AdditionFault
sentence_fault (rule_fault n) = bad_axiom n
sentence_fault (declaration n) = bad_sentence n

-- or the first fault of the module's axioms and sentences
abbrev pub TellsUnsound : KoreSignature → Text → KoreModule → AdditionError → Type 0
TellsUnsound g id m e = (f : Failure) → failure_told e ≡ Some f → (x : ExtendFault) × (f ≡ bad_module (sentence_fault x)) × IsExtendFault g id m x

-- the text is added under this id behind a book that begins with the one that was seen, and the pass has seen it there,
-- as an entry of its own
pub record IsEntered (o : Opening) (before : Seen) (text : List ℕ) (name_as_id : Bool) (id : Text) (registry : Registry) (pass : Pass) : Type 0 where
  pub between : List Registration
  pub grows : Grows before.book between
  pub registration : Registration
  pub is_added : IsAdded o between text name_as_id registration
  pub is_id : registration.id ≡ id
  pub seen : HasSeenAt registry pass o (with_own between registration before.own)

-- ---- what is ready

-- the rule sets are what the names mean at the book, one of each
abbrev pub AreMeant : Opening → List Registration → List Text → List (Arc RuleSet Global) → Type 0
AreMeant o book = AllZip (λ name rules. MeansAt o book name (Some rules.value))

-- the entry is that of the sound module that the text spells
pub record IsReadied (o : Opening) (book : List Registration) (text : List ℕ) (name_as_id : Bool) (e : Entry) : Type 0 where
  pub spelled : KoreModule
  pub sound : IsSound o book text spelled
  pub is_text : e.text.items ≡ text
  pub is_id : e.id ≡ id_of text
  pub own_name : own_name_of e ≡ own_name_asked name_as_id spelled.name
  pub imports : List (List NumberedAxiom)
  pub bound : AllZip (λ name axioms. meaning_in o book name ≡ Some axioms) (imports_in spelled.sentences) imports
  pub rules : IsSetOf o.signature (extended imports (id_of text) spelled) e.rules.value
