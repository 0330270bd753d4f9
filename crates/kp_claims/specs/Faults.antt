-- The faults of a claims file, their codes, and how they are told.
use Rattle.std.specs.Prelude.{◌≡◌, ℕ, List, [], ◌∷◌, ◌++◌, Option, Some, None, if◌then◌else◌, ⊤, option_to_list, codes, string_bytes}
use Rattle.std.specs.Option.{option_map}
use Rattle.std.specs.List.{list_any}
use Rattle.std.specs.Str.{bytes_eq}
use Rattle.kp_kore.specs.Syntax.{Text, KorePattern, implication, KoreSentence, import_sentence, sort_sentence, symbol_sentence, alias_sentence, axiom_sentence, claim_sentence}
use Rattle.kp_text.specs.Spelling.{IsFaultOf}
use Rattle.kp_signature.specs.Faults as verify
use Rattle.kp_signature.specs.Verify.{VerifyFault}
use Rattle.kp_claims.specs.Claims.{ClaimSides, label_of}
use Rattle.kp_claims.specs.Files.{IsFileText}
use Rattle.kp_claims.specs.declared.fault.ClaimError.{ClaimError}
use Rattle.kp_claims.specs.declared.fault.ClaimError.TheVariants as error
use Rattle.kp_claims.specs.declared.fault.ClaimFault.{ClaimFault}
use Rattle.kp_claims.specs.declared.fault.ClaimFault.TheVariants as told

pub data Fault : Type 0 where
  -- C1: the claim speaks of one path
  one_path : Fault
  -- C2: a claim of another shape, or a sort, a symbol or a rewrite axiom in the file
  other_shape : Fault
  -- C6: no label
  no_label : Fault
  -- C7: the label of an earlier claim
  repeated_label : Text → Fault
  -- C9: a side doesn't verify
  unverified : VerifyFault → Fault
  -- C9: a foreign symbol stands in a side
  foreign_symbol : Text → Fault
  -- C9: a side isn't one term and predicates
  other_side : Fault
  -- C3: a variable has a name that new variables may have
  fresh_name : Text → Fault
  -- C8: the claim is used as a rule, and can't be one
  no_rule : Fault
  -- C4: it depends on a label that no claim of the file has
  unknown_label : Text → Fault
  -- C5: the claim of this label depends on itself
  circle : Text → Fault

-- the fault that the code tells
abbrev pub told_fault : ClaimFault → Option Fault
told_fault told.OnePath = Some one_path
told_fault told.OtherShape = Some other_shape
told_fault told.NoLabel = Some no_label
told_fault (told.RepeatedLabel l) = Some (repeated_label (string_bytes l))
told_fault (told.Unverified e) = option_map unverified (verify.fault_view e)
told_fault (told.ForeignSymbol n) = Some (foreign_symbol (string_bytes n))
told_fault told.OtherSide = Some other_side
told_fault (told.FreshName n) = Some (fresh_name (string_bytes n))
told_fault told.NoRule = Some no_rule
told_fault (told.UnknownLabel l) = Some (unknown_label (string_bytes l))
told_fault (told.Circle l) = Some (circle (string_bytes l))

-- the code that is shown of a fault
abbrev pub fault_code : ClaimFault → Text
fault_code told.OnePath = codes "C1"
fault_code told.OtherShape = codes "C2"
fault_code told.NoLabel = codes "C6"
fault_code (told.RepeatedLabel l) = codes "C7"
fault_code (told.Unverified e) = codes "C9"
fault_code (told.ForeignSymbol n) = codes "C9"
fault_code told.OtherSide = codes "C9"
fault_code (told.FreshName n) = codes "C3"
fault_code told.NoRule = codes "C8"
fault_code (told.UnknownLabel l) = codes "C4"
fault_code (told.Circle l) = codes "C5"

-- ---- parts of a first fault

-- C6, then C7 after claims with these labels
abbrev pub label_fault : List Text → Option Text → Option Fault
label_fault labels None = Some no_label
label_fault labels (Some l) = if list_any (bytes_eq l) labels then Some (repeated_label l) else None

-- the claim without its word on paths: \implies{S}(left, right)
abbrev pub bare_claim : ClaimSides → KorePattern
bare_claim c = implication c.sort c.left c.right

-- ---- labels

-- the label of a claim
abbrev pub label_at : KoreSentence → List Text
label_at (claim_sentence s) = option_to_list (label_of s.attributes)
label_at (import_sentence n as_) = []
label_at (sort_sentence d) = []
label_at (symbol_sentence d) = []
label_at (alias_sentence d) = []
label_at (axiom_sentence s) = []

abbrev pub labels_of : List KoreSentence → List Text
labels_of [] = []
labels_of (s ∷ ss) = label_at s ++ labels_of ss

-- ---- what is told

-- a fault that is told, and of which this holds
pub record Tells (e : ClaimFault) (Holds : Fault → Type 0) : Type 0 where
  pub fault : Fault
  pub told : told_fault e ≡ Some fault
  pub holds : Holds fault

-- want of memory says nothing; a text fault is that of the bytes
abbrev pub IsTextError : List ℕ → ClaimError → Type 0
IsTextError bytes error.Memory = ⊤
IsTextError bytes (error.Text f) = IsFaultOf IsFileText bytes f
IsTextError bytes (error.Fault e) = ⊥

-- the same of sentences and of one sentence, where no text is read: a fault of which this holds
abbrev pub TellsOf : (Fault → Type 0) → ClaimError → Type 0
TellsOf Holds error.Memory = ⊤
TellsOf Holds (error.Text f) = ⊥
TellsOf Holds (error.Fault e) = Tells e Holds
