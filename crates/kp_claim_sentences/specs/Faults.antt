-- The faults of a claims file and their order: that of the first sentence that has one, of a claim's faults the first,
-- and last of all a cycle of dependencies.
-- Source: this project; what can be no rule follows the K framework's rewrite axioms.
use Rattle.std.specs.Prelude.{◌≡◌, ◌⊎◌, ℕ, Bool, true, not, ◌&&◌, ◌||◌, nat_lt, List, [], ◌∷◌, ◌++◌, map, take, drop, length, get_or, Option, Some, None, if◌then◌else◌, ⊤, option_to_list, unwrap_or, codes}
use Rattle.std.specs.Char.{is_ascii_digit}
use Rattle.std.specs.List.{find, filter_map, flat_map, list_all, list_any}
use Rattle.std.specs.Option.{option_map, is_some}
use Rattle.std.specs.Str.{bytes_eq}
use Rattle.kp_kore.specs.Attributes.{has_mark}
use Rattle.kp_kore.specs.Parts.{variable_names}
use Rattle.kp_kore.specs.Signature.{KoreSignature}
use Rattle.kp_kore.specs.Syntax.{Text, Statement, KoreSentence, import_sentence, sort_sentence, symbol_sentence, alias_sentence, axiom_sentence, claim_sentence, KoreModule}
use Rattle.kp_text.specs.Spelling.{IsFaultOf}
use Rattle.kp_kore.specs.Rules.{constrained_term, under_binders}
use Rattle.kp_kore.specs.ClaimModules.{CanBeRule}
use Rattle.kp_signature.specs.Names.{first_place}
use Rattle.kp_signature.specs.Places.{earlier, the_top}
use Rattle.kp_signature.specs.Verify.{VerifyFault, first_fault}
use Rattle.kp_compile.specs.Spelled.{first_foreign}
use Rattle.kp_layers.specs.Layers.{DependsOn}
use Rattle.kp_claims.specs.Claims.{counted, ClaimSides, is_one_path, label_of}
use Rattle.kp_claims.specs.Faults.{Fault, one_path, other_shape, unverified, foreign_symbol, other_side, fresh_name, no_rule, unknown_label, circle, label_fault, bare_claim, label_at, labels_of, Tells}
use Rattle.kp_claims.specs.Files.{IsFileText, SpellsFile}
use Rattle.kp_claims.specs.declared.fault.ClaimError.{ClaimError}
use Rattle.kp_claims.specs.declared.fault.ClaimError.TheVariants as error
use Rattle.kp_claim_sentences.specs.Claims.{dependencies_of, clear_sides}

-- ---- the first fault of a claim, but for its use as a rule

-- C1, then C2
abbrev pub shape_fault : Statement → Option Fault
shape_fault s =
    if is_one_path s.pattern then Some one_path
    else if is_some (clear_sides s) then None
    else Some other_shape

-- each side is one term and predicates, the right one maybe under \exists
abbrev pub has_terms : ClaimSides → Bool
has_terms c = is_some (constrained_term c.left) && is_some (constrained_term (under_binders c.right))

-- C9: the first verify fault of \implies{S}(left, right), then its first foreign symbol, then a side of another form
abbrev pub meaning_fault : KoreSignature → ClaimSides → Option Fault
meaning_fault g c =
    earlier (option_map unverified (first_fault g the_top (bare_claim c)))
    (earlier (option_map foreign_symbol (first_foreign g (bare_claim c)))
    (if has_terms c then None else Some other_side))

-- Fresh and one or more digits
abbrev pub is_fresh_text : Text → Bool
is_fresh_text x = bytes_eq (take 5 x) (codes "Fresh") && nat_lt 5 (length x) && list_all is_ascii_digit (drop 5 x)

-- C3 of the first such name, free or bound, at any place
abbrev pub name_fault : ClaimSides → Option Fault
name_fault c = option_map fresh_name (find is_fresh_text (variable_names (bare_claim c)))

abbrev pub sides_fault : KoreSignature → Option ClaimSides → Option Fault
sides_fault g None = None
sides_fault g (Some c) = earlier (meaning_fault g c) (name_fault c)

-- C1, C2, C6, C7, C9, C3
abbrev pub early_fault : KoreSignature → List Text → Statement → Option Fault
early_fault g before s = earlier (shape_fault s) (earlier (label_fault before (label_of s.attributes)) (sides_fault g (clear_sides s)))

-- ---- what the whole file says of a claim

-- the labels that a sentence depends on
abbrev pub dependencies_at : KoreSentence → List Text
dependencies_at (claim_sentence s) = unwrap_or (dependencies_of s.attributes) []
dependencies_at (import_sentence n as_) = []
dependencies_at (sort_sentence d) = []
dependencies_at (symbol_sentence d) = []
dependencies_at (alias_sentence d) = []
dependencies_at (axiom_sentence s) = []

-- the labels of all claims of the file, and those that some claim of it depends on, be it faulty or not
pub record FileLabels : Type 0 where
  pub labels : List Text
  pub used : List Text

abbrev pub file_labels : List KoreSentence → FileLabels
file_labels ss = record { labels = labels_of ss; used = flat_map dependencies_at ss }

-- the claim is its own circularity, or some claim depends on its label
abbrev pub is_used : FileLabels → Statement → Bool
is_used file s = has_mark (codes "circularity") s.attributes || list_any (λ l. list_any (bytes_eq l) file.used) (option_to_list (label_of s.attributes))

abbrev pub CanBeUsed : KoreSignature → Option ClaimSides → Type 0
CanBeUsed g None = ⊤
CanBeUsed g (Some c) = CanBeRule g (record { sort = c.sort; claim = record { left = c.left; right = c.right } })

-- C8
abbrev pub IsRuleFault : KoreSignature → FileLabels → Statement → Fault → Type 0
IsRuleFault g file s f = (is_used file s ≡ true) × ¬ CanBeUsed g (clear_sides s) × (f ≡ no_rule)

abbrev pub IsUsable : KoreSignature → FileLabels → Statement → Type 0
IsUsable g file s = is_used file s ≡ true → CanBeUsed g (clear_sides s)

-- C4 of the first such label
abbrev pub unknown_fault : FileLabels → Statement → Option Fault
unknown_fault file s = option_map unknown_label (find (λ l. not (list_any (bytes_eq l) file.labels)) (unwrap_or (dependencies_of s.attributes) []))

-- ---- the first fault of a file

-- the first fault of a claim of the file, after claims with these labels
abbrev pub IsFaultOfClaim : KoreSignature → FileLabels → List Text → Statement → Fault → Type 0
IsFaultOfClaim g file before s f =
    (early_fault g before s ≡ Some f)
    ⊎ ((early_fault g before s ≡ None) × IsRuleFault g file s f)
    ⊎ ((early_fault g before s ≡ None) × IsUsable g file s × (unknown_fault file s ≡ Some f))

abbrev pub IsFaultlessClaim : KoreSignature → FileLabels → List Text → Statement → Type 0
IsFaultlessClaim g file before s = (early_fault g before s ≡ None) × IsUsable g file s × (unknown_fault file s ≡ None)

-- the same of a sentence; what isn't a claim has no place in the file
abbrev pub IsFaultAt : KoreSignature → FileLabels → List Text → KoreSentence → Fault → Type 0
IsFaultAt g file before (claim_sentence s) f = IsFaultOfClaim g file before s f
IsFaultAt g file before (import_sentence n as_) f = f ≡ other_shape
IsFaultAt g file before (sort_sentence d) f = f ≡ other_shape
IsFaultAt g file before (symbol_sentence d) f = f ≡ other_shape
IsFaultAt g file before (alias_sentence d) f = f ≡ other_shape
IsFaultAt g file before (axiom_sentence s) f = f ≡ other_shape

abbrev pub IsFaultless : KoreSignature → FileLabels → List Text → KoreSentence → Type 0
IsFaultless g file before (claim_sentence s) = IsFaultlessClaim g file before s
IsFaultless g file before (import_sentence n as_) = ⊥
IsFaultless g file before (sort_sentence d) = ⊥
IsFaultless g file before (symbol_sentence d) = ⊥
IsFaultless g file before (alias_sentence d) = ⊥
IsFaultless g file before (axiom_sentence s) = ⊥

-- none of the sentences has a fault, each after the labels before it
abbrev pub AreFaultless : KoreSignature → FileLabels → List Text → List KoreSentence → Type 0
AreFaultless g file before [] = ⊤
AreFaultless g file before (s ∷ ss) = IsFaultless g file before s × AreFaultless g file (before ++ label_at s) ss

-- the fault of the first of the sentences that has one
pub record IsFirstFault (g : KoreSignature) (ss : List KoreSentence) (f : Fault) : Type 0 where
  pub before : List KoreSentence
  pub at : KoreSentence
  pub behind : List KoreSentence
  pub are : ss ≡ before ++ at ∷ behind
  pub faultless : AreFaultless g (file_labels ss) [] before
  pub fault : IsFaultAt g (file_labels ss) (labels_of before) at f

-- for each claim the places, from 0, of those that it depends on
abbrev pub needs_of : List KoreSentence → List (List ℕ)
needs_of ss = map (λ s. filter_map (λ l. first_place l (labels_of ss)) (dependencies_at s)) ss

-- no sentence has a fault, and no claim depends on itself, at once or over others
pub record IsFaultlessFile (g : KoreSignature) (ss : List KoreSentence) : Type 0 where
  pub faultless : AreFaultless g (file_labels ss) [] ss
  pub apart : (i : ℕ) → ¬ DependsOn (needs_of ss) i i

-- C5 of a claim that depends on itself, at once or over others, where no sentence has another fault
pub record IsCircle (g : KoreSignature) (ss : List KoreSentence) (f : Fault) : Type 0 where
  pub faultless : AreFaultless g (file_labels ss) [] ss
  pub place : ℕ
  pub on_itself : DependsOn (needs_of ss) place place
  pub told : f ≡ circle (get_or (labels_of ss) place [])

-- the fault of the file's sentences
abbrev pub IsFaultOfFile : KoreSignature → List KoreSentence → Fault → Type 0
IsFaultOfFile g ss f = IsFirstFault g ss f ⊎ IsCircle g ss f

-- want of memory says nothing; a text fault is that of the bytes, any other that of the sentences that they spell
abbrev pub IsErrorOf : KoreSignature → List ℕ → ClaimError → Type 0
IsErrorOf g bytes error.Memory = ⊤
IsErrorOf g bytes (error.Text f) = IsFaultOf IsFileText bytes f
IsErrorOf g bytes (error.Fault e) = (ms : List KoreModule) × SpellsFile bytes ms × Tells e (IsFaultOfFile g (counted ms))
