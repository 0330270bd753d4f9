-- What an added module makes of the rule sets that it imports, and its faults.
-- Source: the K Haskell backend's JSON-RPC documentation (add-module); the K framework's Kore language (sentences).
use Rattle.std.specs.Prelude.{◌≡◌, ℕ, suc, ◌^◌, ◌<◌, ◌++◌, Bool, true, false, min, unwrap_or, List, [], ◌∷◌, length, map, Option, Some, None, codes, ◌⊎◌, String}
use Rattle.std.specs.Borrow.{Bor}
use Rattle.std.specs.Fmt.{decimal}
use Rattle.std.specs.List.{AllByRecursion, AllZip, flat_map}
use Rattle.std.specs.declared.alloc.Global.{Global}
use Rattle.std.specs.declared.sync.Arc.{Arc}
use Rattle.indexmap.specs.IndexMap.{IndexMap}
use Rattle.kp_kore.specs.Syntax.{Text, Statement, KoreSentence, import_sentence, sort_sentence, symbol_sentence, alias_sentence, axiom_sentence, claim_sentence, KoreModule}
use Rattle.kp_kore.specs.Signature.{KoreSignature}
use Rattle.kp_signature.specs.Verify.{VerifyFault, FailsWith}
use Rattle.kp_kore.specs.Foreign.{Reads}
use Rattle.kp_kore.specs.Rules as model
use Rattle.kp_kore.specs.Theory.{NumberedAxiom, rewrite_axioms_from}
use Rattle.kp_rules.specs.Bodies.{IsBodyOf, IsFaulty}
use Rattle.kp_rules.specs.declared.rule.Rule.{Rule}
use Rattle.kp_rules.specs.declared.rule.RuleBody.TheVariants.{Rewrite, Foreign}
use Rattle.kp_rule_sets.specs.declared.rule_set.RuleSet.{RuleSet}
use Rattle.kp_rules.specs.declared.rule.Rewrite as code
use Rattle.kp_rules.specs.declared.skeleton.Skeleton.{Skeleton}
use Rattle.kp_book.specs.Books.{each_axiom_once}
use Rattle.kp_modules.specs.Made.{IsSetOf}
use Rattle.kp_imports.specs.Names.{Lists}
use Rattle.kp_modules.specs.Sources.{IsSourceOf}
use Rattle.kp_modules.specs.declared.extend_error.ExtendError.{ExtendError}
use Rattle.kp_modules.specs.declared.extend_error.ExtendError.TheVariants as error

-- ---- rules whatever they are called

-- the code's rule says what the axiom says, whatever its id is
pub record IsTakenFrom (g : KoreSignature) (a : NumberedAxiom) (r : Rule) : Type 0 where
  pub meant : model.RuleBody
  pub reads : Reads g a.axiom_of.parameters a.axiom_of.attributes a.axiom_of.pattern meant
  pub is_body : IsBodyOf g meant r.body.value
  pub is_priority : (w : code.Rewrite) → r.body.value ≡ Rewrite w → unwrap_or (model.priority_of a.axiom_of.attributes) model.usual_priority ≡ r.priority
  pub is_foreign_priority : (k : Skeleton) → r.body.value ≡ Foreign k → min (unwrap_or (model.priority_of a.axiom_of.attributes) model.usual_priority) model.most_priority ≡ r.priority
  pub is_source : IsSourceOf a r.source.value

abbrev pub AreTakenFrom : KoreSignature → List NumberedAxiom → List (Bor Rule) → Type 0
AreTakenFrom g = AllZip (λ a r. IsTakenFrom g a r.now)

-- the rule sets are made of these lists of axioms, one of each
abbrev pub AreSetsOf : KoreSignature → List (List NumberedAxiom) → List (Arc RuleSet Global) → Type 0
AreSetsOf g = AllZip (λ axioms rules. IsSetOf g axioms rules.value)

-- the axioms of these lists, in order and each once
abbrev pub all_axioms_once : List (List NumberedAxiom) → List NumberedAxiom
all_axioms_once lists = each_axiom_once [] (flat_map (λ l. l) lists)

-- `KEY#NUMBER`
abbrev pub name_by_number : NumberedAxiom → Text
name_by_number a = a.key ++ codes "#" ++ decimal a.number

-- the rules are those of the axioms gone through, each once, and the map has these axioms' names by number
pub record AreGathered {V S : Type 0} (g : KoreSignature) (passed : List NumberedAxiom) (met : IndexMap (String Global) V S) (found : List (Bor Rule)) : Type 0 where
  pub rules : AreTakenFrom g (each_axiom_once [] passed) found
  pub names : Lists (map name_by_number passed) met
  pub numbers : AllByRecursion (λ a. a.number < 2 ^ 64) passed

-- ---- faults

-- M6: a rewrite axiom of an added module has a verify fault, foreign or not, or is faulty as one of the definition is
abbrev pub IsUnsound : KoreSignature → Statement → Type 0
IsUnsound g a = ((f : VerifyFault) × FailsWith g a.pattern f) ⊎ IsFaulty g a

-- M7: a sort, a symbol, an alias or a claim
abbrev pub is_declaration : KoreSentence → Bool
is_declaration (import_sentence name attributes) = false
is_declaration (sort_sentence d) = true
is_declaration (symbol_sentence d) = true
is_declaration (alias_sentence d) = true
is_declaration (axiom_sentence a) = false
is_declaration (claim_sentence a) = true

abbrev pub AreAllSound : KoreSignature → List NumberedAxiom → Type 0
AreAllSound g = AllByRecursion (λ a. ¬ IsUnsound g a.axiom_of)

-- the first unsound one of these rewrite axioms has this number
pub record IsFirstUnsound (g : KoreSignature) (axioms : List NumberedAxiom) (i : ℕ) : Type 0 where
  pub before : List NumberedAxiom
  pub rewriting : NumberedAxiom
  pub after : List NumberedAxiom
  pub are : axioms ≡ before ++ rewriting ∷ after
  pub sound : AreAllSound g before
  pub number : rewriting.number ≡ i
  pub unsound : IsUnsound g rewriting.axiom_of

-- the first declaration among these sentences is of this number, from 1
pub record IsFirstDeclaration (sentences : List KoreSentence) (i : ℕ) : Type 0 where
  pub before : List KoreSentence
  pub declaration : KoreSentence
  pub after : List KoreSentence
  pub are : sentences ≡ before ++ declaration ∷ after
  pub passed : AllByRecursion (λ s. is_declaration s ≡ false) before
  pub declares : is_declaration declaration ≡ true
  pub number : i ≡ suc (length before)

pub data ExtendFault : Type 0 where
  -- M6, with the axiom's number among the module's axioms
  rule_fault : ℕ → ExtendFault
  -- M7, with the sentence's number among the module's sentences
  declaration : ℕ → ExtendFault

-- want of memory tells none
abbrev pub extend_fault : ExtendError → Option ExtendFault
extend_fault error.Memory = None
extend_fault (error.RuleFault i) = Some (rule_fault i)
extend_fault (error.Declaration i) = Some (declaration i)

-- this is the fault of a module with these sentences: the first of M6, else the first of M7
abbrev pub IsExtendFault : KoreSignature → Text → KoreModule → ExtendFault → Type 0
IsExtendFault g id m (rule_fault i) = IsFirstUnsound g (rewrite_axioms_from id 1 m.sentences) i
IsExtendFault g id m (declaration i) = AreAllSound g (rewrite_axioms_from id 1 m.sentences) × IsFirstDeclaration m.sentences i

-- the error is want of memory, or tells the module's fault
abbrev pub TellsExtendFault : KoreSignature → Text → KoreModule → ExtendError → Type 0
TellsExtendFault g id m e = (f : ExtendFault) → extend_fault e ≡ Some f → IsExtendFault g id m f

-- the error tells this rewrite axiom's number, and the axiom is unsound
abbrev pub TellsUnsoundAxiom : KoreSignature → NumberedAxiom → ExtendError → Type 0
TellsUnsoundAxiom g a e = (f : ExtendFault) → extend_fault e ≡ Some f → (f ≡ rule_fault a.number) × IsUnsound g a.axiom_of

-- no rewrite axiom is unsound, and no sentence is a declaration
pub record IsAddable (g : KoreSignature) (id : Text) (m : KoreModule) : Type 0 where
  pub sound : AreAllSound g (rewrite_axioms_from id 1 m.sentences)
  pub plain : AllByRecursion (λ s. is_declaration s ≡ false) m.sentences
