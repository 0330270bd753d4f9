-- The fault that an error tells, and when there is one.
use Rattle.std.specs.Prelude.{◌≡◌, ℕ, ◌<◌, true, List, ◌∷◌, ◌++◌, Option, Some, None, string_bytes, codes, String}
use Rattle.std.specs.List.{AllByRecursion, Contains, flat_map}
use Rattle.std.specs.declared.alloc.Global.{Global}
use Rattle.indexmap.specs.IndexMap.{IndexMap, get_by_text}
use Rattle.kp_kore.specs.Syntax.{Text, KoreModule, KoreDefinition}
use Rattle.kp_kore.specs.Signature.{KoreSignature, signature_of, sorts_in, symbols_in}
use Rattle.kp_signature.specs.Table.{sort_names, symbol_names}
use Rattle.kp_kore.specs.Theory.{NumberedAxiom, module_named, modules_reached, rewrite_axioms}
use Rattle.kp_rules.specs.Bodies.{IsFaulty}
use Rattle.kp_imports.specs.Names.{names_of, IsFirstRepeated}
use Rattle.kp_imports.specs.Reaching.{has, imports_of}
use Rattle.kp_imports.specs.declared.fault.LoadError.{LoadError}
use Rattle.kp_imports.specs.declared.fault.LoadError.TheVariants as error
use Rattle.kp_imports.specs.declared.fault.ModuleFault.{ModuleFault}
use Rattle.kp_imports.specs.declared.fault.ModuleFault.TheVariants as told

pub data Fault : Type 0 where
  -- M1: an import in a reached module names no module
  unknown_import : Text → Fault
  -- M2: a chain of imports leads from a reached module back to it
  import_cycle : Fault
  -- M3, M4, M5: a sort or a symbol of the reached modules, or a module of the file, has its name twice; the first
  -- that stands a second time is told
  duplicate_sort : Text → Fault
  duplicate_symbol : Text → Fault
  duplicate_module : Text → Fault
  -- M6: a rewrite axiom that is read has a verify fault
  rule_fault : ℕ → Fault
  -- M8
  no_main_module : Fault

abbrev pub told_fault : ModuleFault → Fault
told_fault (told.UnknownImport n) = unknown_import (string_bytes n)
told_fault told.ImportCycle = import_cycle
told_fault (told.DuplicateSort n) = duplicate_sort (string_bytes n)
told_fault (told.DuplicateSymbol n) = duplicate_symbol (string_bytes n)
told_fault (told.DuplicateModule n) = duplicate_module (string_bytes n)
told_fault (told.RuleFault i) = rule_fault i
told_fault told.NoMainModule = no_main_module

-- the code that is shown of a fault
abbrev pub fault_code : Fault → Text
fault_code (unknown_import n) = codes "M1"
fault_code import_cycle = codes "M2"
fault_code (duplicate_sort n) = codes "M3"
fault_code (duplicate_symbol n) = codes "M4"
fault_code (duplicate_module n) = codes "M5"
fault_code (rule_fault i) = codes "M6"
fault_code no_main_module = codes "M8"

-- want of memory tells none
abbrev pub fault_view : LoadError → Option Fault
fault_view error.Memory = None
fault_view (error.Fault f) = Some (told_fault f)

-- ---- when there is one

-- a chain of imports leads from the one to the other
pub data Leads (ms : List KoreModule) : Text → Text → Type 0 where
  stays : (a : Text) → Leads ms a a
  goes : (a b c : Text) → Leads ms a b → has c (imports_of ms b) ≡ true → Leads ms a c

-- a module that main reaches imports the name, and no module has it
pub record IsUnknown (ms : List KoreModule) (main n : Text) : Type 0 where
  pub importer : Text
  pub reached : Leads ms main importer
  pub imports : has n (imports_of ms importer) ≡ true
  pub unknown : module_named ms n ≡ None

-- a chain of imports leads from a module that main reaches back to it
pub record IsCyclic (ms : List KoreModule) (main : Text) : Type 0 where
  pub name : Text
  pub next : Text
  pub reached : Leads ms main name
  pub imports : has next (imports_of ms name) ≡ true
  pub back : Leads ms next name

-- a rewrite axiom of this number among its module's axioms is faulty
pub record IsFaultyAmong (g : KoreSignature) (axioms : List NumberedAxiom) (i : ℕ) : Type 0 where
  pub rewriting : NumberedAxiom
  pub among : Contains axioms rewriting
  pub number : rewriting.number ≡ i
  pub faulty : IsFaulty g rewriting.axiom_of

abbrev pub AreSound : KoreSignature → List NumberedAxiom → Type 0
AreSound g = AllByRecursion (λ a. ¬ IsFaulty g a.axiom_of)

-- the first faulty one of these rewrite axioms has this number
pub record IsFirstFaulty (g : KoreSignature) (axioms : List NumberedAxiom) (i : ℕ) : Type 0 where
  pub before : List NumberedAxiom
  pub rewriting : NumberedAxiom
  pub after : List NumberedAxiom
  pub are : axioms ≡ before ++ rewriting ∷ after
  pub sound : AreSound g before
  pub number : rewriting.number ≡ i
  pub faulty : IsFaulty g rewriting.axiom_of

-- the signature of the modules that main reaches
abbrev pub signature_reached : KoreDefinition → Text → KoreSignature
signature_reached d main = signature_of (flat_map (λ m. m.sentences) (modules_reached d main))

-- their rewrite axioms, in order
abbrev pub axioms_reached : KoreDefinition → Text → List NumberedAxiom
axioms_reached d main = rewrite_axioms (modules_reached d main)

-- there is such a fault
abbrev pub IsFaultOf : KoreDefinition → Text → Fault → Type 0
IsFaultOf d main (unknown_import n) = IsUnknown d.modules main n
IsFaultOf d main import_cycle = IsCyclic d.modules main
IsFaultOf d main (duplicate_sort n) = IsFirstRepeated n (sort_names (sorts_in (flat_map (λ m. m.sentences) (modules_reached d main))))
IsFaultOf d main (duplicate_symbol n) = IsFirstRepeated n (symbol_names (symbols_in (flat_map (λ m. m.sentences) (modules_reached d main))))
IsFaultOf d main (duplicate_module n) = IsFirstRepeated n (names_of d.modules)
IsFaultOf d main (rule_fault i) = IsFaultyAmong (signature_reached d main) (axioms_reached d main) i
IsFaultOf d main no_main_module = module_named d.modules main ≡ None

-- there is no fault
abbrev pub HasNoFault : KoreDefinition → Text → Type 0
HasNoFault d main = (f : Fault) → ¬ IsFaultOf d main f

-- ---- which comes first

-- a kind of less rank comes before: M5, M8, and then the others by number
abbrev pub rank : Fault → ℕ
rank (duplicate_module n) = 0
rank no_main_module = 1
rank (unknown_import n) = 2
rank import_cycle = 3
rank (duplicate_sort n) = 4
rank (duplicate_symbol n) = 5
rank (rule_fault i) = 6

-- the fault is there, and none of a kind that comes before; of faulty rewrite axioms it is the first one's
pub record IsFirstFault (d : KoreDefinition) (main : Text) (f : Fault) : Type 0 where
  pub is_fault : IsFaultOf d main f
  pub first : (other : Fault) → rank other < rank f → ¬ IsFaultOf d main other
  pub first_axiom : (i : ℕ) → f ≡ rule_fault i → IsFirstFaulty (signature_reached d main) (axioms_reached d main) i

-- the error is want of memory, or tells the first fault
abbrev pub TellsFirst : KoreDefinition → Text → LoadError → Type 0
TellsFirst d main e = (f : Fault) → fault_view e ≡ Some f → IsFirstFault d main f

-- ---- what is told of parts

-- the two faults of imports
abbrev pub IsImportFault : List KoreModule → Text → Fault → Type 0
IsImportFault ms main (unknown_import n) = IsUnknown ms main n
IsImportFault ms main import_cycle = IsCyclic ms main
IsImportFault ms main _ = ⊥

abbrev pub TellsImport : List KoreModule → Text → LoadError → Type 0
TellsImport ms main e = (f : Fault) → fault_view e ≡ Some f → IsImportFault ms main f

abbrev pub TellsUnknown : List KoreModule → Text → LoadError → Type 0
TellsUnknown ms main e = (f : Fault) → fault_view e ≡ Some f → (n : Text) × (f ≡ unknown_import n) × IsUnknown ms main n

-- the error tells the number of the first faulty one of these rewrite axioms
abbrev pub TellsFaulty : KoreSignature → List NumberedAxiom → LoadError → Type 0
TellsFaulty g axioms e = (f : Fault) → fault_view e ≡ Some f → (i : ℕ) × (f ≡ rule_fault i) × IsFirstFaulty g axioms i

-- the error tells this rewrite axiom's number, and the axiom is faulty
abbrev pub TellsAxiom : KoreSignature → NumberedAxiom → LoadError → Type 0
TellsAxiom g a e = (f : Fault) → fault_view e ≡ Some f → (f ≡ rule_fault a.number) × IsFaulty g a.axiom_of

-- the error tells one of these names, which has no place
pub record IsUnplaced {S : Type 0} (places : IndexMap (String Global) ℕ S) (names : List Text) (f : Fault) : Type 0 where
  pub name : Text
  pub told : f ≡ unknown_import name
  pub among : has name names ≡ true
  pub unknown : get_by_text places name ≡ None

abbrev pub TellsUnplaced : {S : Type 0} → IndexMap (String Global) ℕ S → List Text → LoadError → Type 0
TellsUnplaced places names e = (f : Fault) → fault_view e ≡ Some f → IsUnplaced places names f
