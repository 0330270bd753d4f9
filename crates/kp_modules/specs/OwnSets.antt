-- What a rule set is to a name that is bound from the start.
-- Source: the K Haskell backend's JSON-RPC documentation (the modules of a definition).
use Rattle.std.specs.Prelude.{◌≡◌, ℕ, List, map, slice_get, Option, Some, None}
use Rattle.std.specs.declared.alloc.Global.{Global}
use Rattle.std.specs.declared.sync.Arc.{Arc}
use Rattle.kp_kore.specs.Syntax.{Text, KoreModule, KoreDefinition}
use Rattle.kp_kore.specs.Signature.{KoreSignature}
use Rattle.kp_kore.specs.Theory.{NumberedAxiom, modules_reached}
use Rattle.kp_rule_sets.specs.declared.rule_set.RuleSet.{RuleSet}
use Rattle.kp_book.specs.Books.{Opening, rules_in}
use Rattle.kp_imports.specs.Faults.{axioms_reached}
use Rattle.kp_modules.specs.Keeping.{KeepsReached}
use Rattle.kp_modules.specs.Made.{IsSetOf}
use Rattle.kp_modules.specs.Tables.{rule_set_of}
use Rattle.kp_modules.specs.declared.table.ModuleTable.{ModuleTable}

-- the rule set is made of the axioms that the opening has under the name; there is none where it has none
abbrev pub MeansRules : Opening → Text → Option (Arc RuleSet Global) → Type 0
MeansRules o name (Some rules) = (axioms : List NumberedAxiom) × (rules_in o.modules name ≡ Some axioms) × IsSetOf o.signature axioms rules.value
MeansRules o name None = rules_in o.modules name ≡ None

-- this holds of the modules at these places of those that main reaches, over each signature over which the table's rule
-- set is made of the rewrite axioms of the modules that it keeps
abbrev pub AtModulesKept : ModuleTable → List ℕ → (KoreSignature → List KoreModule → Type 0) → Type 0
AtModulesKept t places Holds =
    (g : KoreSignature) (d : KoreDefinition) (main : Text) (ms : List KoreModule) → KeepsReached d main t → IsSetOf g (axioms_reached d main) (rule_set_of t) →
    map (slice_get (modules_reached d main)) places ≡ map Some ms → Holds g ms

-- the same of the module at one place, and of any axioms before its own
abbrev pub AtModuleBehind : ModuleTable → ℕ → (KoreSignature → KoreModule → List NumberedAxiom → Type 0) → Type 0
AtModuleBehind t place Holds =
    (g : KoreSignature) (d : KoreDefinition) (main : Text) (m : KoreModule) (before : List NumberedAxiom) → KeepsReached d main t → IsSetOf g (axioms_reached d main) (rule_set_of t) →
    slice_get (modules_reached d main) place ≡ Some m → Holds g m before
