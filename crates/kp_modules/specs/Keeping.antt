-- What a table keeps of the modules that main reaches.
-- Source: the K framework's Kore language (modules and imports).
use Rattle.std.specs.Prelude.{◌≡◌, ℕ, ◌+◌, Bool, List, [], ◌∷◌, length, map, take, drop, Some, slice_get}
use Rattle.kp_kore.specs.Syntax.{Text, KoreModule, KoreDefinition}
use Rattle.kp_kore.specs.View.{module_view}
use Rattle.kp_kore.specs.Theory.{NumberedAxiom, imports_in, modules_reached, names_reached, rewrite_axioms, rewrite_axioms_from}
use Rattle.kp_rules.specs.declared.rule.Rule.{Rule}
use Rattle.kp_imports.specs.Faults.{Fault, IsImportFault}
use Rattle.kp_imports.specs.Names.{names_of}
use Rattle.kp_imports.specs.Reaching.{has}
use Rattle.kp_imports.specs.Walks.{IsLaidOut}
use Rattle.kp_modules.specs.declared.outlines.RuleSpan.{RuleSpan}
use Rattle.kp_modules.specs.declared.table.ModuleTable.{ModuleTable}

-- a module's name with the names that it imports
abbrev pub outline : KoreModule → Text × List Text
outline m = (m.name, imports_in m.sentences)

-- a module's own rewrite axioms
abbrev pub own_axioms : KoreModule → List NumberedAxiom
own_axioms m = rewrite_axioms_from m.name 1 m.sentences

-- where the rewrite axioms of each module stand among those of all of them, counted from n
abbrev pub spans_from : ℕ → List KoreModule → List (ℕ × ℕ)
spans_from n [] = []
spans_from n (m ∷ ms) = (n, n + length (own_axioms m)) ∷ spans_from (n + length (own_axioms m)) ms

abbrev pub span_view : RuleSpan → ℕ × ℕ
span_view s = (s.from, s.to)

-- the table has the outlines of the modules that main reaches, in order, and where their rules stand among main's
pub record KeepsReached (d : KoreDefinition) (main : Text) (t : ModuleTable) : Type 0 where
  pub laid_out : IsLaidOut d.modules (names_reached (length d.modules) d.modules main)
  pub outlines : map outline (map module_view t.modules.items) ≡ map outline (modules_reached d main)
  pub spans : map span_view t.spans.items ≡ spans_from 0 (modules_reached d main)

-- at these places of the modules that main reaches stand those that another one reaches, in the order of its own walk
abbrev pub StandsAt : KoreDefinition → Text → Text → List ℕ → Type 0
StandsAt d main name places = map (slice_get (modules_reached d main)) places ≡ map Some (modules_reached d name)

-- this holds of the module at this place of those that main reaches, in each definition of which the table keeps them
abbrev pub AtModuleKept : ModuleTable → ℕ → (KoreDefinition → Text → KoreModule → Type 0) → Type 0
AtModuleKept t place Holds = (d : KoreDefinition) (main : Text) (m : KoreModule) → KeepsReached d main t → slice_get (modules_reached d main) place ≡ Some m → Holds d main m

-- main reaches a module of this name
abbrev pub is_reached : KoreDefinition → Text → Text → Bool
is_reached d main name = has name (names_of (modules_reached d main))

-- no import that this module reaches is unknown, and none leads back
abbrev pub HasNoImportFault : List KoreModule → Text → Type 0
HasNoImportFault ms name = (f : Fault) → IsImportFault ms name f → ⊥

-- those of the rules of all these modules that are the module's at this place
abbrev pub own_rules : List KoreModule → ℕ → KoreModule → List Rule → List Rule
own_rules ms place m rules = take (length (own_axioms m)) (drop (length (rewrite_axioms (take place ms))) rules)
