-- What is bound from the start, by a definition and its main module.
-- Source: the K Haskell backend's JSON-RPC documentation (the modules of a definition and its main module).
use Rattle.std.specs.Prelude.{◌≡◌, List, map, Some}
use Rattle.std.specs.Option.{is_some}
use Rattle.kp_kore.specs.Syntax.{Text, KoreModule, KoreDefinition}
use Rattle.kp_kore.specs.Theory.{NumberedAxiom, modules_reached, rewrite_axioms}
use Rattle.kp_book.specs.Books.{Opening, rules_in}
use Rattle.kp_imports.specs.Faults.{signature_reached}
use Rattle.kp_modules.specs.Keeping.{KeepsReached}
use Rattle.kp_modules.specs.Made.{IsSetOf}
use Rattle.kp_modules.specs.Tables.{rule_set_of, main_of, does_reach}
use Rattle.kp_modules.specs.declared.table.ModuleTable.{ModuleTable}

-- each module with the rewrite axioms of all that it reaches, in order
abbrev pub bound_in : KoreDefinition → List KoreModule → List (Text × List NumberedAxiom)
bound_in d = map (λ m. (m.name, rewrite_axioms (modules_reached d m.name)))

abbrev pub opening_of : KoreDefinition → Text → Opening
opening_of d main = record { signature = signature_reached d main; main = main; modules = bound_in d (modules_reached d main) }

-- the table has the opening's main module, with the rule set of its axioms, and reaches the opening's modules, which it
-- keeps as those that main reaches in a definition
pub record IsTableOf (o : Opening) (t : ModuleTable) : Type 0 where
  pub main : main_of t ≡ o.main
  pub axioms : List NumberedAxiom
  pub bound : rules_in o.modules o.main ≡ Some axioms
  pub rules : IsSetOf o.signature axioms (rule_set_of t)
  pub reaches : (n : Text) → does_reach t n ≡ is_some (rules_in o.modules n)
  pub definition : KoreDefinition
  pub modules : o.modules ≡ bound_in definition (modules_reached definition o.main)
  pub keeps : KeepsReached definition o.main t
