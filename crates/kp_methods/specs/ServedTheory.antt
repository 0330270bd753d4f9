-- What is served: what a definition means for its main module, and the modules that a request may name.
-- Source: K's modules and their imports (the theory of a main module); the K Haskell backend's JSON-RPC documentation
-- (the module of a request).
use Rattle.std.specs.Prelude.{◌≡◌, ◌≢◌, List, Option, Some, None}
use Rattle.kp_kore.specs.Syntax.{Text, KoreDefinition}
use Rattle.kp_kore.specs.Theory.{Theory, IsTheoryOf, modules_reached}
use Rattle.kp_imports.specs.Names.{names_of}
use Rattle.kp_imports.specs.Reaching.{has}
use Rattle.kp_modules.specs.Tables.{RunsTable, does_reach, main_of}
use Rattle.kp_modules.specs.declared.table.ModuleTable.{ModuleTable}

-- the theory of the main module, its name, and the names of the modules that it reaches
pub record ServedTheory : Type 0 where
  pub theory : Theory
  pub main : Text
  pub names : List Text

-- the definition is served for the main module as this
pub record IsServedTheory (d : KoreDefinition) (main : Text) (s : ServedTheory) : Type 0 where
  pub means : IsTheoryOf d main s.theory
  pub main_is : s.main ≡ main
  pub names_are : s.names ≡ names_of (modules_reached d main)

-- ---- modules that a request names

-- it names another module than main
abbrev pub IsElsewhere : Text → Option Text → Type 0
IsElsewhere main None = ⊥
IsElsewhere main (Some n) = n ≢ main

-- ---- the code's table

-- the table is that of the setting
pub record IsServedTheoryOf (s : ServedTheory) (table : ModuleTable) : Type 0 where
  pub runs : RunsTable s.theory table
  pub main_is : main_of table ≡ s.main
  pub reaches : (n : Text) → does_reach table n ≡ has n s.names
