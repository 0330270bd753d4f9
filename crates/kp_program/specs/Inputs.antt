-- What is told of the definition's table; for private clauses.
use Rattle.std.specs.Prelude.{ℕ, List}
use Rattle.kp_kore.specs.Syntax.{KoreDefinition}
use Rattle.kp_text.specs.Spelling.{SpellsDefinition}
use Rattle.kp_modules.specs.Openings as openings
use Rattle.kp_modules.specs.declared.table.ModuleTable.{ModuleTable}
use Rattle.kp_methods.specs.ServedTheory.{IsServedTheory, ServedTheory, IsServedTheoryOf}
use Rattle.kp_program.specs.Faults.{IsFaultless}

-- the file has no fault, and its bytes spell a definition; the table is that of what its main module opens, and of its
-- setting
pub record IsTableOf (file main : List ℕ) (table : ModuleTable) : Type 0 where
  pub faultless : IsFaultless file main
  pub definition : KoreDefinition
  pub spells : SpellsDefinition file definition
  pub setting : ServedTheory
  pub is_setting : IsServedTheory definition main setting
  pub is_table : IsServedTheoryOf setting table
  pub opens : openings.IsTableOf (openings.opening_of definition main) table
