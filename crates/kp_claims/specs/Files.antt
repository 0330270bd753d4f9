-- The texts of claims files: those of definitions, and those of modules alone.
use Rattle.std.specs.Prelude.{◌≡◌, ◌⊎◌, ℕ, List, nat_lt, if◌then◌else◌}
use Rattle.kp_kore.specs.Syntax.{KoreModule, KoreDefinition}
use Rattle.kp_text.specs.Grammar.{Leveled}
use Rattle.kp_text.specs.Spelling.{SpellsModules, SpellsDefinition, IsModulesText, IsDefinitionText}
use Rattle.kp_text.specs.declared.fault.TextFault.{TextFault}

abbrev pub IsFileText : List Leveled → Type 0
IsFileText ls = IsModulesText ls ⊎ IsDefinitionText ls

-- the bytes spell these modules, alone or in a definition
abbrev pub SpellsFile : List ℕ → List KoreModule → Type 0
SpellsFile bytes ms = SpellsModules bytes ms ⊎ ((d : KoreDefinition) × SpellsDefinition bytes d × (d.modules ≡ ms))

-- of the two faults of bytes that spell neither, the one up to which the text goes on
abbrev pub further_fault : TextFault → TextFault → TextFault
further_fault modules definition = if nat_lt modules.at definition.at then definition else modules
