-- The definition that a command names: its file is there and has no fault, and means a theory for the main module.
use Rattle.std.specs.Prelude.{◌≡◌, ℕ, List, Option, Some, IfSome}
use Rattle.kp_kore.specs.Syntax.{Text, KoreDefinition}
use Rattle.kp_io.specs.Outside.{Names}
use Rattle.kp_text.specs.Spelling.{SpellsDefinition}
use Rattle.kp_program.specs.Faults.{IsFaultless}
use Rattle.kp_methods.specs.ServedTheory.{ServedTheory, IsServedTheory}

pub record IsLoaded (names : Option Names) (name main : Text) : Type 0 where
  pub file : List ℕ
  pub there : IfSome names (λ held. held name ≡ Some file)
  pub faultless : IsFaultless file main
  pub definition : KoreDefinition
  pub spells : SpellsDefinition file definition
  pub setting : ServedTheory
  pub is_setting : IsServedTheory definition main setting
