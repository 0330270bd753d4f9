-- Which words of a command line spell a command: clap finds no fault in them, and reads this command with these values.
-- Source: this project; clap says how words are read: options in any order, `--id VALUE` or `--id=VALUE`, a number with or
-- without a plus sign before it.
use Rattle.std.specs.Prelude.{◌≡◌, ◌≢◌, ◌≤◌, ◌⊎◌, ℕ, List, [], ◌∷◌, Option, Some, codes, ⊤}
use Rattle.std.specs.Str.Parse.{IsNumeral, digits_value, without_leading_plus}
use Rattle.clap.specs.Faults.{fault_of}
use Rattle.clap.specs.Kinds.{IsAmong}
use Rattle.clap.specs.Simple.{subcommand_of}
use Rattle.clap.specs.Walk.{Row, Text, first_of, one_of}
use Rattle.clap.specs.declared.error.kind.ErrorKind.{ErrorKind}
use Rattle.clap.specs.declared.error.kind.ErrorKind.TheVariants.{DisplayHelp}
use Rattle.kp_command.specs.Described.{whole_app}

-- ---- what clap reads of a command: its name, and a row for each of its arguments

abbrev pub Read : Type 0
Read = Option (Text × List Row)

-- the rows of stdio, with the name of the definition's file and the name of the main module
pub record AreOfStdio (rows : List Row) (definition main : Text) : Type 0 where
  pub definition_is : first_of (codes "definition") rows ≡ Some definition
  pub main_is : first_of (codes "module") rows ≡ Some main

abbrev pub IsStdio : Read → Text → Text → Type 0
IsStdio read definition main = (rows : List Row) × (read ≡ Some (codes "stdio", rows)) × AreOfStdio rows definition main

-- the files of the definition and of the claims, the main module, and how many steps an edge may have
pub record ProveWords : Type 0 where
  pub definition : Text
  pub main : Text
  pub claims : Text
  pub depth : ℕ

-- decimal digits, with or without a plus sign before them, of a number from 1 to 10,000
pub record WritesDepth (text : Text) (n : ℕ) : Type 0 where
  pub digits : IsNumeral 10 (without_leading_plus text)
  pub value : digits_value 10 (without_leading_plus text) ≡ n
  pub least : 1 ≤ n
  pub most : n ≤ 10000

-- the rows of prove, with its values
pub record AreOfProve (rows : List Row) (c : ProveWords) : Type 0 where
  pub definition_is : first_of (codes "definition") rows ≡ Some c.definition
  pub main_is : first_of (codes "module") rows ≡ Some c.main
  pub claims_is : first_of (codes "claims") rows ≡ Some c.claims
  pub number : Text
  pub number_is : one_of (codes "max-depth") rows ≡ Some number
  pub depth_is : WritesDepth number c.depth

abbrev pub IsProve : Read → ProveWords → Type 0
IsProve read c = (rows : List Row) × (read ≡ Some (codes "prove", rows)) × AreOfProve rows c

-- ---- which words spell a command

-- clap finds no fault in the words
abbrev pub AreFaultless : List Text → Type 0
AreFaultless words = fault_of whole_app words ≡ []

abbrev pub SpellsStdio : List Text → Text → Text → Type 0
SpellsStdio words definition main = AreFaultless words × IsStdio (subcommand_of whole_app words) definition main

abbrev pub SpellsProve : List Text → ProveWords → Type 0
SpellsProve words c = AreFaultless words × IsProve (subcommand_of whole_app words) c

-- the words spell some command
abbrev pub SpellsSome : List Text → Type 0
SpellsSome words = ((definition : Text) × (main : Text) × SpellsStdio words definition main) ⊎ ((c : ProveWords) × SpellsProve words c)

-- the words name this file as the definition's, and this main module
abbrev pub NamesDefinition : List Text → Text → Text → Type 0
NamesDefinition words definition main =
    SpellsStdio words definition main ⊎ ((c : ProveWords) × SpellsProve words c × (c.definition ≡ definition) × (c.main ≡ main))

-- ---- which words don't

-- clap refuses them by a kind of error that asks for help: --help, -h or help, also of a command
abbrev pub AskHelp : List Text → Type 0
AskHelp words = IsAmong DisplayHelp (fault_of whole_app words)

-- clap refuses them by another kind
abbrev pub AreRefused : List Text → Type 0
AreRefused words = (kind : ErrorKind) × IsAmong kind (fault_of whole_app words) × (kind ≢ DisplayHelp)

-- ---- the plain way to write a command

-- the text doesn't begin with a hyphen
abbrev pub IsValue : Text → Type 0
IsValue [] = ⊤
IsValue (c ∷ rest) = c ≢ 45

-- the program's name, stdio, the name of the definition's file, --module, the name of the main module
pub record WritesStdio (words : List Text) (definition main : Text) : Type 0 where
  pub program : Text
  pub written : words ≡ program ∷ codes "stdio" ∷ definition ∷ codes "--module" ∷ main ∷ []
  pub definition_is : IsValue definition
  pub main_is : IsValue main

-- the words before the optional ones
abbrev pub prove_words : Text → ProveWords → List Text → List Text
prove_words program c more = program ∷ codes "prove" ∷ c.definition ∷ codes "--module" ∷ c.main ∷ codes "--claims" ∷ c.claims ∷ more

-- no words, where an edge has one step, or --max-depth and a number
abbrev pub WritesDepthOption : List Text → ℕ → Type 0
WritesDepthOption more depth = ((more ≡ []) × (depth ≡ 1)) ⊎ ((number : Text) × (more ≡ codes "--max-depth" ∷ number ∷ []) × WritesDepth number depth)

-- the program's name, prove, the name of the definition's file, --module, the name of the main module, --claims, the name of
-- the claims' file, and then nothing or --max-depth and a number
pub record WritesProve (words : List Text) (c : ProveWords) : Type 0 where
  pub program : Text
  pub more : List Text
  pub written : words ≡ prove_words program c more
  pub depth_is : WritesDepthOption more c.depth
  pub definition_is : IsValue c.definition
  pub main_is : IsValue c.main
  pub claims_is : IsValue c.claims

-- the words are written so for some command
abbrev pub AreWritten : List Text → Type 0
AreWritten words = ((definition : Text) × (main : Text) × WritesStdio words definition main) ⊎ ((c : ProveWords) × WritesProve words c)
