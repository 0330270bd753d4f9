-- What the code reads of words, and what it tells of words that are no command.
use Rattle.std.specs.Prelude.{◌≢◌, List, ⊤}
use Rattle.clap.specs.Faults.{fault_of}
use Rattle.clap.specs.Kinds.{IsAmong, Kinds}
use Rattle.clap.specs.Walk.{Text}
use Rattle.clap.specs.declared.error.kind.ErrorKind.{ErrorKind}
use Rattle.clap.specs.declared.error.kind.ErrorKind.TheVariants.{DisplayHelp}
use Rattle.kp_command.specs.Described.{whole_app}
use Rattle.kp_command.specs.Words.{IsProve, IsStdio, ProveWords, Read, SpellsProve, SpellsStdio}
use Rattle.kp_command.specs.declared.command.Command.{Command}
use Rattle.kp_command.specs.declared.command.Command.TheVariants as command
use Rattle.kp_command.specs.declared.command.Prove.{Prove}
use Rattle.kp_command.specs.declared.error.WordsError.{WordsError}
use Rattle.kp_command.specs.declared.error.WordsError.TheVariants as error

abbrev pub prove_view : Prove → ProveWords
prove_view c = record { definition = c.definition.now; main = c.module_name.now; claims = c.claims.now; depth = c.max_depth }

-- what clap reads is the command
abbrev pub IsReadAs : Read → Command → Type 0
IsReadAs read (command.Stdio c) = IsStdio read c.definition.now c.module_name.now
IsReadAs read (command.Prove c) = IsProve read (prove_view c)

-- the words spell the command
abbrev pub IsCommand : List Text → Command → Type 0
IsCommand words (command.Stdio c) = SpellsStdio words c.definition.now c.module_name.now
IsCommand words (command.Prove c) = SpellsProve words (prove_view c)

-- the error has its cause among the kinds of error; want of memory needs none
abbrev pub HasCause : Kinds → WordsError → Type 0
HasCause kinds (error.Help text) = IsAmong DisplayHelp kinds
HasCause kinds error.Usage = (kind : ErrorKind) × IsAmong kind kinds × (kind ≢ DisplayHelp)
HasCause kinds error.Memory = ⊤

-- the error has its cause in the words
abbrev pub IsErrorOf : List Text → WordsError → Type 0
IsErrorOf words r = HasCause (fault_of whole_app words) r
