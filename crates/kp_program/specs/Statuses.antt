-- How the program ends otherwise than by doing what its command says: its statuses, their causes, and the lines on standard error.
-- Source: this project.
use Rattle.std.specs.Prelude.{◌≡◌, ◌⊎◌, ℕ, List, ◌++◌, Option, Some, None, IfSome, codes, ⊤}
use Rattle.std.specs.Fmt.{decimal}
use Rattle.std.specs.Io.KnownBytes.{Appends}
use Rattle.kp_kore.specs.Syntax.{Text}
use Rattle.kp_io.specs.Outside.{Names, Rose}
use Rattle.kp_text.specs.Kinds.{kind_number}
use Rattle.kp_imports.specs.Faults.{fault_code}
use Rattle.kp_program.specs.Faults.{FileFault, too_long, in_text, in_modules, in_claims, IsFileFault, IsFaultless, IsClaimsFault, AreFaultlessClaims, claim_code}
use Rattle.kp_program.specs.Loaded.{IsLoaded}
use Rattle.kp_program.specs.Served.{GainsFront}
use Rattle.kp_command.specs.Words.{AreFaultless, AskHelp, ProveWords, SpellsStdio, SpellsProve, NamesDefinition}

-- clap refuses the words, or is asked for help; the file of this name has a fault; there is no file of this name; the shelf, the input or
-- the output failed; memory ran out
pub data Ending : Type 0 where
  usage : Ending
  faulty : Text → FileFault → Ending
  no_file : Text → Ending
  outside : Ending
  memory : Ending

abbrev pub exit_status : Ending → ℕ
exit_status usage = 3
exit_status (faulty name f) = 4
exit_status (no_file name) = 5
exit_status outside = 6
exit_status memory = 7

-- ---- lines on standard error

-- the words for a file's fault, behind the file's name
abbrev pub fault_words : FileFault → Text
fault_words too_long = codes ": too long\n"
fault_words (in_text f) = codes ": text " ++ decimal (kind_number f.kind) ++ codes " at " ++ decimal f.at ++ codes "\n"
fault_words (in_modules f) = codes ": " ++ fault_code f ++ codes "\n"
fault_words (in_claims f) = codes ": " ++ claim_code f ++ codes "\n"

abbrev pub line_of : Ending → Text
line_of usage = codes "kprove: usage\n"
line_of (faulty name f) = codes "kprove: " ++ name ++ fault_words f
line_of (no_file name) = codes "kprove: no file " ++ name ++ codes "\n"
line_of outside = codes "kprove: fault\n"
line_of memory = codes "kprove: memory\n"

-- the line was written, or a front of it where writing failed
abbrev pub Tells : Type 0 → Option (List ℕ) → Option (List ℕ) → Text → Type 0
Tells failed before after line = Appends before after line ⊎ (failed × GainsFront before after line)

-- ---- causes

-- the count of faults of the shelf, of the input or of the output rose
abbrev pub SomeRose : ℕ → ℕ → ℕ → ℕ → ℕ → ℕ → Type 0
SomeRose shelf shelf_after input input_after out out_after = Rose shelf shelf_after ⊎ (Rose input input_after ⊎ Rose out out_after)

-- the words name this file as the definition's, and it has this fault
pub record IsFaultyDefinition (names : Option Names) (words : List Text) (name : Text) (f : FileFault) : Type 0 where
  pub main : Text
  pub named : NamesDefinition words name main
  pub file : List ℕ
  pub there : IfSome names (λ held. held name ≡ Some file)
  pub fault : IsFileFault file main f

-- the words are those of prove and name this file as the claims', and their definition is loaded
pub record AreClaimsOf (names : Option Names) (words : List Text) (name : Text) : Type 0 where
  pub command : ProveWords
  pub spells : SpellsProve words command
  pub named : command.claims ≡ name
  pub loaded : IsLoaded names command.definition command.main

-- and it has this fault
pub record AreFaultyClaims (names : Option Names) (words : List Text) (name : Text) (f : FileFault) : Type 0 where
  pub claims : AreClaimsOf names words name
  pub file : List ℕ
  pub there : IfSome names (λ held. held name ≡ Some file)
  pub fault : IsClaimsFault claims.loaded.setting.theory.signature file f

-- there is no file of this name
abbrev pub IsNowhere : Option Names → Text → Type 0
IsNowhere names name = IfSome names (λ held. held name ≡ None)

-- why a program with these words ends so, over a shelf with these names: the definition's file first, then the claims';
-- want of memory needs no cause
abbrev pub IsCause : Option Names → List Text → Type 0 → Ending → Type 0
IsCause names words failed usage = ¬ AreFaultless words
IsCause names words failed (faulty name f) = IsFaultyDefinition names words name f ⊎ AreFaultyClaims names words name f
IsCause names words failed (no_file name) = ((main : Text) × NamesDefinition words name main × IsNowhere names name) ⊎ (AreClaimsOf names words name × IsNowhere names name)
IsCause names words failed outside = failed
IsCause names words failed memory = ⊤

-- the status is that of an ending that has its cause, and standard error got its line
pub record IsEnded (names : Option Names) (words : List Text) (failed : Type 0) (before after : Option (List ℕ)) (untold : Type 0) (status : ℕ) : Type 0 where
  pub ending : Ending
  pub status_is : status ≡ exit_status ending
  pub because : IsCause names words failed ending
  pub told : Tells untold before after (line_of ending)

-- where clap finds a fault in the words: status 3, or memory ran out, or help that they ask for couldn't be written
abbrev pub IsRefusedAs : List Text → ℕ → Type 0
IsRefusedAs words status = (status ≡ 3) ⊎ ((status ≡ 7) ⊎ ((status ≡ 6) × AskHelp words))

-- ---- where it can't end so

-- the words spell stdio, and the definition's file is there and has no fault
pub record IsServable (words : List Text) (held : Names) : Type 0 where
  pub name : Text
  pub main : Text
  pub file : List ℕ
  pub spells : SpellsStdio words name main
  pub there : held name ≡ Some file
  pub faultless : IsFaultless file main

-- the words spell prove, and both files are there and have no fault
pub record IsProvable (words : List Text) (held : Names) : Type 0 where
  pub command : ProveWords
  pub spells : SpellsProve words command
  pub loaded : IsLoaded (Some held) command.definition command.main
  pub file : List ℕ
  pub there : held command.claims ≡ Some file
  pub faultless : AreFaultlessClaims loaded.setting.theory.signature file

-- the words spell a command whose files are there and have no fault
abbrev pub IsPossible : List Text → Names → Type 0
IsPossible words held = IsServable words held ⊎ IsProvable words held
