-- That what is written is right: from the bytes of the definition's file and of the input to the bytes of the replies.
-- The file's bytes spell a definition; its modules are bound from the start; the frames of the input were answered one
-- after another, each at the book of modules that those before it made of an empty one.
-- Source: Kore text; JSON-RPC 2.0 over a stream; the K Haskell backend's JSON-RPC documentation (stdio, add-module).
use Rattle.std.specs.Prelude.{◌≡◌, ◌⊎◌, ℕ, List, take, Option, Some, IfSome, ⊤}
use Rattle.std.specs.Io.KnownBytes.{Appends}
use Rattle.kp_kore.specs.Syntax.{Text, KoreDefinition}
use Rattle.kp_io.specs.Outside.{Names}
use Rattle.kp_text.specs.Spelling.{SpellsDefinition}
use Rattle.kp_additions.specs.Served.{nothing_seen}
use Rattle.kp_book.specs.Books.{Opening, Seen}
use Rattle.kp_modules.specs.Openings.{opening_of}
use Rattle.kp_registry.specs.Legal.{IsLegal}
use Rattle.kp_conn.specs.Conversations.{IsBroken, IsServed}
use Rattle.kp_conn.specs.declared.served.Served.{Served}
use Rattle.kp_conn.specs.declared.served.Served.TheVariants as served
use Rattle.kp_service.specs.Alone.{AreAllOwn}
use Rattle.kp_service.specs.Answers.{IsAnswer, IsBegun}
use Rattle.kp_program.specs.Faults.{IsFaultless}
use Rattle.kp_command.specs.Words.{SpellsStdio}

-- ---- the input

-- a connection came to its end: with its input, at a frame that is too long, or after as many bytes as are taken
abbrev pub IsWhole : Served → Type 0
IsWhole (served.Ended frames) = ⊤
IsWhole served.Truncated = ⊤
IsWhole served.TooLong = ⊤
IsWhole served.Spent = ⊤
IsWhole served.ReadFault = ⊥
IsWhole served.WriteFault = ⊥
IsWhole served.Memory = ⊥

-- over this opening all frames of the input were answered, and the output got their replies; these modules were added
pub record ServesInput (o : Opening) (left left_after held held_after : Option (List ℕ)) : Type 0 where
  pub end : Served
  pub whole : IsWhole end
  pub seen : Seen
  pub legal : IsLegal o seen.book
  pub all_own : AreAllOwn seen
  pub served : IsServed (IsAnswer o) (IsBegun o) nothing_seen left left_after held held_after seen end

-- some first frames were answered, and the output got a front of their replies; these modules were added
pub record BreaksOff (o : Opening) (left left_after held held_after : Option (List ℕ)) : Type 0 where
  pub seen : Seen
  pub legal : IsLegal o seen.book
  pub all_own : AreAllOwn seen
  pub broken : IsBroken (IsAnswer o) (IsBegun o) nothing_seen left left_after held held_after seen

-- ---- the definition's file

-- the file of this name is there and has no fault, its bytes spell a definition, and this holds over what its main module
-- opens
pub record OverFile (names : Option Names) (name main : Text) (Holds : Opening → Type 0) : Type 0 where
  pub file : List ℕ
  pub there : IfSome names (λ held. held name ≡ Some file)
  pub faultless : IsFaultless file main
  pub definition : KoreDefinition
  pub spells : SpellsDefinition file definition
  pub holds : Holds (opening_of definition main)

abbrev pub ServesFile : Option Names → Option (List ℕ) → Option (List ℕ) → Option (List ℕ) → Option (List ℕ) → Text → Text → Type 0
ServesFile names left left_after held held_after name main = OverFile names name main (λ o. ServesInput o left left_after held held_after)

abbrev pub BreaksFile : Option Names → Option (List ℕ) → Option (List ℕ) → Option (List ℕ) → Option (List ℕ) → Text → Text → Type 0
BreaksFile names left left_after held held_after name main = OverFile names name main (λ o. BreaksOff o left left_after held held_after)

-- the input and the output are as they were, or serving broke off
abbrev pub MayBreakFile : Option Names → Option (List ℕ) → Option (List ℕ) → Option (List ℕ) → Option (List ℕ) → Text → Text → Type 0
MayBreakFile names left left_after held held_after name main =
    ((left_after ≡ left) × (held_after ≡ held)) ⊎ BreaksFile names left left_after held held_after name main

-- the same for the command that the words spell
abbrev pub ServesWords : Option Names → Option (List ℕ) → Option (List ℕ) → Option (List ℕ) → Option (List ℕ) → List Text → Type 0
ServesWords names left left_after held held_after words = (name : Text) × (main : Text) × SpellsStdio words name main × ServesFile names left left_after held held_after name main

abbrev pub BreaksWords : Option Names → Option (List ℕ) → Option (List ℕ) → Option (List ℕ) → Option (List ℕ) → List Text → Type 0
BreaksWords names left left_after held held_after words = (name : Text) × (main : Text) × SpellsStdio words name main × BreaksFile names left left_after held held_after name main

-- what is told of an output gained a front of the bytes
abbrev pub GainsFront : Option (List ℕ) → Option (List ℕ) → List ℕ → Type 0
GainsFront before after bytes = (n : ℕ) × Appends before after (take n bytes)
