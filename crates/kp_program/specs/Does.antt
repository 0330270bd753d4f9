-- What a command does: it serves its input, or proves its claims.
use Rattle.std.specs.Prelude.{◌≡◌, ◌⊎◌, ℕ, List, Option}
use Rattle.std.specs.Io.KnownBytes.{Appends}
use Rattle.kp_kore.specs.Syntax.{Text}
use Rattle.kp_io.specs.Outside.{Names}
use Rattle.kp_program.specs.Proofs.{Proved, ProvedWords}
use Rattle.kp_program.specs.Served.{BreaksWords, GainsFront, ServesWords}
use Rattle.kp_command.specs.Words.{AskHelp, ProveWords}

-- with this status, from what the input had left and the output held to what they have then
abbrev pub DoesWords : Option Names → Option (List ℕ) → Option (List ℕ) → Option (List ℕ) → Option (List ℕ) → List Text → ℕ → Type 0
DoesWords names left left_after held held_after words status =
    (ServesWords names left left_after held held_after words × (status ≡ 0)) ⊎ ProvedWords names (Appends held held_after) words status

-- help that the words ask for, or a front of it, was written
abbrev pub TellsHelp : Option (List ℕ) → Option (List ℕ) → Option (List ℕ) → Option (List ℕ) → List Text → Type 0
TellsHelp left left_after held held_after words = AskHelp words × (left_after ≡ left) × ((text : List ℕ) × GainsFront held held_after text)

-- a front of it, whatever the status was to be, or help
abbrev pub BeginsWords : Option Names → Option (List ℕ) → Option (List ℕ) → Option (List ℕ) → Option (List ℕ) → List Text → Type 0
BeginsWords names left left_after held held_after words =
    BreaksWords names left left_after held held_after words
    ⊎ (((status : ℕ) × ProvedWords names (GainsFront held held_after) words status) ⊎ TellsHelp left left_after held held_after words)

-- the input and the output are as they were, or a front of it is done
abbrev pub MayBegin : Option Names → Option (List ℕ) → Option (List ℕ) → Option (List ℕ) → Option (List ℕ) → List Text → Type 0
MayBegin names left left_after held held_after words =
    ((left_after ≡ left) × (held_after ≡ held)) ⊎ BeginsWords names left left_after held held_after words

-- the output is as it was, or gained a front of a report, whatever the status was to be
abbrev pub MayProve : Option Names → Option (List ℕ) → Option (List ℕ) → ProveWords → Type 0
MayProve names held held_after c = (held_after ≡ held) ⊎ ((status : ℕ) × Proved names (GainsFront held held_after) c status)
