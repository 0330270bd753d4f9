-- A call for help, and a refusal of another kind, are faults of the words.
use Rattle.std.proofs.Common.{◌≡◌, List, [], ◌∷◌}
use Rattle.clap.specs.Kinds.{IsAmong, Kinds}
use Rattle.clap.specs.Walk.{Text}
use Rattle.clap.specs.declared.error.kind.ErrorKind.{ErrorKind}
use Rattle.kp_command.specs.Words.{AreFaultless, AreRefused, AskHelp}

none_among : (k : ErrorKind) (kinds : Kinds) → IsAmong k kinds → ¬ (kinds ≡ [])
none_among k [] among e = among
none_among k (x ∷ xs) among e = absurd (cc)

pub help_is_fault : (words : List Text) → AskHelp words → ¬ AreFaultless words
help_is_fault words ask = none_among _ _ ask

pub refusal_is_fault : (words : List Text) → AreRefused words → ¬ AreFaultless words
refusal_is_fault words r = none_among r.0 _ r.1
