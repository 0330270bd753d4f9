use Rattle.std.proofs.Common.{take}
use Rattle.kp_signature.specs.Names.{Indexes}
use Rattle.kp_claim_sentences.specs.Noted.{names_seen}
use Rattle.kp_claim_files.proofs.labels.places_of.Given as goal

abbrev pub invariant-loop-i : goal.invariant-loop-i
invariant-loop-i l = Indexes (names_seen (take l.i l.labels)) l.places
