use Rattle.std.proofs.Common.{◌≡◌, ◌++◌, drop}
use Rattle.kp_claims.specs.Faults.{labels_of}
use Rattle.kp_claims.specs.Sentences.{seen}
use Rattle.kp_claim_sentences.specs.Noted.{names_seen}
use Rattle.kp_claim_files.proofs.labels.labels_of.Given as goal

abbrev pub invariant-loop-i : goal.invariant-loop-i
invariant-loop-i l = names_seen l.labels.items ++ labels_of (seen (drop l.i l.sentences)) ≡ labels_of (seen l.sentences)
