use Rattle.std.proofs.Common.{take}
use Rattle.std.specs.List.{flat_map}
use Rattle.kp_names.specs.Met.{Lists}
use Rattle.kp_claims.specs.Sentences.{seen}
use Rattle.kp_claim_sentences.specs.Faults.{dependencies_at}
use Rattle.kp_claim_files.proofs.labels.used_in.Given as goal

abbrev pub invariant-loop-i : goal.invariant-loop-i
invariant-loop-i l = Lists (flat_map dependencies_at (seen (take l.i l.sentences))) l.used
