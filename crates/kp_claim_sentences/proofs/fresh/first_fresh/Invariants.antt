use Rattle.std.proofs.Common.{◌≡◌, drop}
use Rattle.std.specs.List.{find, flat_map}
use Rattle.kp_kore.specs.Parts.{names_at}
use Rattle.kp_compile.specs.Parts.{seen}
use Rattle.kp_claim_sentences.specs.Faults.{is_fresh_text}
use Rattle.kp_claim_sentences.proofs.fresh.first_fresh.Given as goal

abbrev pub invariant-loop-i : goal.invariant-loop-i
invariant-loop-i l = find is_fresh_text (flat_map names_at (seen l.parts)) ≡ find is_fresh_text (flat_map names_at (seen (drop l.i l.parts)))
