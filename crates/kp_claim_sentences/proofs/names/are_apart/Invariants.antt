use Rattle.std.proofs.Common.{◌≡◌, List, drop}
use Rattle.std.specs.List.{flat_map}
use Rattle.kp_kore.specs.Syntax.{Text}
use Rattle.kp_compile.specs.Parts.{seen}
use Rattle.kp_names.specs.Met.{Lists}
use Rattle.kp_claim_sentences.specs.Claims.{bound_at, are_apart}
use Rattle.kp_claim_sentences.proofs.names.are_apart.Given as goal

abbrev pub invariant-loop-part : goal.invariant-loop-part
invariant-loop-part l = (names : List Text) → Lists names l.fn.met →
    (now : List Text) × Lists now l.names × (are_apart now (flat_map bound_at (seen (drop l.part-index l.parts))) ≡ are_apart names (flat_map bound_at (seen l.parts)))
