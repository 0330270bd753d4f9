use Rattle.std.proofs.Common.{◌≡◌, ◌++◌, length}
use denote.Shadow.{shadow}
use denote.Text.{Utf8}
use Rattle.kp_kore.specs.View.{names_view}
use Rattle.kp_claim_sentences.specs.Claims.{comma_parts}
use Rattle.kp_claim_sentences.proofs.depends.comma_parts.Given as goal

abbrev pub invariant-loop-part : goal.invariant-loop-part
invariant-loop-part l = (names_view l.parts.items ++ comma_parts l.rest ≡ comma_parts l.text) × shadow (Utf8 l.rest)

abbrev pub decreases-loop-part : goal.decreases-loop-part
decreases-loop-part l = length l.rest
