use Rattle.std.proofs.Common.{◌≡◌, not, drop}
use Rattle.std.specs.List.{find}
use Rattle.kp_kore.specs.View.{names_view}
use Rattle.kp_claim_sentences.specs.Noted.{has_name}
use Rattle.kp_claim_files.proofs.used.first_unknown.Given as goal

abbrev pub invariant-loop-i : goal.invariant-loop-i
invariant-loop-i l = find (λ x. not (has_name l.places x)) (names_view l.labels) ≡ find (λ x. not (has_name l.places x)) (names_view (drop l.i l.labels))
