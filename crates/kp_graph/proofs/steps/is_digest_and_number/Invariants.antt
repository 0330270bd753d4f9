use Rattle.std.proofs.Common.{◌≡◌, ◌-◌, ◌≤◌, drop}
use Rattle.kp_kore.specs.ClaimRules.{is_digest_and_number}
use Rattle.kp_graph.proofs.steps.is_digest_and_number.Given as goal

abbrev pub invariant-loop-place : goal.invariant-loop-place
invariant-loop-place l = (l.place ≤ 64) × (is_digest_and_number (64 - l.place) (drop l.place l.text) ≡ is_digest_and_number 64 l.text)

abbrev pub decreases-loop-place : goal.decreases-loop-place
decreases-loop-place l = 64 - l.place
