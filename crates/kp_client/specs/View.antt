-- What the Rust types of the prover stand for.
use Rattle.std.specs.Prelude.{List, map, Option, Some, None}
use Rattle.kp_graph.specs.Tree.{ProofNode}
use Rattle.kp_graph.specs.View.{why_view}
use Rattle.kp_client.specs.Links.{Exchange}
use Rattle.kp_client.specs.Rounds as rounds
use Rattle.kp_client.specs.Rounds.{ProofOutcome, RoundEnd}
use Rattle.kp_client.specs.declared.outcome.ProofEnd.{ProofEnd}
use Rattle.kp_client.specs.declared.outcome.ProofEnd.TheVariants as outcome
use Rattle.kp_client.specs.declared.script.Spoken.{Spoken}

abbrev pub outcome_view : ProofEnd → ProofOutcome
outcome_view outcome.Passed = rounds.passed
outcome_view (outcome.Failed node) = rounds.failed_at node.number
outcome_view (outcome.Pending node why) = rounds.pending_at node.number (why_view why)
outcome_view (outcome.Refused code) = rounds.refused_with code

-- a round that has an outcome ends the proof
abbrev pub round_end : List ProofNode → Option ProofEnd → RoundEnd
round_end tree None = rounds.goes_on tree
round_end tree (Some o) = rounds.ends tree (outcome_view o)

abbrev pub exchanges_view : List Spoken → List Exchange
exchanges_view = map (λ s. record { frame = s.frame.items; reply = s.reply.items })
