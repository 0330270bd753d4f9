use Rattle.std.proofs.Common.{◌≡◌, ◌++◌, map, drop}
use Rattle.kp_kore.specs.Syntax.{axiom_sentence}
use Rattle.kp_kore.specs.View.{sentence_view}
use Rattle.kp_kore.specs.ClaimModules.{claim_axiom}
use Rattle.kp_claim_files.specs.Modules.{claims_at}
use Rattle.kp_claim_files.proofs.module.add_axioms.Given as goal

abbrev pub invariant-loop-i : goal.invariant-loop-i
invariant-loop-i l =
    map sentence_view l.sentences.items ++ map (λ c. axiom_sentence (claim_axiom c)) (claims_at l.claims (drop l.i l.places)) ≡ map sentence_view l.fn.sentences.items ++ map (λ c. axiom_sentence (claim_axiom c)) (claims_at l.claims l.places)
