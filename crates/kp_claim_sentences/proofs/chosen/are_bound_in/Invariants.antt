use Rattle.std.proofs.Common.{◌≡◌, drop}
use Rattle.std.specs.List.{list_all}
use Rattle.kp_rules.specs.Shapes.{variables_seen}
use Rattle.kp_claim_sentences.specs.Noted.{has_name}
use Rattle.kp_claim_sentences.proofs.chosen.are_bound_in.Given as goal

abbrev pub invariant-loop-binder : goal.invariant-loop-binder
invariant-loop-binder l =
    list_all (λ x. has_name l.names x.name) (variables_seen l.binders)
    ≡ list_all (λ x. has_name l.names x.name) (variables_seen (drop l.binder-index l.binders))
