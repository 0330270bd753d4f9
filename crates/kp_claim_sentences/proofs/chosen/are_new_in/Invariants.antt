use Rattle.std.proofs.Common.{◌≡◌, ◌||◌, map, drop}
use Rattle.std.specs.List.{list_all}
use Rattle.kp_kore.specs.View.{sorted_variable_view}
use Rattle.kp_claim_sentences.specs.Noted.{has_name}
use Rattle.kp_claim_sentences.proofs.chosen.are_new_in.Given as goal

abbrev pub invariant-loop-variable : goal.invariant-loop-variable
invariant-loop-variable l =
    list_all (λ x. has_name l.given x.name || has_name l.names x.name) (map sorted_variable_view l.variables)
    ≡ list_all (λ x. has_name l.given x.name || has_name l.names x.name) (map sorted_variable_view (drop l.variable-index l.variables))
