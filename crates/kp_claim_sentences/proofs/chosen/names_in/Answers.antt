use Rattle.std.proofs.Common.{rules, [], ap, subst, ◌∙◌, map}
use Rattle.kp_kore.specs.View.{sorted_variable_view}
use Rattle.kp_names.specs.Met.{Lists}
use Rattle.kp_claim_sentences.proofs.chosen.names_in.Goals as goal

pub returns : goal.returns
returns c =
    let none : Lists [] c.new-names.result = search rules in
    subst (λ xs. Lists (map (λ x. x.name) xs) c.note_all.new.names) (ap (map sorted_variable_view) c.deref.ensures.value ∙ c.in_ok-variables.ensures) (c.in_ok-note_all.ensures [] none)
