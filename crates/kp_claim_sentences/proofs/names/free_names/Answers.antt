use Rattle.std.proofs.Common.{rules, ◌++◌, [], sym, ap, subst, ◌∙◌, map}
use Rattle.std.proofs.lemmas.List.{map-append}
use Rattle.kp_kore.specs.Parts.{free_variables}
use Rattle.kp_kore.specs.View.{view, sorted_variable_view}
use Rattle.kp_names.specs.Met.{Lists}
use Rattle.kp_claim_sentences.proofs.names.free_names.Goals as goal

pub returns : goal.returns
returns c =
    let l = free_variables (view c.args.sides.left.now) in
    let r = free_variables (view c.args.sides.right.now) in
    let none : Lists [] c.new-names.result = search rules in
    let first : Lists (map (λ x. x.name) l) c.note_all.new.names =
    subst (λ xs. Lists (map (λ x. x.name) xs) c.note_all.new.names) (ap (map sorted_variable_view) c.deref.ensures.value ∙ c.in_ok-left.ensures) (c.in_ok-note_all.ensures [] none) in
    subst (λ xs. Lists xs c.note_all-2.new.names) (sym (map-append (λ x. x.name) l r))
    (subst (λ xs. Lists (map (λ x. x.name) l ++ map (λ x. x.name) xs) c.note_all-2.new.names) (ap (map sorted_variable_view) c.deref-2.ensures.value ∙ c.in_ok-right.ensures) (c.in_ok-note_all-2.ensures (map (λ x. x.name) l) first))
