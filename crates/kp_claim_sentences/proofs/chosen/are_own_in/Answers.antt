use Rattle.std.proofs.Common.{◌≡◌, ◌&&◌, ◌||◌, sym, ap, ◌∙◌, Bool, false, map}
use Rattle.std.specs.List.{list_all}
use Rattle.kp_kore.specs.Parts.{SortedName, free_variables}
use Rattle.kp_kore.specs.View.{view, sorted_variable_view}
use Rattle.kp_kore.specs.Instance.{is_named}
use Rattle.kp_rules.specs.Shapes.{variables_seen}
use Rattle.kp_claim_sentences.specs.Noted.{has_name}
use Rattle.kp_claim_sentences.proofs.Noting.{listed_named, all_same, none_own, own_all}
use Rattle.kp_claim_sentences.proofs.chosen.are_own_in.Goals as goal

pub returns-then-not-are_bound_in : goal.returns-then-not-are_bound_in
returns-then-not-are_bound_in c =
    let t = free_variables (view c.args.term.now) in
    let l = free_variables (view c.args.sides.left.now) in
    let r = free_variables (view c.args.sides.right.now) in
    let bs = variables_seen c.args.binders.now in
    let has : SortedName → Bool = λ x. has_name c.in_ok-names.names x.name in
    let is : (x : SortedName) → has x ≡ is_named x.name t = λ x. c.in_ok-names.ensures x.name ∙ listed_named x.name t in
    none_own (λ x. is_named x.name t) (λ x. is_named x.name l) bs r (sym (all_same has (λ x. is_named x.name t) bs is) ∙ sym c.are_bound_in.ensures ∙ c.if-not-are_bound_in.true)

pub returns : goal.returns
returns c =
    let t = free_variables (view c.args.term.now) in
    let l = free_variables (view c.args.sides.left.now) in
    let r = free_variables (view c.args.sides.right.now) in
    let bs = variables_seen c.args.binders.now in
    let has : SortedName → Bool = λ x. has_name c.in_ok-names.names x.name in
    let noted : SortedName → Bool = λ x. has_name c.in_ok-given.given x.name in
    let is : (x : SortedName) → has x ≡ is_named x.name t = λ x. c.in_ok-names.ensures x.name ∙ listed_named x.name t in
    let given : (x : SortedName) → noted x ≡ is_named x.name l = λ x. c.in_ok-given.ensures x.name ∙ listed_named x.name l in
    c.are_new_in.ensures
    ∙ ap (λ vs. list_all (λ x. noted x || has x) vs) (ap (map sorted_variable_view) c.deref.ensures.value ∙ c.in_ok-variables.ensures)
    ∙ ap (λ b. b && list_all (λ x. noted x || has x) r) (sym (sym c.are_bound_in.ensures ∙ c.if-not-are_bound_in.false))
    ∙ own_all (λ x. is_named x.name t) has (λ x. is_named x.name l) noted bs r is given
