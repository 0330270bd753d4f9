use Rattle.std.proofs.Common.{rules, map, ◌≡◌, ◌∙◌, sym, ap, ap₂, refl, subst, true, string_bytes, arith}
use Rattle.std.proofs.lemmas.Result.{err_from_is_err_and}
use Rattle.kp_ground.proofs.TermLemmas.{err_of_arguments, term_values-terms_of, all_stay_narrow-terms_of}
use Rattle.std.specs.List.{list_all}
use Rattle.kp_kore.specs.Value.{constructed}
use Rattle.kp_ground.specs.View.{value_view, values_of}
use Rattle.kp_ground.specs.Slots.{stands_at, term_reads}
use Rattle.kp_ground.specs.Solves.{bound_names}
use Rattle.kp_ground.proofs.SlotLemmas.{slot_within, all_pass}
use Rattle.kp_ground.specs.Terms.{bound, built, term_value, stays_narrow}
use Rattle.kp_ground.specs.TermView.{term_view, terms_of}
use Rattle.kp_ground.specs.declared.term.CompiledTerm.{the_lemmas}
use Rattle.kp_ground.proofs.term.CompiledTerm.+evaluate.Goals as goal

pub evaluate-returns-in_err-values-in-Built : goal.evaluate-returns-in_err-values-in-Built
evaluate-returns-in_err-values-in-Built t c =
    let is : term_view c.args.self.now ≡ built (string_bytes c.in-Built.constructor.value) (terms_of (map term_view c.in-Built.arguments.items)) = search (rules, the_lemmas) in
    let p = err_from_is_err_and c.from_residual-in_err-values-in-Built.result c.from_residual-in_err-values-in-Built.ensures.1 in
    rw (p.1, p.2, is) (err_of_arguments c.in_err-values-in-Built.field-0.0 c.args.bindings.now (string_bytes c.in-Built.constructor.value) c.in-Built.arguments.items (rw c.deref.ensures.value at c.in_err-values-in-Built.ensures))

pub evaluate-returns-in_ok-name-in-Built : goal.evaluate-returns-in_ok-name-in-Built
evaluate-returns-in_ok-name-in-Built t c = λ v s.
    let is : term_view c.args.self.now ≡ built (string_bytes c.in-Built.constructor.value) (terms_of (map term_view c.in-Built.arguments.items)) = search (rules, the_lemmas) in
    let each : (map value_view c.in_ok-values-in-Built.values.items ≡ map (λ t. term_value v (term_view t)) c.in-Built.arguments.items) × (list_all (λ t. stays_narrow v (term_view t)) c.in-Built.arguments.items ≡ true)
    = rw c.deref.ensures.value at (c.in_ok-values-in-Built.ensures v s) in
    let values : map value_view c.in_ok-shared-in-Built.shared.value.items ≡ map (λ t. term_value v (term_view t)) c.in-Built.arguments.items
    = ap (λ us. map value_view us.items) c.in_ok-shared-in-Built.ensures.ok ∙ each.0 in
    rw is (
      c.constructed_value.ensures ∙ ap₂ constructed (ap string_bytes c.in_ok-name-in-Built.ensures) (ap values_of values ∙ sym (term_values-terms_of v c.in-Built.arguments.items)),
      all_stay_narrow-terms_of v c.in-Built.arguments.items ∙ each.1,
    )

pub evaluate-bound_at-requires : goal.evaluate-bound_at-requires
evaluate-bound_at-requires t c =
    let xs = bound_names c.args.bindings.now in
    let reads : term_reads xs c.args.self.now ≡ stands_at xs (string_bytes c.in-Variable.name) c.in-Variable.slot = search (rules, the_lemmas) in
    slot_within c.args.bindings.now (string_bytes c.in-Variable.name) c.in-Variable.slot (sym reads ∙ c.requires)

pub evaluate-returns-in_ok-share-in-Variable : goal.evaluate-returns-in_ok-share-in-Variable
evaluate-returns-in_ok-share-in-Variable t c = λ v s.
    let xs = bound_names c.args.bindings.now in
    let is : term_view c.args.self.now ≡ bound (string_bytes c.in-Variable.name) = search (rules, the_lemmas) in
    let reads : term_reads xs c.args.self.now ≡ stands_at xs (string_bytes c.in-Variable.name) c.in-Variable.slot = search (rules, the_lemmas) in
    rw is (c.in_ok-share-in-Variable.ensures ∙ sym (c.bound_at.ensures v (string_bytes c.in-Variable.name) s (sym reads ∙ c.requires)), refl)

pub evaluate-evaluate_all-requires : goal.evaluate-evaluate_all-requires
evaluate-evaluate_all-requires t c =
    let xs = bound_names c.args.bindings.now in
    let reads : term_reads xs c.args.self.now ≡ list_all (λ b. b) (map (term_reads xs) c.in-Built.arguments.items) = search (rules, the_lemmas) in (
      first_of (search (arith, the_lemmas, c.decreases, c.deref.ensures.value, c.in-Built.is), search (rules, the_lemmas)),
      subst (λ ts. list_all (term_reads xs) ts ≡ true) (sym c.deref.ensures.value) (all_pass (term_reads xs) c.in-Built.arguments.items (sym reads ∙ c.requires)),
    )
