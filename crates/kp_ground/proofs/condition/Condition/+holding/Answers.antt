use Rattle.std.proofs.Common.{rules, ◌≡◌, ◌∙◌, sym, subst, map, true, arith}
use Rattle.std.proofs.lemmas.Result.{err_from_is_err_and}
use Rattle.std.specs.List.{list_all, list_any}
use Rattle.kp_ground.specs.Conditions.{all_of, any_of, condition_holds, condition_narrow}
use Rattle.kp_ground.specs.Slots.{condition_reads}
use Rattle.kp_ground.specs.Solves.{bound_names}
use Rattle.kp_ground.proofs.SlotLemmas.{all_pass}
use Rattle.kp_ground.specs.ConditionView.{condition_view, conditions_of}
use Rattle.kp_ground.specs.declared.condition.Condition.{the_lemmas}
use Rattle.kp_ground.proofs.ConditionLemmas.{all_hold-conditions_of, any_holds-conditions_of, all_narrow-conditions_of, err_of_all, err_of_any}
use Rattle.kp_ground.proofs.condition.Condition.+holding.Goals as goal

pub holds-returns-in_err-all_hold-in-All : goal.holds-returns-in_err-all_hold-in-All
holds-returns-in_err-all_hold-in-All t c =
    let is : condition_view c.args.self.now ≡ all_of (conditions_of (map condition_view c.in-All.conditions.items)) = search (rules, the_lemmas) in
    let p = err_from_is_err_and c.from_residual-in_err-all_hold-in-All.result c.from_residual-in_err-all_hold-in-All.ensures.1 in
    rw (p.1, p.2, is) (err_of_all c.in_err-all_hold-in-All.field-0.0 c.args.bindings.now c.in-All.conditions.items (rw c.deref-in-All.ensures.value at c.in_err-all_hold-in-All.ensures))

pub holds-returns-in_err-any_holds-in-Any : goal.holds-returns-in_err-any_holds-in-Any
holds-returns-in_err-any_holds-in-Any t c =
    let is : condition_view c.args.self.now ≡ any_of (conditions_of (map condition_view c.in-Any.conditions.items)) = search (rules, the_lemmas) in
    let p = err_from_is_err_and c.from_residual-in_err-any_holds-in-Any.result c.from_residual-in_err-any_holds-in-Any.ensures.1 in
    rw (p.1, p.2, is) (err_of_any c.in_err-any_holds-in-Any.field-0.0 c.args.bindings.now c.in-Any.conditions.items (rw c.deref-in-Any.ensures.value at c.in_err-any_holds-in-Any.ensures))

pub holds-returns-in_ok-all_hold-in-All : goal.holds-returns-in_ok-all_hold-in-All
holds-returns-in_ok-all_hold-in-All t c = λ v s.
    let is : condition_view c.args.self.now ≡ all_of (conditions_of (map condition_view c.in-All.conditions.items)) = search (rules, the_lemmas) in
    let each : (c.in_ok-all_hold-in-All.field-0 ≡ list_all (λ c. condition_holds v (condition_view c)) c.in-All.conditions.items) × (list_all (λ c. condition_narrow v (condition_view c)) c.in-All.conditions.items ≡ true)
    = rw c.deref-in-All.ensures.value at (c.in_ok-all_hold-in-All.ensures v s) in
    rw is (each.0 ∙ sym (all_hold-conditions_of v c.in-All.conditions.items), all_narrow-conditions_of v c.in-All.conditions.items ∙ each.1)

pub holds-returns-in_ok-any_holds-in-Any : goal.holds-returns-in_ok-any_holds-in-Any
holds-returns-in_ok-any_holds-in-Any t c = λ v s.
    let is : condition_view c.args.self.now ≡ any_of (conditions_of (map condition_view c.in-Any.conditions.items)) = search (rules, the_lemmas) in
    let each : (c.in_ok-any_holds-in-Any.field-0 ≡ list_any (λ c. condition_holds v (condition_view c)) c.in-Any.conditions.items) × (list_all (λ c. condition_narrow v (condition_view c)) c.in-Any.conditions.items ≡ true)
    = rw c.deref-in-Any.ensures.value at (c.in_ok-any_holds-in-Any.ensures v s) in
    rw is (each.0 ∙ sym (any_holds-conditions_of v c.in-Any.conditions.items), all_narrow-conditions_of v c.in-Any.conditions.items ∙ each.1)

pub holds-all_hold-requires : goal.holds-all_hold-requires
holds-all_hold-requires t c =
    let xs = bound_names c.args.bindings.now in
    let reads : condition_reads xs c.args.self.now ≡ list_all (λ b. b) (map (condition_reads xs) c.in-All.conditions.items) = search (rules, the_lemmas) in (
      first_of (search (arith, the_lemmas, c.decreases, c.deref-in-All.ensures.value, c.in-All.is), search (rules, the_lemmas)),
      subst (λ cs. list_all (condition_reads xs) cs ≡ true) (sym c.deref-in-All.ensures.value) (all_pass (condition_reads xs) c.in-All.conditions.items (sym reads ∙ c.requires)),
    )

pub holds-any_holds-requires : goal.holds-any_holds-requires
holds-any_holds-requires t c =
    let xs = bound_names c.args.bindings.now in
    let reads : condition_reads xs c.args.self.now ≡ list_all (λ b. b) (map (condition_reads xs) c.in-Any.conditions.items) = search (rules, the_lemmas) in (
      first_of (search (arith, the_lemmas, c.decreases, c.deref-in-Any.ensures.value, c.in-Any.is), search (rules, the_lemmas)),
      subst (λ cs. list_all (condition_reads xs) cs ≡ true) (sym c.deref-in-Any.ensures.value) (all_pass (condition_reads xs) c.in-Any.conditions.items (sym reads ∙ c.requires)),
    )
