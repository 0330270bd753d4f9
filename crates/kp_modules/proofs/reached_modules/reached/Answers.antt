use Rattle.std.proofs.Common.{◌≡◌, sym, subst, ◌∙◌, ◌<◌, length, map, slice_get, Some, None}
use Rattle.std.specs.List.{AllByRecursion, filter_map}
use Rattle.kp_kore.specs.Syntax.{Text}
use Rattle.kp_kore.specs.View.{module_view, definition_view}
use Rattle.kp_signature.specs.Names.{first_place}
use Rattle.kp_kore.specs.Theory.{module_named, names_reached}
use Rattle.kp_imports.specs.Walks.{IsLaidOut, IsOver}
use Rattle.kp_imports.specs.Faults.{IsImportFault, IsFirstFault, IsUnknown, TellsFirst, duplicate_module, no_main_module, unknown_import}
use Rattle.kp_imports.specs.Names.{AreOnce, IsFirstRepeated, module_names, names_of}
use Rattle.kp_imports.proofs.Acyclic.{found_named, no_import_fault}
use Rattle.kp_imports.proofs.Chains.{exit, no_name}
use Rattle.kp_modules.proofs.Firsts.{first_of_modules, first_of_main, first_of_imports, first_of_cycles}
use Rattle.kp_modules.proofs.Outlined.{laid_out}
use Rattle.kp_imports.proofs.Seen.{all_seen}
use Rattle.kp_imports.proofs.Walking.{some_same}
use Rattle.kp_modules.proofs.reached_modules.reached.Goals as goal

pub check_imports-requires-clause-start : goal.check_imports-requires-clause-start
check_imports-requires-clause-start c = c.in_ok-places.ensures.below c.args.main.now c.in-Some.place.now (sym c.in-Some.ensures.value)

pub places_in_order-requires-clause-start : goal.places_in_order-requires-clause-start
places_in_order-requires-clause-start c = c.in_ok-places.ensures.below c.args.main.now c.in-Some.place.now (sym c.in-Some.ensures.value)

pub modules_at-requires : goal.modules_at-requires
modules_at-requires c = subst (λ xs. AllByRecursion (λ p. p < length c.as_slice-modules.result.now) xs) (sym c.as_slice.ensures.value) c.in_ok-order.ensures.within

pub returns-in_err-check_names-clause-err : goal.returns-in_err-check_names-clause-err
returns-in_err-check_names-clause-err c =
    let d = definition_view c.args.definition.now in
    let main = c.args.main.now in
    exit c.from_residual.result (TellsFirst d main) c.in_err-check_names.field-0.0 c.from_residual.ensures
    (λ f h. first_of_modules d main f
    (subst (λ ms. (n : Text) × (f ≡ duplicate_module n) × IsFirstRepeated n (names_of (map module_view ms))) c.as_slice-modules.ensures.value (c.in_err-check_names.ensures.err f h)))

pub returns-in-None-clause-err : goal.returns-in-None-clause-err
returns-in-None-clause-err c f e =
    let d = definition_view c.args.definition.now in
    let main = c.args.main.now in
    let rows = c.as_slice-modules.result.now in
    let none : module_named (map module_view rows) main ≡ None = no_name rows main (sym (c.in-None.ensures.value ∙ c.in_ok-places.ensures.index main)) in
    subst (IsFirstFault d main) (some_same no_main_module f e)
    (first_of_main d main (subst (λ ms. AreOnce (names_of (map module_view ms))) c.as_slice-modules.ensures.value c.in_ok-check_names.ensures.ok)
    (subst (λ ms. module_named (map module_view ms) main ≡ None) c.as_slice-modules.ensures.value none))

pub returns-in_err-check_imports-clause-err : goal.returns-in_err-check_imports-clause-err
returns-in_err-check_imports-clause-err c =
    let d = definition_view c.args.definition.now in
    let main = c.args.main.now in
    let rows = c.as_slice-modules.result.now in
    let at : first_place main (module_names rows) ≡ Some c.in-Some.place.now = sym (c.in-Some.ensures.value ∙ c.in_ok-places.ensures.index main) in
    exit c.from_residual-in_err-check_imports.result (TellsFirst d main) c.in_err-check_imports.field-0.0 c.from_residual-in_err-check_imports.ensures
    (λ f h. first_of_imports d main (subst (λ ms. AreOnce (names_of (map module_view ms))) c.as_slice-modules.ensures.value c.in_ok-check_names.ensures.ok)
    (λ none. found_named (map module_view rows) main c.in-Some.place.now at (subst (λ ms. module_named (map module_view ms) main ≡ None) (sym c.as_slice-modules.ensures.value) none)) f
    (subst (λ ms. (n : Text) × (f ≡ unknown_import n) × IsUnknown (map module_view ms) main n) c.as_slice-modules.ensures.value
    (c.in_err-check_imports.ensures.err main c.in_ok-places.ensures.index at f h)))

pub returns-in_err-order-clause-err : goal.returns-in_err-order-clause-err
returns-in_err-order-clause-err c =
    let d = definition_view c.args.definition.now in
    let main = c.args.main.now in
    let rows = c.as_slice-modules.result.now in
    let at : first_place main (module_names rows) ≡ Some c.in-Some.place.now = sym (c.in-Some.ensures.value ∙ c.in_ok-places.ensures.index main) in
    exit c.from_residual-in_err-order.result (TellsFirst d main) c.in_err-order.field-0.0 c.from_residual-in_err-order.ensures
    (λ f h. first_of_cycles d main (subst (λ ms. AreOnce (names_of (map module_view ms))) c.as_slice-modules.ensures.value c.in_ok-check_names.ensures.ok)
    (λ none. found_named (map module_view rows) main c.in-Some.place.now at (subst (λ ms. module_named (map module_view ms) main ≡ None) (sym c.as_slice-modules.ensures.value) none))
    (subst (λ ms. (n : Text) → ¬ IsUnknown (map module_view ms) main n) c.as_slice-modules.ensures.value (c.in_ok-check_imports.ensures.known main c.in_ok-places.ensures.index at)) f
    (subst (λ ms. IsImportFault (map module_view ms) main f) c.as_slice-modules.ensures.value (c.in_err-order.ensures.err main c.in_ok-places.ensures.index at f h)))

pub returns-clause-ok : goal.returns-clause-ok
returns-clause-ok c =
    let rows = c.as_slice-modules.result.now in
    let over : IsOver rows c.args.main.now c.in_ok-order.order.items = c.in_ok-order.ensures.order c.args.main.now c.in_ok-places.ensures.index (sym (c.in-Some.ensures.value ∙ c.in_ok-places.ensures.index c.args.main.now)) in
    let found = c.in_ok-modules_at.field-0.items in
    let at : map (λ m. Some m.now) found ≡ map (λ p. slice_get rows p) c.in_ok-order.order.items = subst (λ l. map (λ m. Some m.now) found ≡ map (λ p. slice_get rows p) l) c.as_slice.ensures.value c.in_ok-modules_at.ensures in
    subst (λ ms. map (λ m. module_view m.now) found ≡ filter_map (module_named (map module_view ms)) (names_reached (length (map module_view ms)) (map module_view ms) c.args.main.now)) c.as_slice-modules.ensures.value
    (all_seen rows c.args.main.now c.in_ok-order.order.items found over at)

pub returns-clause-once : goal.returns-clause-once
returns-clause-once c = subst (λ ms. AreOnce (names_of (map module_view ms))) c.as_slice-modules.ensures.value c.in_ok-check_names.ensures.ok

pub returns-clause-main : goal.returns-clause-main
returns-clause-main c h =
    found_named (map module_view c.as_slice-modules.result.now) c.args.main.now c.in-Some.place.now (sym (c.in-Some.ensures.value ∙ c.in_ok-places.ensures.index c.args.main.now))
    (subst (λ ms. module_named (map module_view ms) c.args.main.now ≡ None) (sym c.as_slice-modules.ensures.value) h)

pub returns-clause-none : goal.returns-clause-none
returns-clause-none c f h =
    let rows = c.as_slice-modules.result.now in
    let over : IsOver rows c.args.main.now c.in_ok-order.order.items = c.in_ok-order.ensures.order c.args.main.now c.in_ok-places.ensures.index (sym (c.in-Some.ensures.value ∙ c.in_ok-places.ensures.index c.args.main.now)) in
    no_import_fault rows c.args.main.now c.in_ok-order.order.items over f (subst (λ ms. IsImportFault (map module_view ms) c.args.main.now f) (sym c.as_slice-modules.ensures.value) h)

pub returns-clause-laid : goal.returns-clause-laid
returns-clause-laid c =
    let rows = c.as_slice-modules.result.now in
    let over : IsOver rows c.args.main.now c.in_ok-order.order.items = c.in_ok-order.ensures.order c.args.main.now c.in_ok-places.ensures.index (sym (c.in-Some.ensures.value ∙ c.in_ok-places.ensures.index c.args.main.now)) in
    subst (λ ms. IsLaidOut (map module_view ms) (names_reached (length (map module_view ms)) (map module_view ms) c.args.main.now)) c.as_slice-modules.ensures.value
    (laid_out rows c.args.main.now c.in_ok-order.order.items over)
