use Rattle.std.proofs.Common.{◌≡◌, sym, ◌∙◌, Some}
use Rattle.kp_signature.specs.Names.{first_place}
use Rattle.kp_imports.specs.Names.{module_names}
use Rattle.kp_modules.proofs.Kept.{not_reached, walked}
use Rattle.kp_modules.proofs.table.ModuleTable.places_of.Goals as goal

pub order_from-requires-clause-start : goal.order_from-requires-clause-start
order_from-requires-clause-start c = c.in_ok-places.ensures.below c.args.name.now c.in-Some.place.now (sym c.in-Some.ensures.value)

pub returns-in-Some : goal.returns-in-Some
returns-in-Some c d main keeps =
    let rows = c.as_slice-modules.result.now in
    let at : first_place c.args.name.now (module_names rows) ≡ Some c.in-Some.place.now = sym (c.in-Some.ensures.value ∙ c.in_ok-places.ensures.index c.args.name.now) in
    walked d main c.args.name.now c.args.self.now rows c.in-Some.place.now c.order_from.result keeps c.as_slice-modules.ensures.value at
    (c.order_from.ensures c.args.name.now c.in_ok-places.ensures.index at)

pub returns : goal.returns
returns c d main keeps =
    let rows = c.as_slice-modules.result.now in
    not_reached d main c.args.name.now c.args.self.now rows keeps c.as_slice-modules.ensures.value (sym (c.in-None.ensures.value ∙ c.in_ok-places.ensures.index c.args.name.now))
