use Rattle.std.proofs.Common.{rules, ◌≡◌, ◌∙◌, sym, ap, subst, cond, string_bytes, Some, None}
use Rattle.std.specs.Str.{bytes_eq}
use Rattle.std.proofs.lemmas.Map.Text.{hash_map_updates_text}
use Rattle.indexmap.specs.IndexMap.{get_by_text}
use Rattle.kp_kore.specs.Syntax.{Text}
use Rattle.kp_overlap.specs.Views.{graph_view}
use Rattle.kp_overlap.proofs.PlaceSteps.{one_found}
use Rattle.kp_overlap.proofs.PlaceCode.{variable_new}
use Rattle.kp_overlap.proofs.value_places.variable_place.Goals as goal

pub returns-in-Some : goal.returns-in-Some
returns-in-Some c = λ g px.
    let name : c.as_str.result.now ≡ string_bytes c.args.name.now.value = search rules in
    let found : get_by_text c.args.names.now (string_bytes c.args.name.now.value) ≡ Some c.in-Some.place.now = ap (get_by_text c.args.names.now) (sym name) ∙ sym c.in-Some.ensures.value in
    one_found g (graph_view c.args.graph.now) (get_by_text c.args.names.now) (string_bytes c.args.name.now.value) c.in-Some.place.now px found

pub returns-in_ok-insert-in-None : goal.returns-in_ok-insert-in-None
returns-in_ok-insert-in-None c = λ g.
    let x = string_bytes c.args.name.now.value in
    let n = c.in_ok-place-in-None.place in
    let name : c.as_str.result.now ≡ x = search rules in
    let same : string_bytes c.in_ok-clone-in-None.field-0 ≡ x = search rules in
    let none : None ≡ get_by_text c.args.names.now x = c.in-None.ensures.value ∙ ap (get_by_text c.args.names.now) name in
    variable_new g (graph_view c.args.graph.now) (graph_view c.add.new.self) (get_by_text c.args.names.now) (get_by_text c.insert.new.self) x n c.in_ok-place-in-None.ensures.place c.in_ok-place-in-None.ensures.graph none
    (subst (λ bs. (m : Text) → get_by_text c.insert.new.self m ≡ cond (bytes_eq bs m) (Some n) (get_by_text c.args.names.now m)) same
    (hash_map_updates_text (string_bytes c.in_ok-clone-in-None.field-0) c.args.names.now c.insert.new.self (Some n) c.in_ok-insert-in-None.ensures.updates))
