use Rattle.std.proofs.Common.{rules, arith, inl, inr, ◌≡◌, sym, subst, map, string_bytes}
use Rattle.std.proofs.lemmas.List.{take_all}
use Rattle.kp_kore.specs.Value.{whole, truth, token, constructed, no_values}
use Rattle.kp_kore.specs.View.{sort_view}
use Rattle.kp_ground.specs.View.{value_view, values_of}
use Rattle.kp_ground.specs.declared.value.Value.{the_lemmas}
use Rattle.kp_signature.specs.View.{signature_view}
use Rattle.kp_overlap.specs.Graphs.{IsLeafValue}
use Rattle.kp_overlap.specs.Placing.{PlacesValues}
use Rattle.kp_overlap.specs.Views.{graph_view}
use Rattle.kp_overlap.proofs.PlaceCode.{value_ok_leaf, value_ok_made, values_none, values_next}
use Rattle.kp_overlap.proofs.value_places.+value.Goals as goal

pub value_place-returns-in_ok-members-in-Constructed :
    goal.value_place-returns-in_ok-members-in-Constructed
value_place-returns-in_ok-members-in-Constructed t c =
    let g = signature_view c.args.signature.now in
    let f = string_bytes c.in-Constructed.constructor.value in
    let us = values_of (map value_view c.in-Constructed.arguments.value.items) in
    let seen : constructed f us ≡ value_view c.args.value.now = search (rules, the_lemmas, c.in-Constructed.is) in
    let all = rw (c.deref-in-Constructed.ensures.value, c.deref.ensures) at c.in_ok-members-in-Constructed.ensures in
    value_ok_made g (graph_view c.args.graph.now) (graph_view c.value_places.new.graph) (graph_view c.made_place.new.graph) f us (value_view c.args.value.now) c.in_ok-members-in-Constructed.members.items c.made_place.result
    all c.made_place.ensures seen

pub value_place-returns-in_ok-value-in-Whole : goal.value_place-returns-in_ok-value-in-Whole
value_place-returns-in_ok-value-in-Whole t c =
    let u = c.args.value.now in
    let leaf : IsLeafValue (value_view u) =
    elim c.in-Whole.is [
      | inl i ↦ let seen : value_view u ≡ whole i.0 = search (rules, the_lemmas, i.1) in subst IsLeafValue (sym seen) tt
      | inr others ↦ elim others [
        | inl i ↦ let seen : value_view u ≡ truth i.0 = search (rules, the_lemmas, i.1) in subst IsLeafValue (sym seen) tt
        | inr i ↦ let seen : value_view u ≡ token (sort_view i.0) (string_bytes i.1) = search (rules, the_lemmas, i.2) in subst IsLeafValue (sym seen) tt
      ]
    ]
    in
    value_ok_leaf (signature_view c.args.signature.now) (graph_view c.args.graph.now) (graph_view c.add.new.self) (value_view c.in_ok-value-in-Whole.value) (value_view c.args.value.now) c.add.result
    c.add.ensures.place c.add.ensures.graph c.in_ok-value-in-Whole.ensures leaf

pub value_places-loop-value-init : goal.value_places-loop-value-init
value_places-loop-value-init t c =
    let g = signature_view c.args.signature.now in
    let x = graph_view c.args.graph.now in
    subst (λ ns. PlacesValues g x x no_values ns) (sym c.new-places.ensures.items) (values_none g x)

pub value_places-loop-value-preserved : goal.value_places-loop-value-preserved
value_places-loop-value-preserved t c =
    let i = c.loop-value.value-index in
    values_next value_view (signature_view c.args.signature.now) (graph_view c.args.graph.now) (graph_view c.loop-value.graph) (graph_view c.value_place.new.graph) c.args.values.now i c.value-item.result
    c.loop-value.places.items c.push.new.self.items c.in_ok-value_place.field-0 (omega arith) c.value-item.is c.in_ok-push.ensures.items c.loop-value.invariant c.in_ok-value_place.ensures

pub value_places-returns : goal.value_places-returns
value_places-returns t c =
    let all = take_all c.loop-value.value-index c.args.values.now (omega arith) in
    subst (λ us. PlacesValues (signature_view c.args.signature.now) (graph_view c.args.graph.now) (graph_view c.loop-value.graph) (values_of (map value_view us)) c.loop-value.places.items) all c.loop-value.invariant
