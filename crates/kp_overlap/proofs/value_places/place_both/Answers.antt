use Rattle.std.proofs.Common.{rules, ◌≡◌, ap, map, None}
use Rattle.indexmap.specs.IndexMap.{get_by_text}
use Rattle.kp_kore.specs.Syntax.{Text}
use Rattle.kp_kore.specs.View.{sort_view}
use Rattle.kp_rules.specs.Skeletons.{skeleton_view}
use Rattle.kp_signature.specs.View.{signature_view}
use Rattle.kp_overlap.specs.Placing.{Places}
use Rattle.kp_overlap.specs.Views.{shape_view, placed_view, graph_view}
use Rattle.kp_overlap.specs.declared.graph.Graph.{Graph}
use Rattle.kp_overlap.proofs.PlaceForms.{both_placed}
use Rattle.kp_overlap.proofs.value_places.place_both.Goals as goal

pub returns : goal.returns
returns c =
    let x : Graph = record { shapes = c.new.result; sorts = c.new-2.result } in
    let before : Places = get_by_text c.new-names.result in
    let other : Places = get_by_text c.new-others.result in
    let none : (m : Text) → before m ≡ None = λ m. search rules in
    let empty : (m : Text) → other m ≡ None = λ m. search rules in
    both_placed (signature_view c.args.signature.now) (sort_view c.args.sort.now) (skeleton_view c.args.first.now) (skeleton_view c.args.second.now) (graph_view x) before
    (graph_view c.skeleton_place.new.graph) (get_by_text c.skeleton_place.new.names) (graph_view c.ask.new.self) other (graph_view c.skeleton_place-2.new.graph) (get_by_text c.skeleton_place-2.new.names) c.in_ok-first.first c.in_ok-second.second
    (ap (map shape_view) c.new.ensures.items) (ap (map placed_view) c.new-2.ensures.items) none c.in_ok-first.ensures c.in_ok-ask.ensures empty c.in_ok-second.ensures
