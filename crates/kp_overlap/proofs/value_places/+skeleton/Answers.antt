use Rattle.std.proofs.Common.{rules, arith, ◌≡◌, map, string_bytes}
use Rattle.indexmap.specs.IndexMap.{get_by_text}
use Rattle.kp_kore.specs.View.{sort_view}
use Rattle.kp_ground.specs.View.{value_view}
use Rattle.kp_rules.specs.Skeletons.{skeleton_view, forms_of, anything, nothing, any_of, one_of, fixed, built}
use Rattle.kp_rules.specs.declared.skeleton.Skeleton.{the_lemmas}
use Rattle.kp_signature.specs.View.{signature_view}
use Rattle.kp_overlap.specs.Views.{graph_view}
use Rattle.kp_overlap.proofs.PlaceForms.{form_open, form_never, form_any, form_variable, form_fixed, form_built, forms_next}
use Rattle.kp_overlap.proofs.value_places.+skeleton.Goals as goal

pub skeleton_place-returns-in-Anything : goal.skeleton_place-returns-in-Anything
skeleton_place-returns-in-Anything t c =
    let k = skeleton_view c.args.skeleton.now in
    let seen : anything ≡ k = search (rules, the_lemmas, c.in-Anything.is) in
    form_open (signature_view c.args.signature.now) (graph_view c.args.graph.now) (graph_view c.add.new.self) (get_by_text c.args.names.now) k c.add.result seen c.add.ensures.place c.add.ensures.graph

pub skeleton_place-returns-in-Nothing : goal.skeleton_place-returns-in-Nothing
skeleton_place-returns-in-Nothing t c =
    let k = skeleton_view c.args.skeleton.now in
    let seen : nothing ≡ k = search (rules, the_lemmas, c.in-Nothing.is) in
    form_never (signature_view c.args.signature.now) (graph_view c.args.graph.now) (graph_view c.add-in-Nothing.new.self) (get_by_text c.args.names.now) k c.add-in-Nothing.result seen c.add-in-Nothing.ensures.place
    c.add-in-Nothing.ensures.graph

pub skeleton_place-returns-in-Any : goal.skeleton_place-returns-in-Any
skeleton_place-returns-in-Any t c =
    let k = skeleton_view c.args.skeleton.now in
    let s = sort_view c.in-Any.sort in
    let seen : any_of s ≡ k = search (rules, the_lemmas, c.in-Any.is) in
    form_any (signature_view c.args.signature.now) (graph_view c.args.graph.now) (graph_view c.sorted_place.new.graph) (get_by_text c.args.names.now) s k c.sorted_place.result seen c.sorted_place.ensures

pub skeleton_place-returns-in-Variable : goal.skeleton_place-returns-in-Variable
skeleton_place-returns-in-Variable t c =
    let k = skeleton_view c.args.skeleton.now in
    let x = string_bytes c.in-Variable.name.value in
    let s = sort_view c.in-Variable.sort in
    let seen : one_of x s ≡ k = search (rules, the_lemmas, c.in-Variable.is) in
    form_variable (signature_view c.args.signature.now) (graph_view c.args.graph.now) (get_by_text c.args.names.now) (graph_view c.sorted_variable_place.new.graph) (get_by_text c.sorted_variable_place.new.names) x s k
    c.sorted_variable_place.result seen c.sorted_variable_place.ensures

pub skeleton_place-returns-in-Fixed : goal.skeleton_place-returns-in-Fixed
skeleton_place-returns-in-Fixed t c =
    let k = skeleton_view c.args.skeleton.now in
    let w = value_view c.in-Fixed.value in
    let seen : fixed w ≡ k = search (rules, the_lemmas, c.in-Fixed.is) in
    form_fixed (signature_view c.args.signature.now) (graph_view c.args.graph.now) (graph_view c.value_place.new.graph) (get_by_text c.args.names.now) w k c.value_place.result seen c.value_place.ensures

pub skeleton_place-returns-in_ok-members-in-Built :
    goal.skeleton_place-returns-in_ok-members-in-Built
skeleton_place-returns-in_ok-members-in-Built t c =
    let k = skeleton_view c.args.skeleton.now in
    let f = string_bytes c.in-Built.constructor.value in
    let ks = forms_of (map skeleton_view c.in-Built.arguments.items) in
    let seen : built f ks ≡ k = search (rules, the_lemmas, c.in-Built.is) in
    let all = rw c.deref.ensures.value at c.in_ok-members-in-Built.ensures in
    form_built (signature_view c.args.signature.now) (graph_view c.args.graph.now) (get_by_text c.args.names.now) (graph_view c.skeleton_places.new.graph) (graph_view c.made_place.new.graph) (get_by_text c.skeleton_places.new.names) f ks k
    c.in_ok-members-in-Built.members.items c.made_place.result seen all c.made_place.ensures

pub skeleton_places-loop-skeleton-preserved : goal.skeleton_places-loop-skeleton-preserved
skeleton_places-loop-skeleton-preserved t c =
    let i = c.loop-skeleton.skeleton-index in
    forms_next skeleton_view (signature_view c.args.signature.now) (graph_view c.args.graph.now) (get_by_text c.args.names.now) (graph_view c.loop-skeleton.graph) (get_by_text c.loop-skeleton.names)
    (graph_view c.skeleton_place.new.graph) (get_by_text c.skeleton_place.new.names) c.args.skeletons.now i c.skeleton-item.result c.loop-skeleton.places.items c.push.new.self.items c.in_ok-skeleton_place.field-0
    (omega arith) c.skeleton-item.is c.in_ok-push.ensures.items c.loop-skeleton.invariant c.in_ok-skeleton_place.ensures
