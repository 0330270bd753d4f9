use Rattle.std.proofs.Common.{rules, ◌<◌, ◌≤◌, sym, subst, length, map}
use Rattle.kp_signature.specs.Edges.{edges_of}
use Rattle.kp_overlap.specs.Views.{placed_view}
use Rattle.kp_overlap.specs.Sorted.{IsGrouped}
use Rattle.kp_overlap.specs.declared.graph.PlacedSort.{PlacedSort}
use Rattle.kp_overlap.proofs.SortLemmas.{groups_none, groups_more, groups_all}
use Rattle.kp_overlap.proofs.sorts.groups.Goals as goal

pub loop-number-init : goal.loop-number-init
loop-number-init c = groups_none c.args.labels.now (map placed_view c.args.sorts.now) c.in_ok-groups.groups.items c.in_ok-groups.ensures

pub loop-number-preserved : goal.loop-number-preserved
loop-number-preserved c =
    let short : c.loop-number.number < length c.args.sorts.now = search rules in
    groups_more c.args.labels.now c.args.sorts.now c.loop-number.number (edges_of c.loop-number.groups.items) (edges_of c.add_to_group.new.groups.items) c.index-sorts-number.result short c.index-sorts-number.is c.loop-number.invariant
    (subst (λ (r : PlacedSort). IsGrouped c.args.labels.now r.place c.loop-number.number (edges_of c.loop-number.groups.items) (edges_of c.add_to_group.new.groups.items)) (sym c.index-sorts-number.is) c.in_ok-add_to_group.ensures)

pub returns : goal.returns
returns c =
    let past : length c.args.sorts.now ≤ c.loop-number.number = search rules in
    groups_all c.args.labels.now c.args.sorts.now c.loop-number.number (edges_of c.loop-number.groups.items) past c.loop-number.invariant
