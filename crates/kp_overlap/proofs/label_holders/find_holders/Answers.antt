use Rattle.std.proofs.Common.{◌≤◌, map, subst, sym, ℕ}
use Rattle.std.proofs.lemmas.List.{length-map}
use Rattle.kp_overlap.specs.Graphs.{IsAt, Shape, HasShape}
use Rattle.kp_overlap.specs.Views.{shape_view}
use Rattle.kp_overlap.proofs.HolderLemmas.{shapes_fit, all_held}
use Rattle.kp_overlap.proofs.label_holders.find_holders.Goals as goal

pub returns-in-Clash : goal.returns-in-Clash
returns-in-Clash c = λ g x i j e graph labels solution.
    let xs = map shape_view c.args.shapes.now in
    let a = solution.0 in
    let fit = shapes_fit g x xs c.args.labels.now e graph labels.long in
    let shapes = subst (λ ss. (n : ℕ) (s : Shape) → IsAt ss n s → HasShape a s (a n)) e solution.1.solves.shapes in
    c.in-Clash.ensures a fit (c.loop-place.invariant fit) shapes (labels.follow a solution.1)

pub returns : goal.returns
returns c = λ g x i j e graph labels.
    let xs = map shape_view c.args.shapes.now in
    let fit = shapes_fit g x xs c.args.labels.now e graph labels.long in
    all_held x xs c.args.labels.now c.loop-place.holders.items c.loop-place.place e (subst (λ n. n ≤ c.loop-place.place) (sym (length-map c.args.shapes.now shape_view)) c.loop-place-test.false) (c.loop-place.invariant fit)
