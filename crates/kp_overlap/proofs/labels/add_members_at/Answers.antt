use Rattle.std.proofs.Common.{sym, subst, arith}
use Rattle.kp_overlap.specs.Graphs.{HasShape}
use Rattle.kp_overlap.specs.Views.{shape_view}
use Rattle.kp_overlap.proofs.LabelLemmas.{shape_here}
use Rattle.kp_overlap.proofs.labels.add_members_at.Goals as goal

pub returns-then-second-shapes : goal.returns-then-second-shapes
returns-then-second-shapes c = λ a h e o.
    let xs = c.args.shapes.now in
    let i = c.args.first in
    let j = c.args.second in
    let s = c.index-shapes-first.result in
    let t = c.index-shapes-second.result in
    c.add_members.ensures a (a i) (shape_here a xs i s h (omega arith) c.index-shapes-first.is)
    (subst (λ u. HasShape a (shape_view t) u) (sym e) (shape_here a xs j t h (omega arith) c.index-shapes-second.is)) o
