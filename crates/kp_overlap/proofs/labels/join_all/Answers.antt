use Rattle.std.proofs.Common.{refl, []}
use Rattle.kp_overlap.proofs.LabelLemmas.{joined_both, waiting_joined}
use Rattle.kp_overlap.proofs.labels.join_all.Goals as goal

pub loop-pair-preserved : goal.loop-pair-preserved
loop-pair-preserved c =
    let xs = c.args.shapes.now in
    let now = c.loop-pair.classes in
    let next = c.join.new.classes in
    joined_both xs [] [] c.args.classes.now now next c.loop-pair.invariant
    (waiting_joined xs c.in-Some.pair now (record now { waiting = c.pop.new.self }) next refl refl c.in-Some.ensures.items c.in_ok-join-in-Some.ensures)
