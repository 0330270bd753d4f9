use Rattle.std.proofs.Common.{◌≡◌, map, drop}
use Rattle.kp_implies.specs.Printed as model
use Rattle.kp_implies.specs.View.{matched_view}
use Rattle.kp_implies.proofs.matched.first_of.Given as goal

abbrev pub invariant-loop-first : goal.invariant-loop-first
invariant-loop-first l =
    model.first_of (map matched_view l.before) (matched_view l.next) ≡ model.first_of (map matched_view (drop l.first-index l.before)) (matched_view l.next)
