use Rattle.std.proofs.Common.{◌≡◌, ◌++◌, [], map, drop}
use Rattle.kp_signature.specs.View.{signature_view}
use Rattle.kp_symbolic.specs.View.{clauses_view}
use Rattle.kp_implies.specs.Printed as model
use Rattle.kp_implies.specs.View.{matched_view}
use Rattle.kp_implies.proofs.matched.exchanged.Given as goal

abbrev pub invariant-loop-clause : goal.invariant-loop-clause
invariant-loop-clause l =
    clauses_view l.found.items ++ model.exchanged (signature_view l.signature) (map matched_view l.before.items) (clauses_view (drop l.clause-index l.clauses)) ≡ model.exchanged (signature_view l.signature) [] (clauses_view l.clauses)
