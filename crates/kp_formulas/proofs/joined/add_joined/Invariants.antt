use Rattle.std.proofs.Common.{◌≡◌, ◌++◌, map, drop}
use Rattle.kp_symbolic.specs.Alike.{literals_same}
use Rattle.kp_symbolic.specs.Formulas.{joined}
use Rattle.kp_symbolic.specs.View.{clause_view, clauses_view}
use Rattle.kp_formulas.proofs.joined.add_joined.Given as goal

abbrev pub invariant-loop-other : goal.invariant-loop-other
invariant-loop-other l =
    clauses_view l.found.items ++ map (joined literals_same (clause_view l.first)) (clauses_view (drop l.other-index l.others))
    ≡ clauses_view l.fn.found.items ++ map (joined literals_same (clause_view l.first)) (clauses_view l.others)
