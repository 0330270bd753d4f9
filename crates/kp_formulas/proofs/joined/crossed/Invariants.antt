use Rattle.std.proofs.Common.{◌≡◌, ◌++◌, map, drop}
use Rattle.kp_symbolic.specs.Alike.{literals_same}
use Rattle.kp_symbolic.specs.Formulas.{crossed}
use Rattle.kp_symbolic.specs.View.{clauses_view}
use Rattle.kp_formulas.proofs.joined.crossed.Given as goal

abbrev pub invariant-loop-first : goal.invariant-loop-first
invariant-loop-first l =
    clauses_view l.found.items ++ crossed literals_same (clauses_view (drop l.first-index l.firsts)) (clauses_view l.seconds)
    ≡ crossed literals_same (clauses_view l.firsts) (clauses_view l.seconds)
