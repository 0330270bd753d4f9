use Rattle.std.proofs.Common.{◌≡◌, drop}
use Rattle.kp_symbolic.specs.View.{clauses_view}
use Rattle.kp_literals.specs.Names.{is_named_in}
use Rattle.kp_literals.proofs.names.clauses_have_name.Given as goal

abbrev pub invariant-loop-clause : goal.invariant-loop-clause
invariant-loop-clause l = is_named_in l.name (clauses_view l.clauses) ≡ is_named_in l.name (clauses_view (drop l.clause-index l.clauses))
