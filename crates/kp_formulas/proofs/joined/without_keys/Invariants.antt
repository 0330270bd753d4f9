use Rattle.std.proofs.Common.{◌≡◌, ◌++◌}
use Rattle.kp_symbolic.specs.View.{clauses_view}
use Rattle.kp_formulas.specs.Keys.{clauses_with}
use Rattle.kp_formulas.proofs.joined.without_keys.Given as goal

abbrev pub invariant-loop-keyed : goal.invariant-loop-keyed
invariant-loop-keyed l = clauses_view l.clauses.items ++ clauses_with l.keyed-iterator.rest.items ≡ clauses_with l.fn.kept.items
