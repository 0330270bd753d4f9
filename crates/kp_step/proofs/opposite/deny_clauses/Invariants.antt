use Rattle.std.proofs.Common.{◌≡◌, ◌++◌, map, drop}
use Rattle.kp_signature.specs.View.{signature_view}
use Rattle.kp_symbolic.specs.Clauses.{denied_clauses}
use Rattle.kp_symbolic.specs.View.{clauses_view}
use Rattle.kp_formulas.specs.Distribution.{distributions_of}
use Rattle.kp_formulas.specs.DistributionView.{distributed_view}
use Rattle.kp_step.proofs.opposite.deny_clauses.Given as goal

abbrev pub invariant-loop-clause : goal.invariant-loop-clause
invariant-loop-clause l =
    map distributed_view l.found.items ++ distributions_of (denied_clauses (signature_view l.signature) (clauses_view (drop l.clause-index l.clauses)))
    ≡ distributions_of (denied_clauses (signature_view l.signature) (clauses_view l.clauses))
