use Rattle.std.proofs.Common.{◌≡◌, ◌++◌, false, map, drop}
use Rattle.kp_signature.specs.View.{signature_view}
use Rattle.kp_symbolic.specs.Clauses.{opened_literals}
use Rattle.kp_symbolic.specs.View.{literal_view}
use Rattle.kp_formulas.specs.Distribution.{distributions_of}
use Rattle.kp_formulas.specs.DistributionView.{distributed_view}
use Rattle.kp_step.proofs.opposite.deny_literals.Given as goal

abbrev pub invariant-loop-literal : goal.invariant-loop-literal
invariant-loop-literal l =
    map distributed_view l.found.items ++ distributions_of (opened_literals (signature_view l.signature) false false (map literal_view (drop l.literal-index l.literals)))
    ≡ distributions_of (opened_literals (signature_view l.signature) false false (map literal_view l.literals))
