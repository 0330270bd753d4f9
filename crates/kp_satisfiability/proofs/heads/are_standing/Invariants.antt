use Rattle.std.proofs.Common.{map, take}
use Rattle.std.specs.List.{AllByRecursion}
use Rattle.kp_signature.specs.View.{signature_view}
use Rattle.kp_literals.specs.Readings.{read_view, clauses_view}
use Rattle.kp_satisfiability.specs.Heads.{IsStanding}
use Rattle.kp_satisfiability.proofs.heads.are_standing.Given as goal

abbrev pub invariant-loop-literal : goal.invariant-loop-literal
invariant-loop-literal l =
    AllByRecursion (AllByRecursion (λ r. IsStanding (signature_view l.signature) (clauses_view l.clauses) r.form)) (clauses_view l.before)
    → AllByRecursion (λ r. IsStanding (signature_view l.signature) (clauses_view l.clauses) r.form) (map read_view (take l.literal-index l.clause))
