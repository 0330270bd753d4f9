use Rattle.std.proofs.Common.{◌≡◌, drop, string_bytes}
use Rattle.kp_signature.specs.View.{signature_view}
use Rattle.kp_sort_heads.specs.Views.{head_view}
use Rattle.kp_literals.specs.Readings.{clauses_view}
use Rattle.kp_satisfiability.specs.Heads.{agrees_with_all}
use Rattle.kp_satisfiability.proofs.heads.agrees_with_all.Given as goal

abbrev pub invariant-loop-clause : goal.invariant-loop-clause
invariant-loop-clause l =
    agrees_with_all (signature_view l.signature) (head_view l.head) (string_bytes l.variable.name) (clauses_view l.clauses)
    ≡ agrees_with_all (signature_view l.signature) (head_view l.head) (string_bytes l.variable.name) (clauses_view (drop l.clause-index l.clauses))
