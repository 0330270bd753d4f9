use Rattle.std.proofs.Common.{◌≡◌, ◌++◌, take, drop}
use Rattle.kp_signature.specs.View.{signature_view}
use Rattle.kp_symbolic.specs.Plain.{read_from, read_clauses}
use Rattle.kp_symbolic.specs.View as terms
use Rattle.kp_symbolic.specs.View.{state_view}
use Rattle.kp_literals.specs.Readings.{clauses_view}
use Rattle.kp_literals.specs.Unknowns.{AreReadOfKind}
use Rattle.kp_literals.proofs.clauses.read_clauses.Given as goal

abbrev pub invariant-loop-i : goal.invariant-loop-i
invariant-loop-i l =
    (clauses_view l.found.items ++ read_from (signature_view l.signature) (state_view l.state) (terms.clauses_view (take l.i l.clauses)) (terms.clauses_view (drop l.i l.clauses))
    ≡ read_clauses (signature_view l.signature) (state_view l.state))
    × AreReadOfKind (signature_view l.signature) l.found.items
