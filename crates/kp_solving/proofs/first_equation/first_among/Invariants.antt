use Rattle.std.proofs.Common.{◌≡◌, []}
use Rattle.kp_signature.specs.View.{signature_view}
use Rattle.kp_symbolic.specs.Solving.{first_solvable_among}
use Rattle.kp_symbolic.specs.View.{clauses_view, state_view}
use Rattle.kp_solving.proofs.FirstLemmas.{first_from}
use Rattle.kp_solving.proofs.first_equation.first_among.Given as goal

abbrev pub invariant-loop-i : goal.invariant-loop-i
invariant-loop-i l = first_from (signature_view l.signature) (state_view l.state) l.clauses l.i ≡ first_solvable_among (signature_view l.signature) (state_view l.state) [] (clauses_view l.clauses)
