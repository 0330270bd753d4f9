use Rattle.std.proofs.Common.{◌≡◌, length}
use Rattle.kp_signature.specs.View.{signature_view}
use Rattle.kp_sort_heads.specs.Views.{left_of}
use Rattle.kp_symbolic.specs.View.{variable_view}
use Rattle.kp_literals.specs.Readings.{clauses_view}
use Rattle.kp_satisfiability.proofs.HeadSearch.{IsSearched}
use Rattle.kp_satisfiability.proofs.heads.has_head.Given as goal

abbrev pub invariant-loop-head : goal.invariant-loop-head
invariant-loop-head l = IsSearched (signature_view l.signature) (variable_view l.variable) (clauses_view l.clauses) (left_of l.left) × (l.left.signature.now ≡ l.signature)

abbrev pub decreases-loop-head : goal.decreases-loop-head
decreases-loop-head l = length (left_of l.left)
