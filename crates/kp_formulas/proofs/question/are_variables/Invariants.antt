use Rattle.std.proofs.Common.{◌≡◌}
use Rattle.kp_formulas.proofs.QuestionLemmas.{from_place}
use Rattle.kp_formulas.proofs.question.are_variables.Given as goal

abbrev pub invariant-loop-i : goal.invariant-loop-i
invariant-loop-i l = from_place l.i l.bound l.sorts l.arguments ≡ from_place 0 l.bound l.sorts l.arguments
