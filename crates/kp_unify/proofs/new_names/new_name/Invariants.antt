use Rattle.std.proofs.Common.{◌≤◌, List}
use Rattle.kp_kore.specs.Syntax.{Text}
use Rattle.kp_names.specs.Met.{Lists}
use Rattle.kp_unify.proofs.NameLemmas.{AreUsedBetween}
use Rattle.kp_unify.proofs.new_names.new_name.Given as goal

abbrev pub invariant-loop-number : goal.invariant-loop-number
invariant-loop-number l = (l.next ≤ l.number) × ((used : List Text) → Lists used l.met → AreUsedBetween used l.next l.number)
