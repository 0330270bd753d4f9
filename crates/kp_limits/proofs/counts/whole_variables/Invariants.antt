use Rattle.std.proofs.Common.{◌-◌, length}
use Rattle.kp_signature.specs.View.{signature_view}
use Rattle.kp_limits.proofs.NameLemmas.{Counts}
use Rattle.kp_limits.proofs.NameCounts.{names_from}
use Rattle.kp_limits.proofs.counts.whole_variables.Given as goal

abbrev pub invariant-loop-i : goal.invariant-loop-i
invariant-loop-i l = Counts l.later (names_from (signature_view l.signature) l.variables (length l.variables - l.i))
