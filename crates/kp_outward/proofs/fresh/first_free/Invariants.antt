use Rattle.std.proofs.Common.{◌≡◌, List, length}
use Rattle.kp_kore.specs.Syntax.{Text}
use Rattle.kp_names.specs.Met.{Lists}
use Rattle.kp_outward.proofs.FreshLemmas.{Leaves}
use Rattle.kp_outward.proofs.fresh.first_free.Given as goal

abbrev pub invariant-loop-before : goal.invariant-loop-before
invariant-loop-before l = (used : List Text) → Lists used l.names → l.count ≡ length used → Leaves l.count l.before used
