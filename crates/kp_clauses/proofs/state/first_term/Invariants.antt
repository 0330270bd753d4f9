use Rattle.std.proofs.Common.{◌≡◌, drop}
use Rattle.std.specs.List.{find}
use Rattle.kp_kore.specs.Parts.{is_term}
use Rattle.kp_compile.specs.Parts.{seen}
use Rattle.kp_clauses.proofs.state.first_term.Given as goal

abbrev pub invariant-loop-i : goal.invariant-loop-i
invariant-loop-i l = find is_term (seen l.members) ≡ find is_term (seen (drop l.i l.members))
