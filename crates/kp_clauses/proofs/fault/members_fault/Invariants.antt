use Rattle.std.proofs.Common.{◌≡◌, false, drop}
use Rattle.kp_signature.specs.View.{signature_view}
use Rattle.kp_compile.specs.Parts.{seen}
use Rattle.kp_clauses.specs.Faults.{members_fault}
use Rattle.kp_clauses.proofs.fault.members_fault.Given as goal

abbrev pub invariant-loop-i : goal.invariant-loop-i
invariant-loop-i l = members_fault (signature_view l.signature) false (seen l.members) ≡ members_fault (signature_view l.signature) l.seen (seen (drop l.i l.members))
