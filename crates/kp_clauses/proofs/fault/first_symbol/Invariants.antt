use Rattle.std.proofs.Common.{◌≡◌, drop}
use Rattle.kp_signature.specs.View.{signature_view}
use Rattle.kp_compile.specs.Parts.{seen}
use Rattle.kp_clauses.specs.Faults.{first_among, symbol_fault}
use Rattle.kp_clauses.proofs.fault.first_symbol.Given as goal

abbrev pub invariant-loop-i : goal.invariant-loop-i
invariant-loop-i l = first_among (symbol_fault (signature_view l.signature)) (seen l.parts) ≡ first_among (symbol_fault (signature_view l.signature)) (seen (drop l.i l.parts))
