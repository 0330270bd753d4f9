use Rattle.std.proofs.Common.{take}
use Rattle.kp_signature.specs.Edges.{Extended}
use Rattle.kp_signature.proofs.edges.add_all.Given as goal

abbrev pub invariant-loop-number : goal.invariant-loop-number
invariant-loop-number l = Extended l.fn.found.keys (take l.number-index l.numbers) l.found.keys
