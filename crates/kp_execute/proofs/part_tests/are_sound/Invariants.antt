use Rattle.std.proofs.Common.{map, take}
use Rattle.kp_signature.specs.View.{signature_view}
use Rattle.kp_symbolic.specs.View.{literal_view}
use Rattle.kp_execute.specs.Checks.{AreSound}
use Rattle.kp_execute.proofs.part_tests.are_sound.Given as goal

abbrev pub invariant-loop-literal : goal.invariant-loop-literal
invariant-loop-literal l = AreSound (signature_view l.signature) (map literal_view (take l.literal-index l.literals))
