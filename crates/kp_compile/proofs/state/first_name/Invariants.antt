use Rattle.std.proofs.Common.{◌≡◌, drop}
use Rattle.kp_signature.specs.View.{signature_view}
use Rattle.kp_compile.proofs.GroundStates.{first_among}
use Rattle.kp_compile.proofs.state.first_name.Given as goal

abbrev pub invariant-loop-i : goal.invariant-loop-i
invariant-loop-i l = first_among (signature_view l.signature) l.parts ≡ first_among (signature_view l.signature) (drop l.i l.parts)
