use Rattle.std.proofs.Common.{◌≡◌, drop}
use Rattle.kp_compile.proofs.SpelledParts.{are_others}
use Rattle.kp_compile.proofs.spelling.are_others.Given as goal

abbrev pub invariant-loop-part : goal.invariant-loop-part
invariant-loop-part l = are_others l.parts ≡ are_others (drop l.part-index l.parts)
