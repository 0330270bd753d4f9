use Rattle.std.proofs.Common.{◌≡◌, drop}
use Rattle.kp_formulas.specs.Keys.{with_text}
use Rattle.kp_formulas.proofs.keyed.with_text.Given as goal

abbrev pub invariant-loop-byte : goal.invariant-loop-byte
invariant-loop-byte l = with_text l.mixed (drop l.byte-index l.text) ≡ with_text l.key l.text
