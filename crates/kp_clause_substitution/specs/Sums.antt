-- Sums of variables and constants in literals, which terms in the variables' places are added to.
use Rattle.std.specs.Prelude.{⊤}
use Rattle.std.specs.List.{AllByRecursion}
use Rattle.kp_kore.specs.Signature.{KoreSignature}
use Rattle.kp_symbolic.specs.Folding.{AreWritten}
use Rattle.kp_symbolic.specs.States.{Atom, same, has_head, quoted}

-- each sum in the literal's terms can be written
abbrev pub HasWrittenSums : KoreSignature → Atom → Type 0
HasWrittenSums g (same s t u) = AreWritten g t × AreWritten g u
HasWrittenSums g (has_head x test) = ⊤
HasWrittenSums g (quoted p rs) = AllByRecursion (λ r. AreWritten g r.term) rs
