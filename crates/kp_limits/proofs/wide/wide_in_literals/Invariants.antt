use Rattle.kp_signature.specs.View.{signature_view}
use Rattle.kp_limits.proofs.WideLemmas.{LiteralsLeft}
use Rattle.kp_limits.proofs.wide.wide_in_literals.Given as goal

abbrev pub invariant-loop-literal : goal.invariant-loop-literal
invariant-loop-literal l = LiteralsLeft (signature_view l.signature) l.literals l.literal-index
