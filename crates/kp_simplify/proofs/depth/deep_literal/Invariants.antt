use Rattle.kp_symbolic.specs.Languages.{language_view}
use Rattle.kp_simplify.proofs.FirstDeep.{LiteralsLeft}
use Rattle.kp_simplify.proofs.depth.deep_literal.Given as goal

abbrev pub invariant-loop-literal : goal.invariant-loop-literal
invariant-loop-literal l = LiteralsLeft (language_view l.language) l.literals l.literal-index
