use Rattle.std.proofs.Common.{sym, subst}
use Rattle.kp_symbolic.specs.Endings.{answered}
use Rattle.kp_methods.specs.ImpliedLines.{IsAnswerOf}
use Rattle.kp_methods.proofs.implies.vacuous_line.Goals as goal

pub returns : goal.returns
returns c = λ g a b h. c.result_line.ensures g a b (subst (λ r. IsAnswerOf g a b (answered r)) (sym c.in_ok-implied.ensures) h)
