use Rattle.std.proofs.Common.{subst}
use Rattle.kp_implies.specs.Told.{IsUnanswered}
use Rattle.kp_methods.proofs.Implying.{not_told}
use Rattle.kp_methods.proofs.implies.unanswered.Goals as goal

pub returns-in-NoInjection : goal.returns-in-NoInjection
returns-in-NoInjection c = λ g p q x y h. not_told g p q c.not_answered.result x y (subst (IsUnanswered g) c.in-NoInjection.is h) c.not_answered.ensures
