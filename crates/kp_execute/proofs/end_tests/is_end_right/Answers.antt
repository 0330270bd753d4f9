use Rattle.std.proofs.Common.{subst, sym}
use Rattle.kp_execute.proofs.TestedLemmas.{one_told}
use Rattle.kp_symbolic.specs.Languages.{language_view}
use Rattle.kp_execute.specs.Told.{IsToldEnd}
use Rattle.kp_execute.proofs.end_tests.is_end_right.Goals as goal

pub returns-in-CutPoint : goal.returns-in-CutPoint
returns-in-CutPoint c = λ t same right. subst (IsToldEnd t) (sym c.in-CutPoint.is) (one_told t (language_view c.args.language.now) c.in-CutPoint.next same (c.is_added_right.ensures right))
