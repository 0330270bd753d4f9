use Rattle.kp_symbolic.specs.States.{IsLiteralTrue, IsClauseTrue}
use Rattle.kp_symbolic.specs.Alike.{literals_same}
use Rattle.kp_symbolic.proofs.AlikeLemmas.{literals_are}
use Rattle.kp_symbolic.proofs.Distribution.{clauses_say, kept_once_says}
use Rattle.kp_symbolic.proofs.Stable.{stable_literal}
use Rattle.kp_symbolic.proofs.laws.clauses_say_the_formula.Goals as goal

pub returns-clause-formula : goal.returns-clause-formula
returns-clause-formula c = λ g v f. clauses_say literals_same (IsLiteralTrue g v) literals_are (stable_literal g v) f

pub returns-clause-repeats : goal.returns-clause-repeats
returns-clause-repeats c = λ g v cs. kept_once_says literals_same (IsClauseTrue g v) literals_are cs
