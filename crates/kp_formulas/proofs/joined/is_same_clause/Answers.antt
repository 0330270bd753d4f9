use Rattle.std.proofs.Common.{◌≡◌}
use Rattle.kp_symbolic.specs.Alike.{literals_same}
use Rattle.kp_symbolic.specs.Formulas.{clauses_same}
use Rattle.kp_symbolic.specs.View.{clause_view}
use Rattle.kp_formulas.proofs.SameLemmas.{same_decision}
use Rattle.kp_formulas.proofs.AlikeItself.{clauses_same-Decides}
use Rattle.kp_formulas.proofs.joined.is_same_clause.Goals as goal

pub returns : goal.returns
returns c =
    let a = clause_view c.args.clause.now in
    let b = clause_view c.args.other.now in
    same_decision c.same.result (clauses_same literals_same a b) (a ≡ b) c.same.ensures (clauses_same-Decides a b)
