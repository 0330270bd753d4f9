use Rattle.std.proofs.Common.{◌≡◌}
use Rattle.kp_symbolic.specs.Alike.{literals_same}
use Rattle.kp_symbolic.specs.View.{literal_view}
use Rattle.kp_formulas.proofs.SameLemmas.{same_decision}
use Rattle.kp_formulas.proofs.AlikeItself.{literals_same-Decides}
use Rattle.kp_formulas.proofs.joined.is_same.Goals as goal

pub returns : goal.returns
returns c =
    let a = literal_view c.args.literal.now in
    let b = literal_view c.args.other.now in
    same_decision c.same.result (literals_same a b) (a ≡ b) c.same.ensures (literals_same-Decides a b)
