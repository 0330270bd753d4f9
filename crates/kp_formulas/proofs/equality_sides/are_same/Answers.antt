use Rattle.std.proofs.Common.{◌≡◌}
use Rattle.kp_symbolic.specs.Alike.{terms_same}
use Rattle.kp_symbolic.specs.View.{term_view}
use Rattle.kp_formulas.proofs.SameLemmas.{same_decision, terms_same-Decides}
use Rattle.kp_formulas.proofs.equality_sides.are_same.Goals as goal

pub returns : goal.returns
returns c =
    let a = term_view c.args.left.now in
    let b = term_view c.args.right.now in
    same_decision c.same.result (terms_same a b) (a ≡ b) c.same.ensures (terms_same-Decides a b)
