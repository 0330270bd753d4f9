use Rattle.kp_kore.specs.Attributes.{sorts_equal}
use Rattle.kp_kore.specs.View.{sort_view}
use Rattle.std.proofs.Common.{◌≡◌}
use Rattle.kp_kore.proofs.SameLemmas.{sorts_equal-Decides}
use Rattle.kp_formulas.proofs.SameLemmas.{same_decision}
use Rattle.kp_formulas.proofs.equality.is_same_sort.Goals as goal

pub returns : goal.returns
returns c =
    let a = sort_view c.args.sort.now in
    let b = sort_view c.args.other.now in
    same_decision c.equal.result (sorts_equal a b) (a ≡ b) c.equal.ensures (sorts_equal-Decides a b)
