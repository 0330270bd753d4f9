use Rattle.std.proofs.Common.{sym, subst}
use Rattle.kp_literals.specs.Readings.{clauses_view}
use Rattle.kp_limits.specs.Told.{weight_view, TellsWeight}
use Rattle.kp_limits.proofs.OverLemmas.{literals_told, product_told}
use Rattle.kp_limits.proofs.weight.weight_of.Goals as goal

pub returns-in-Literals : goal.returns-in-Literals
returns-in-Literals c =
    let cs = clauses_view c.args.clauses.now in
    subst (λ w. TellsWeight cs (weight_view w) c.all_literals.result) (sym c.in-Literals.is) (literals_told cs c.all_literals.result c.all_literals.ensures)

pub returns-in-Product : goal.returns-in-Product
returns-in-Product c =
    let cs = clauses_view c.args.clauses.now in
    subst (λ w. TellsWeight cs (weight_view w) c.product_of_lengths.result) (sym c.in-Product.is) (product_told cs c.product_of_lengths.result c.product_of_lengths.ensures)
