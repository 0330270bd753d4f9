use Rattle.std.proofs.Common.{ap, sym, ◌∙◌}
use Rattle.kp_kore.specs.Syntax.{bottom}
use Rattle.kp_kore.specs.View.{sort_view}
use Rattle.kp_kore.specs.Implied.{nothing}
use Rattle.kp_methods.proofs.simplify.nothing_line.Goals as goal

pub returns : goal.returns
returns c = λ g p right. c.state_line.ensures g p (nothing (sort_view c.args.sort.now)) right (ap bottom (sym c.in_ok-sort.ensures) ∙ sym c.bottom_at.ensures)
