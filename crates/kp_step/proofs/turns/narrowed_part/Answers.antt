use Rattle.std.proofs.Common.{◌∙◌, ap}
use Rattle.kp_symbolic.specs.View.{clauses_view}
use Rattle.kp_step.proofs.TriedLemmas.{narrowed}
use Rattle.kp_step.proofs.turns.narrowed_part.Goals as goal

pub returns : goal.returns
returns c = narrowed c.args.firing.now (clauses_view c.deref.result.now) c.constrained.result (ap clauses_view c.deref.ensures.value ∙ c.in_ok-clauses.ensures) c.constrained.ensures.view c.constrained.ensures.next
