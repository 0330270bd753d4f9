use Rattle.std.proofs.Common.{sym, ◌∙◌}
use Rattle.kp_step.proofs.foreign.first_undecided.Goals as goal

pub returns-in-loop-open : goal.returns-in-loop-open
returns-in-loop-open c = (c.next.new.self.rest.items, sym c.loop-open.invariant ∙ c.in-Some.ensures.steps.0)
