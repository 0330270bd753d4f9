use Rattle.kp_kore.specs.View.{sort_view}
use Rattle.kp_symbolic_laws.specs.Kept.{CanBeWrittenAt}
use Rattle.kp_symbolic.specs.Languages.{language_view}
use Rattle.kp_step.proofs.NegateLemmas.{of_each}
use Rattle.kp_step.proofs.opposite.quote_denied.Goals as goal

pub returns-clause-right : goal.returns-clause-right
returns-clause-right c = of_each (CanBeWrittenAt (language_view c.args.language.now) (sort_view c.args.sort.now)) c.args.clauses.now c.in_ok-patterns.ensures.right
