use Rattle.std.proofs.Common.{◌∙◌}
use Rattle.kp_symbolic.specs.Terms.{term_variables}
use Rattle.kp_symbolic.specs.View.{term_view, variables_view}
use Rattle.kp_goals.proofs.Names.{either_way}
use Rattle.kp_goals.proofs.equations.has_bound.Goals as goal

pub returns : goal.returns
returns c = c.some_stands.ensures ∙ either_way (variables_view c.args.bound.now) (term_variables (term_view c.args.term.now))
