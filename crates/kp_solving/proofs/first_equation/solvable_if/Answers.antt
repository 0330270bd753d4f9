use Rattle.std.proofs.Common.{rules, ◌++◌}
use Rattle.kp_literals.specs.Equations.{equation_view}
use Rattle.kp_symbolic.specs.View.{clauses_view, state_view}
use Rattle.kp_solving.proofs.FirstLemmas.{nowhere_else, somewhere_else}
use Rattle.kp_solving.proofs.first_equation.solvable_if.Goals as goal

pub returns-then-branch : goal.returns-then-branch
returns-then-branch c =
    nowhere_else (state_view c.args.state.now) (clauses_view c.args.before.now ++ clauses_view c.args.after.now) c.args.place (equation_view c.args.equation) (search rules)

pub returns : goal.returns
returns c =
    somewhere_else (state_view c.args.state.now) (clauses_view c.args.before.now ++ clauses_view c.args.after.now) c.args.place (equation_view c.args.equation) (search rules)
