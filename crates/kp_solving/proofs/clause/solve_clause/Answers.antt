use Rattle.std.proofs.Common.{rules, ◌≡◌, false}
use Rattle.kp_kore.specs.Instance.{is_named}
use Rattle.kp_symbolic.specs.States.{clause_variables}
use Rattle.kp_symbolic.specs.View.{clause_view}
use Rattle.kp_literals.specs.Equations.{equation_view}
use Rattle.kp_outward.proofs.RoomLemmas.{on_ok}
use Rattle.kp_solving.proofs.clause.solve_clause.Goals as goal

pub returns-then-branch-clause-right : goal.returns-then-branch-clause-right
returns-then-branch-clause-right c = on_ok c.solve_holding.result (λ room named full. room full) c.solve_holding.ensures.right

pub returns-clause-right : goal.returns-clause-right
returns-clause-right c =
    let apart : false ≡ is_named (equation_view c.args.equation.now).variable.name (clause_variables (clause_view c.args.clause.now)) = search rules in
    λ named full. absurd (cc (apart, named))
