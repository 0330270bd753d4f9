use Rattle.kp_outward.proofs.RoomLemmas.{on_ok}
use Rattle.kp_solving.proofs.solved_equation.solve_or_keep.Goals as goal

pub returns-clause-right : goal.returns-clause-right
returns-clause-right c = on_ok c.solve_clause.result (λ room other. room) c.solve_clause.ensures.right
