use Rattle.std.proofs.Common.{refl}
use Rattle.kp_symbolic.specs.Solving.{finished, goes_on}
use Rattle.kp_examples.proofs.clauses.equations_are_solved.Goals as goal

pub returns-clause-solved : goal.returns-clause-solved
returns-clause-solved c = record { opened = _; is_opened = refl; solving = goes_on _ _ _ refl (finished _ refl) }
