use Rattle.kp_literals.proofs.clauses.read.Goals as goal

pub returns-clause-kinds : goal.returns-clause-kinds
returns-clause-kinds c g h = h
