use Rattle.kp_execute.proofs.executing.unwritten.Goals as goal

pub returns-in-NoInjection-clause-wants : goal.returns-in-NoInjection-clause-wants
returns-in-NoInjection-clause-wants c = λ told. c.in-NoInjection.is
