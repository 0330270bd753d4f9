use Rattle.kp_simplify.proofs.simplify_pattern.unwritten.Goals as goal

pub returns-in-NoInjection-clause-told : goal.returns-in-NoInjection-clause-told
returns-in-NoInjection-clause-told c = λ g p no_injection. no_injection c.in-NoInjection.is

pub returns-in-NoInjection-clause-wants : goal.returns-in-NoInjection-clause-wants
returns-in-NoInjection-clause-wants c = λ told. c.in-NoInjection.is
