use Rattle.kp_symbolic.specs.Languages.{language_view}
use Rattle.kp_simplify.proofs.simplify_pattern.answered.Goals as goal

pub returns-in-Err-clause-refused : goal.returns-in-Err-clause-refused
returns-in-Err-clause-refused c = λ p. c.unwritten.ensures.told (language_view c.args.language.now) p c.in-Err.ensures.refused

pub returns-in-Err-clause-wants : goal.returns-in-Err-clause-wants
returns-in-Err-clause-wants c = λ told well. c.in-Err.ensures.wants (c.unwritten.ensures.wants told) well
