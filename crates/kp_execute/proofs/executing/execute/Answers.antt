use Rattle.kp_kore.specs.View.{view, sort_view}
use Rattle.kp_symbolic.specs.Languages.{language_view}
use Rattle.kp_symbolic.specs.View.{state_view}
use Rattle.kp_execute.proofs.AnswerLemmas.{read_as}
use Rattle.kp_execute.proofs.executing.execute.Goals as goal

pub returns-in-Ok-clause-found : goal.returns-in-Ok-clause-found
returns-in-Ok-clause-found c = λ t runs same verified.
    let h = c.in-Ok.ensures in
    c.executed.ensures.found t runs same (read_as t (language_view c.args.language.now) (view c.args.pattern.now) (sort_view c.args.sort) (state_view c.in-Ok.state) same verified h.clear h.read h.right)

pub returns-in-Ok-clause-wants : goal.returns-in-Ok-clause-wants
returns-in-Ok-clause-wants c = λ t runs same verified.
    let h = c.in-Ok.ensures in
    c.executed.ensures.wants t runs same (read_as t (language_view c.args.language.now) (view c.args.pattern.now) (sort_view c.args.sort) (state_view c.in-Ok.state) same verified h.clear h.read h.right)

pub returns-in-Err-clause-wants : goal.returns-in-Err-clause-wants
returns-in-Err-clause-wants c = λ t runs same verified told. absurd (c.unread.ensures.wants told)

pub returns-in-Ok-clause-refused : goal.returns-in-Ok-clause-refused
returns-in-Ok-clause-refused c = c.executed.ensures.refused (view c.args.pattern.now)

pub returns-in-Err-clause-refused : goal.returns-in-Err-clause-refused
returns-in-Err-clause-refused c = c.unread.ensures.told (language_view c.args.language.now) (view c.args.pattern.now) c.in-Err.ensures.refused
