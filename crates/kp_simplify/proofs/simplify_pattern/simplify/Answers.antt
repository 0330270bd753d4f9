use Rattle.std.proofs.lemmas.Result.{IfErr-weaker}
use Rattle.kp_kore.specs.View.{view, sort_view}
use Rattle.kp_symbolic.specs.Languages.{language_view}
use Rattle.kp_symbolic.specs.View.{state_view}
use Rattle.kp_simplify.proofs.FoundLemmas.{found_where, wanted_where}
use Rattle.kp_simplify.proofs.simplify_pattern.simplify.Goals as goal

pub returns-in-Ok-clause-found : goal.returns-in-Ok-clause-found
returns-in-Ok-clause-found c = λ verified.
    let read = c.in-Ok.ensures in
    found_where (language_view c.args.language.now) (view c.args.pattern.now) (sort_view c.args.sort) (state_view c.in-Ok.state) c.finished.result
    verified read.clear (read.read verified) (read.instances verified) (read.formed verified) c.finished.ensures.found

pub returns-in-Ok-clause-refused : goal.returns-in-Ok-clause-refused
returns-in-Ok-clause-refused c = IfErr-weaker c.finished.result _ _ (λ e h. h (view c.args.pattern.now)) c.finished.ensures.refused

pub returns-in-Ok-clause-wants : goal.returns-in-Ok-clause-wants
returns-in-Ok-clause-wants c = λ verified.
    let read = c.in-Ok.ensures in
    wanted_where (language_view c.args.language.now) (view c.args.pattern.now) (state_view c.in-Ok.state) c.finished.result (read.read verified) (read.formed verified) c.finished.ensures.wants

pub returns-in-Err-clause-refused : goal.returns-in-Err-clause-refused
returns-in-Err-clause-refused c = c.unread.ensures.told (language_view c.args.language.now) (view c.args.pattern.now) c.in-Err.ensures.refused

pub returns-in-Err-clause-wants : goal.returns-in-Err-clause-wants
returns-in-Err-clause-wants c = λ verified told. absurd (c.unread.ensures.wants told)
