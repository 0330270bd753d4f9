use Rattle.std.proofs.Common.{refl}
use Rattle.kp_kore.specs.View.{view}
use Rattle.kp_symbolic.specs.Languages.{language_view}
use Rattle.kp_symbolic.specs.View.{state_view}
use Rattle.kp_simplify.proofs.AnswerLemmas.{state_wants, written_answered}
use Rattle.kp_simplify.proofs.FoundLemmas.{no_state}
use Rattle.kp_simplify.proofs.state_answer.state_shown.Goals as goal

pub returns-in-Ok-clause-answered : goal.returns-in-Ok-clause-answered
returns-in-Ok-clause-answered c = λ right none shallow.
    written_answered (language_view c.args.language.now) (state_view c.args.state.now) (view c.in-Ok.pattern.value) _ refl right none shallow c.in-Ok.ensures.written
    (record { injects = c.in-Ok.ensures.injects; instances = c.in-Ok.ensures.instances; variables = c.in-Ok.ensures.variables })

pub returns-in-Err-clause-refused : goal.returns-in-Err-clause-refused
returns-in-Err-clause-refused c = λ is. no_state (language_view c.args.language.now) (state_view c.args.state.now) (c.in-Err.ensures.refused is)

pub returns-in-Err-clause-wants : goal.returns-in-Err-clause-wants
returns-in-Err-clause-wants c = λ is right none shallow. state_wants (language_view c.args.language.now) (state_view c.args.state.now) (c.in-Err.ensures.refused is) right none shallow
