use Rattle.kp_clauses.specs.Faults.{state_fault}
use Rattle.kp_kore.specs.View.{view}
use Rattle.kp_symbolic.specs.Languages.{language_view}
use Rattle.kp_symbolic.specs.View.{state_view}
use Rattle.kp_signature.specs.Places.{the_top}
use Rattle.kp_solving.proofs.ReadLemmas.{read_where_solved, right_where_solved, sound_where_solved, formed_where_solved, unread_where_kept}
use Rattle.kp_solving.proofs.reading.inward.Goals as goal

pub returns-in-Ok-clause-read : goal.returns-in-Ok-clause-read
returns-in-Ok-clause-read c verified =
    read_where_solved (language_view c.args.language.now) (view c.args.pattern.now) (state_view c.in-Ok.opened) c.solved.result (c.in-Ok.ensures.state verified) c.solved.ensures.solving

pub returns-in-Ok-clause-refused : goal.returns-in-Ok-clause-refused
returns-in-Ok-clause-refused c = c.solved.ensures.refused (state_fault (language_view c.args.language.now) (view c.args.pattern.now))

pub returns-in-Ok-clause-right : goal.returns-in-Ok-clause-right
returns-in-Ok-clause-right c verified =
    right_where_solved (language_view c.args.language.now) (view c.args.pattern.now) (state_view c.in-Ok.opened) c.solved.result (c.in-Ok.ensures.state verified) c.solved.ensures.right

pub returns-in-Ok-clause-unread : goal.returns-in-Ok-clause-unread
returns-in-Ok-clause-unread c verified =
    unread_where_kept (language_view c.args.language.now) (view c.args.pattern.now) (state_view c.in-Ok.opened) c.solved.result verified.0 c.in-Ok.ensures.clear (c.in-Ok.ensures.state verified) c.solved.ensures.unread

pub returns-in-Err-clause-unread : goal.returns-in-Err-clause-unread
returns-in-Err-clause-unread c verified = λ unread each. c.in-Err.ensures.unread unread (record { place = the_top; faultless = verified.0 })

pub returns-in-Ok-clause-instances : goal.returns-in-Ok-clause-instances
returns-in-Ok-clause-instances c verified =
    sound_where_solved (language_view c.args.language.now) (view c.args.pattern.now) (state_view c.in-Ok.opened) c.solved.result verified.0 c.in-Ok.ensures.clear (c.in-Ok.ensures.state verified) c.solved.ensures.solving c.solved.ensures.right

pub returns-in-Ok-clause-formed : goal.returns-in-Ok-clause-formed
returns-in-Ok-clause-formed c verified =
    formed_where_solved (language_view c.args.language.now) (view c.args.pattern.now) (state_view c.in-Ok.opened) c.solved.result verified.0 c.in-Ok.ensures.clear (c.in-Ok.ensures.state verified) c.solved.ensures.solving
