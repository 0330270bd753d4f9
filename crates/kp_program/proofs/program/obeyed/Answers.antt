use Rattle.std.proofs.Common.{◌≤◌, arith, refl}
use Rattle.kp_program.proofs.Spelled.{trouble_is_told, trouble_is_above, only_memory_at, own_status, done_at}
use Rattle.kp_program.proofs.program.obeyed.Goals as goal

-- ---- it is done

pub returns-in-Ok-clause-done : goal.returns-in-Ok-clause-done
returns-in-Ok-clause-done g c = λ words is low. (c.in-Ok.ensures.done words is).1

pub returns-in-Ok-clause-ended : goal.returns-in-Ok-clause-ended
returns-in-Ok-clause-ended g c = λ words is high. let low : c.in-Ok.status ≤ 2 = (c.in-Ok.ensures.done words is).0 in absurd (omega arith)

pub returns-in-Ok-clause-status : goal.returns-in-Ok-clause-status
returns-in-Ok-clause-status g c = λ words is three. let low : c.in-Ok.status ≤ 2 = (c.in-Ok.ensures.done words is).0 in absurd (omega arith)

pub returns-in-Ok-clause-complete : goal.returns-in-Ok-clause-complete
returns-in-Ok-clause-complete g c = λ words is. done_at (g.H.Shelf.names c.args.shelf.now) words _ c.in-Ok.status (c.in-Ok.ensures.done words is).0

pub returns-in-Ok-clause-untold : goal.returns-in-Ok-clause-untold
returns-in-Ok-clause-untold g c = λ words is low. refl

pub returns-in-Ok-clause-untouched : goal.returns-in-Ok-clause-untouched
returns-in-Ok-clause-untouched g c = λ words is high most. let low : c.in-Ok.status ≤ 2 = (c.in-Ok.ensures.done words is).0 in absurd (omega arith)

pub returns-in-Ok-clause-front : goal.returns-in-Ok-clause-front
returns-in-Ok-clause-front g c = λ words is high. let low : c.in-Ok.status ≤ 2 = (c.in-Ok.ensures.done words is).0 in absurd (omega arith)

pub returns-in-Ok-clause-unread : goal.returns-in-Ok-clause-unread
returns-in-Ok-clause-unread g c = λ words x is spelled. c.in-Ok.ensures.unread words x is spelled

-- ---- it isn't

pub returns-in-Err-clause-done : goal.returns-in-Err-clause-done
returns-in-Err-clause-done g c = λ words is low. let high : 4 ≤ c.ended.result = trouble_is_above _ _ _ c.ended.result c.in-Err.trouble c.ended.ensures.ended in absurd (omega arith)

pub returns-in-Err-clause-ended : goal.returns-in-Err-clause-ended
returns-in-Err-clause-ended g c = λ words is high.
    trouble_is_told _ words _ _ _ _ c.ended.result c.in-Err.trouble (c.in-Err.ensures.cause words is) c.ended.ensures.ended

pub returns-in-Err-clause-status : goal.returns-in-Err-clause-status
returns-in-Err-clause-status g c = λ words is three. let high : 4 ≤ c.ended.result = trouble_is_above _ _ _ c.ended.result c.in-Err.trouble c.ended.ensures.ended in absurd (omega arith)

pub returns-in-Err-clause-complete : goal.returns-in-Err-clause-complete
returns-in-Err-clause-complete g c = λ words is.
    only_memory_at (g.H.Shelf.names c.args.shelf.now) words _ _ _ _ c.ended.result c.in-Err.trouble (c.in-Err.ensures.cause words is) c.ended.ensures.ended

pub returns-in-Err-clause-untold : goal.returns-in-Err-clause-untold
returns-in-Err-clause-untold g c = λ words is low. let high : 4 ≤ c.ended.result = trouble_is_above _ _ _ c.ended.result c.in-Err.trouble c.ended.ensures.ended in absurd (omega arith)

pub returns-in-Err-clause-untouched : goal.returns-in-Err-clause-untouched
returns-in-Err-clause-untouched g c = λ words is high most. c.in-Err.ensures.untouched (own_status _ _ _ _ c.ended.result c.ended.ensures.ended most)

pub returns-in-Err-clause-front : goal.returns-in-Err-clause-front
returns-in-Err-clause-front g c = λ words is high. c.in-Err.ensures.front words is

pub returns-in-Err-clause-unread : goal.returns-in-Err-clause-unread
returns-in-Err-clause-unread g c = λ words x is spelled. c.in-Err.ensures.unread words x is spelled
