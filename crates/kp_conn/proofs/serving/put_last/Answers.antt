use Rattle.kp_conn.specs.Turns.{last_put}
use Rattle.kp_conn.proofs.Resting.{told_broken}
use Rattle.kp_conn.proofs.serving.put_last.Goals as goal

pub returns-in-Ok-clause-told : goal.returns-in-Ok-clause-told
returns-in-Ok-clause-told g c = last_put c.in-Ok.ensures.whole

pub returns-in-Err-clause-told : goal.returns-in-Err-clause-told
returns-in-Err-clause-told g c = told_broken c.args.end (g.K.Sink.held c.args.sink.now) (g.K.Sink.held c.put_parse_error.new.sink) c.in-Err.fault c.broken_by.result c.in-Err.ensures.front c.broken_by.ensures.failed.1 c.broken_by.ensures.memory.1
