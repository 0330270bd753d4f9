use Rattle.std.proofs.Common.{inl, subst}
use Rattle.kp_program.specs.Served.{GainsFront}
use Rattle.kp_program.proofs.Causes.{late_cause}
use Rattle.kp_program.proofs.NoCommand.{gained_at_all, late_is_refused}
use Rattle.kp_program.proofs.Spelled.{trouble_is_told, usage_is_told}
use Rattle.kp_program.proofs.program.helped.Goals as goal

-- ---- it was written

pub returns-in-Ok-clause-ended : goal.returns-in-Ok-clause-ended
returns-in-Ok-clause-ended g c = λ names words fault. usage_is_told names words _ _ _ _ _ fault c.told.ensures.status c.told.ensures.told

pub returns-in-Ok-clause-status : goal.returns-in-Ok-clause-status
returns-in-Ok-clause-status g c = λ words ask. inl c.told.ensures.status

pub returns-in-Ok-clause-gained : goal.returns-in-Ok-clause-gained
returns-in-Ok-clause-gained g c = subst (GainsFront (g.O.Sink.held c.args.out.now) _) c.as_bytes.ensures.value (gained_at_all _ _ _ _ c.put_line.ensures.gained c.put_line.ensures.front)

-- ---- it wasn't

pub returns-in-Err-clause-ended : goal.returns-in-Err-clause-ended
returns-in-Err-clause-ended g c = λ names words fault. trouble_is_told names words _ _ _ _ _ c.in-Err.trouble (late_cause names words _ _ c.in-Err.trouble (λ rose. rose) c.in-Err.ensures.late) c.ended.ensures.ended

pub returns-in-Err-clause-status : goal.returns-in-Err-clause-status
returns-in-Err-clause-status g c = λ words ask. late_is_refused words _ _ _ _ _ c.in-Err.trouble c.in-Err.ensures.late c.ended.ensures.ended ask
