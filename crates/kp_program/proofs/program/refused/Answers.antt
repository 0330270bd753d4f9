use Rattle.std.proofs.Common.{inl, inr, refl, subst}
use Rattle.kp_command.specs.Commands.{IsErrorOf}
use Rattle.kp_program.proofs.WordFaults.{help_is_fault, refusal_is_fault}
use Rattle.kp_program.proofs.NoCommand.{memory_is_told}
use Rattle.kp_program.proofs.Spelled.{usage_is_told}
use Rattle.kp_program.proofs.program.refused.Goals as goal

-- ---- help

pub returns-in-Help-clause-ended : goal.returns-in-Help-clause-ended
returns-in-Help-clause-ended g c = λ names words of. c.helped.ensures.ended names words (help_is_fault words (subst (IsErrorOf words) c.in-Help.is of))

pub returns-in-Help-clause-status : goal.returns-in-Help-clause-status
returns-in-Help-clause-status g c = λ words of. c.helped.ensures.status words (subst (IsErrorOf words) c.in-Help.is of)

pub returns-in-Help-clause-gained : goal.returns-in-Help-clause-gained
returns-in-Help-clause-gained g c = λ words of. inr (subst (IsErrorOf words) c.in-Help.is of, _, c.helped.ensures.gained)

-- ---- another cause

pub returns-in-Usage-clause-ended : goal.returns-in-Usage-clause-ended
returns-in-Usage-clause-ended g c = λ names words of. usage_is_told names words _ _ _ _ _ (refusal_is_fault words (subst (IsErrorOf words) c.in-Usage.is of)) c.told.ensures.status c.told.ensures.told

pub returns-in-Usage-clause-status : goal.returns-in-Usage-clause-status
returns-in-Usage-clause-status g c = λ words of. inl c.told.ensures.status

pub returns-in-Usage-clause-gained : goal.returns-in-Usage-clause-gained
returns-in-Usage-clause-gained g c = λ words of. inl refl

-- ---- want of memory

pub returns-in-Memory-clause-ended : goal.returns-in-Memory-clause-ended
returns-in-Memory-clause-ended g c = λ names words of. memory_is_told names words _ _ _ _ _ c.told-in-Memory.ensures.status c.told-in-Memory.ensures.told

pub returns-in-Memory-clause-status : goal.returns-in-Memory-clause-status
returns-in-Memory-clause-status g c = λ words of. inr (inl c.told-in-Memory.ensures.status)

pub returns-in-Memory-clause-gained : goal.returns-in-Memory-clause-gained
returns-in-Memory-clause-gained g c = λ words of. inl refl
