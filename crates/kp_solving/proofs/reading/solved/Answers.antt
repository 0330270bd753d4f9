use Rattle.kp_solving.proofs.reading.solved.Goals as goal

pub returns-in-Err-clause-unread : goal.returns-in-Err-clause-unread
returns-in-Err-clause-unread c = λ unread each. c.unsolved.ensures.read (c.in-Err.ensures.refused each) unread
