use Rattle.kp_program.proofs.Answering.{answered_so}
use Rattle.kp_program.proofs.local.text_to.Goals as goal

pub answer-requires : goal.answer-requires
answer-requires g c = record { pass = (c.requires.pass.is_pass, c.requires.pass.ready) }

pub returns-clause-pass : goal.returns-clause-pass
returns-clause-pass g c = record { is_pass = c.answer.ensures.pass.0; ready = c.requires.pass.ready }

pub returns-clause-answered : goal.returns-clause-answered
returns-clause-answered g c = answered_so c.args.service.now c.args.pass.now c.answer.new.pass c.args.frame.now c.answer.result c.requires.pass c.answer.ensures.answered
