use Rattle.kp_program.proofs.local.LocalLink.new.Goals as goal

pub invariant_of-result : goal.invariant_of-result
invariant_of-result g c = record { is_pass = c.requires.pass; ready = c.requires.ready }
