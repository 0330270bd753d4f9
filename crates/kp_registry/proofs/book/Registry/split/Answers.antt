use Rattle.kp_history.specs.Passes.{seen}
use Rattle.kp_registry.proofs.PassesOf.{new_pass, pass_with}
use Rattle.kp_registry.proofs.book.Registry.split.Goals as goal

pub returns-clause-pass : goal.returns-clause-pass
returns-clause-pass c = let told = c.split.ensures.pass in (pass_with c.args.self.now c.split.new.pass (seen c.args.pass.now) told.0 told.1 c.requires.pass.legal, told.1, told.2)

pub returns-clause-new : goal.returns-clause-new
returns-clause-new c = new_pass c.args.self.now (seen c.args.pass.now) c.split.result c.requires.pass.legal c.split.ensures.new
