use Rattle.kp_history.specs.Passes.{seen}
use Rattle.kp_history.specs.Views.{longer}
use Rattle.kp_registry.specs.Registries.{table_of}
use Rattle.kp_registry.proofs.PassesOf.{longer_legal, pass_with}
use Rattle.kp_registry.proofs.book.Registry.join.Goals as goal

pub returns-clause-pass : goal.returns-clause-pass
returns-clause-pass c =
    let mine = seen c.args.pass.now in
    let theirs = seen c.args.other in
    pass_with c.args.self.now c.join.new.pass (longer mine theirs) c.join.ensures.pass c.join.ensures.longer (longer_legal (table_of c.args.self.now) mine theirs c.requires.pass.legal c.requires.other.legal)
