use Rattle.std.proofs.Common.{subst, sym}
use Rattle.kp_modules.specs.declared.table.ModuleTable.{ModuleTable}
use Rattle.kp_program.specs.LocalTold.{IsLinkOver}
use Rattle.kp_program.proofs.Proving.{link_over}
use Rattle.kp_program.proofs.prover.lines_over.Goals as goal

pub returns : goal.returns
returns g c = λ o t is provable. c.prove_all.ensures o t (subst (λ (a : ModuleTable). IsLinkOver a o t) (sym c.new-link.ensures)
    (link_over o t _ (record { opens = (c.in_ok-service.ensures.seen o is.opens).table; main = is.main }))) provable
