use Rattle.kp_kore.specs.View.{definition_view}
use Rattle.kp_program.proofs.Causes.{table_is}
use Rattle.kp_program.proofs.definition.table_of.Goals as goal

pub returns-clause-fault : goal.returns-clause-fault
returns-clause-fault c = λ fits.
    c.module_trouble.ensures c.args.bytes.now c.args.main.now (definition_view c.in-Ok.definition) fits c.in-Ok.ensures.found c.in-Err-load.ensures.err

pub returns-in-Ok-load-clause-table : goal.returns-in-Ok-load-clause-table
returns-in-Ok-load-clause-table c = λ fits.
    let is = c.in-Ok-load.ensures in
    table_is c.args.bytes.now c.args.main.now (definition_view c.in-Ok.definition) c.in-Ok-load.table fits c.in-Ok.ensures.found is.loaded is.main is.reaches is.opening is.none
