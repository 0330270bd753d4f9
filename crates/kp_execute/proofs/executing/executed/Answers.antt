use Rattle.kp_kore.specs.View.{view}
use Rattle.kp_execute.proofs.executing.executed.Goals as goal

pub returns-clause-found : goal.returns-clause-found
returns-clause-found c = λ t runs same read. c.by_run.ensures.found t (view c.args.pattern.now) (record { runs = runs; signature = same; setting = record { lists = c.in_ok-met.ensures; heads = c.requires }; read = read })

pub returns-clause-refused : goal.returns-clause-refused
returns-clause-refused c = c.by_run.ensures.refused

pub returns-clause-wants : goal.returns-clause-wants
returns-clause-wants c = λ t runs same read. c.by_run.ensures.wants t (view c.args.pattern.now) (record { runs = runs; signature = same; setting = record { lists = c.in_ok-met.ensures; heads = c.requires }; read = read })
