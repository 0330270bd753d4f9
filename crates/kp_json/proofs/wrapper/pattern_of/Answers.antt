use Rattle.serde_json.specs.View.{view as data_view}
use Rattle.kp_json.proofs.Wrapped.{ok_spelled, err_unspelled}
use Rattle.kp_json.proofs.wrapper.pattern_of.Goals as goal

pub returns-clause-found : goal.returns-clause-found
returns-clause-found c = ok_spelled c.read_wrapped.result (data_view c.args.tree.now) c.read_wrapped.ensures.found

pub returns-clause-none : goal.returns-clause-none
returns-clause-none c = err_unspelled c.read_wrapped.result (data_view c.args.tree.now) c.read_wrapped.ensures.fault
