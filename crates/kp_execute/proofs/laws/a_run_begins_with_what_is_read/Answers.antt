use Rattle.kp_execute.proofs.ReadLemmas.{read_ready, read_request}
use Rattle.kp_execute.proofs.laws.a_run_begins_with_what_is_read.Goals as goal

pub returns-clause-ready : goal.returns-clause-ready
returns-clause-ready c = read_ready

pub returns-clause-request : goal.returns-clause-request
returns-clause-request c = read_request
