use Rattle.kp_case_laws.proofs.OnRows.{on_members, of_headed, of_known, of_new}
use Rattle.kp_case_laws.proofs.rows.constructors_ask.Goals as goal

pub returns-clause-members : goal.returns-clause-members
returns-clause-members c = on_members

pub returns-clause-headed : goal.returns-clause-headed
returns-clause-headed c = of_headed

pub returns-clause-known : goal.returns-clause-known
returns-clause-known c = of_known

pub returns-clause-new : goal.returns-clause-new
returns-clause-new c = of_new
