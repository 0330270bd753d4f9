use Rattle.kp_service.proofs.Alone.{broken_alone, connection_alone}
use Rattle.kp_service.proofs.laws.a_connection_alone_is_answered_at_its_own_book.Goals as goal

pub returns-clause-connection : goal.returns-clause-connection
returns-clause-connection c = connection_alone

pub returns-clause-broken : goal.returns-clause-broken
returns-clause-broken c = broken_alone
