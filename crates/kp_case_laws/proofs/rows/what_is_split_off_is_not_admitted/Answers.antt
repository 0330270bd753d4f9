use Rattle.kp_case_laws.proofs.RowLemmas.{apart_by_head, apart_by_meet, apart_by_heads}
use Rattle.kp_case_laws.proofs.rows.what_is_split_off_is_not_admitted.Goals as goal

pub returns-clause-constructor : goal.returns-clause-constructor
returns-clause-constructor c = apart_by_head

pub returns-clause-meet : goal.returns-clause-meet
returns-clause-meet c = apart_by_meet

pub returns-clause-heads : goal.returns-clause-heads
returns-clause-heads c = apart_by_heads
