use Rattle.kp_source_laws.proofs.ShownLemmas.{next_sourced, remainder_sourced, undecided_sourced}
use Rattle.kp_source_laws.proofs.laws.what_a_step_tells_is_sourced.Goals as goal

pub returns-clause-next : goal.returns-clause-next
returns-clause-next c = next_sourced

pub returns-clause-remainder : goal.returns-clause-remainder
returns-clause-remainder c = remainder_sourced

pub returns-clause-undecided : goal.returns-clause-undecided
returns-clause-undecided c = undecided_sourced
