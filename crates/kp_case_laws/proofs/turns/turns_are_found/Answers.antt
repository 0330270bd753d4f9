use Rattle.kp_case_laws.proofs.TurnsFound.{no_part_no_turn, first_parts_are_turns, remainder_fires_none}
use Rattle.kp_case_laws.proofs.turns.turns_are_found.Goals as goal

pub returns-clause-none : goal.returns-clause-none
returns-clause-none c = no_part_no_turn

pub returns-clause-turn : goal.returns-clause-turn
returns-clause-turn c = first_parts_are_turns

pub returns-clause-remainder : goal.returns-clause-remainder
returns-clause-remainder c = remainder_fires_none
