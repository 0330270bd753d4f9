use Rattle.kp_round_laws.proofs.AxiomsOnce.{axioms_stand_once}
use Rattle.kp_round_laws.proofs.laws.reached_axioms_stand_once.Goals as goal

pub returns : goal.returns
returns c = axioms_stand_once
