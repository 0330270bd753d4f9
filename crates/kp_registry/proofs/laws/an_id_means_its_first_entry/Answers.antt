use Rattle.kp_registry.proofs.Extended.{first_meant}
use Rattle.kp_registry.proofs.laws.an_id_means_its_first_entry.Goals as goal

pub returns : goal.returns
returns c = first_meant
