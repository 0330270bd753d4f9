use Rattle.kp_toys.proofs.Means.{toys_means}
use Rattle.kp_toys.proofs.reading.the_definition_means_the_theory.Goals as goal

pub returns : goal.returns
returns c = toys_means
