use Rattle.kp_toys.proofs.Sorts.{int_values_exactly}
use Rattle.kp_toys.proofs.reading.whole_numbers_are_the_values_of_their_sort.Goals as goal

pub returns : goal.returns
returns c = int_values_exactly
