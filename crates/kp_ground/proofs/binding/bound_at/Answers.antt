use Rattle.kp_ground.proofs.SlotLemmas.{found_at}
use Rattle.kp_ground.proofs.binding.bound_at.Goals as goal

pub returns : goal.returns
returns c = λ v x s reads. found_at v c.args.bindings.now x c.args.slot c.index-bindings-slot.result s reads
