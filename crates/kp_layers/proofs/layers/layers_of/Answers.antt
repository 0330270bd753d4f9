use Rattle.std.proofs.lemmas.List.{length-map}
use Rattle.kp_layers.specs.Walks.{numbers_of}
use Rattle.kp_layers.proofs.layers.layers_of.Goals as goal

pub loop-walk-init : goal.loop-walk-init
loop-walk-init c = c.in_ok-walk.ensures (numbers_of c.args.needs.now) (length-map c.args.needs.now (λ v. v.items))
