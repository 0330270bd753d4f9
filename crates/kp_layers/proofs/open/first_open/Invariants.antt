use Rattle.std.proofs.Common.{◌≡◌, false, take}
use Rattle.std.specs.List.{list_any}
use Rattle.kp_layers.specs.Layers.{is_open}
use Rattle.kp_layers.proofs.open.first_open.Given as goal

abbrev pub invariant-loop-k : goal.invariant-loop-k
invariant-loop-k l = list_any (is_open l.layers) (take l.k l.claims) ≡ false
