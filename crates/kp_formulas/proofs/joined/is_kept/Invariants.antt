use Rattle.std.proofs.Common.{◌≡◌, drop}
use Rattle.std.specs.List.{list_any}
use Rattle.kp_formulas.specs.Keys.{keyed_same}
use Rattle.kp_formulas.proofs.joined.is_kept.Given as goal

abbrev pub invariant-loop-other : goal.invariant-loop-other
invariant-loop-other l = list_any (keyed_same l.keyed) l.kept ≡ list_any (keyed_same l.keyed) (drop l.other-index l.kept)
