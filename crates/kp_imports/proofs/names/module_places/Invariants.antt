use Rattle.std.proofs.Common.{take}
use Rattle.kp_signature.specs.Names.{Indexes}
use Rattle.kp_imports.specs.Names.{module_names}
use Rattle.kp_imports.proofs.names.module_places.Given as goal

abbrev pub invariant-loop-place : goal.invariant-loop-place
invariant-loop-place l = Indexes (module_names (take l.place l.modules)) l.places
