use Rattle.kp_imports.proofs.Places.{places_below_take}
use Rattle.kp_imports.proofs.names.module_places.Goals as goal

pub returns-clause-below : goal.returns-clause-below
returns-clause-below c = places_below_take c.loop-place.place c.args.modules.now c.loop-place.places c.loop-place.invariant
