use Rattle.std.proofs.Common.{List, take}
use Rattle.kp_registry.specs.Registries.{IsPassOf}
use Rattle.kp_additions.specs.Served.{AtEachBookSeen, HasLooked}
use Rattle.kp_additions.specs.Told.{AreMeant}
use Rattle.kp_imports.specs.Walks.{import_names}
use Rattle.kp_additions.proofs.imports.imports_of.Given as goal

abbrev pub invariant-loop-i : goal.invariant-loop-i
invariant-loop-i g l = record {
  pass : IsPassOf l.registry l.pass;
  looked : HasLooked l.fn.pass l.pass;
  meant : AtEachBookSeen l.registry l.pass (λ o book. AreMeant o book (import_names (take l.i l.sentences)) l.sets.items);
}
