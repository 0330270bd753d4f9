use Rattle.std.proofs.Common.{◌≡◌, map, take}
use Rattle.kp_kore.specs.View.{sentence_view}
use Rattle.kp_kore.specs.Theory.{imports_in}
use Rattle.kp_imports.specs.Walks.{import_names}
use Rattle.kp_modules.proofs.outlines.imports_alone.Given as goal

abbrev pub invariant-loop-i : goal.invariant-loop-i
invariant-loop-i l = imports_in (map sentence_view l.found.items) ≡ import_names (take l.i l.sentences)
