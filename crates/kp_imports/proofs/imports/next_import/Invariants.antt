use Rattle.std.proofs.Common.{take}
use Rattle.kp_imports.specs.Walks.{import_names, ArePassed}
use Rattle.kp_imports.proofs.imports.next_import.Given as goal

abbrev pub invariant-loop-sentence : goal.invariant-loop-sentence
invariant-loop-sentence l = ArePassed l.places l.marks (import_names (take l.from l.sentences)) (import_names (take l.sentence l.sentences))
