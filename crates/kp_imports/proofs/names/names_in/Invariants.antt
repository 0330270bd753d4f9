use Rattle.std.proofs.Common.{◌≡◌, take}
use Rattle.kp_imports.specs.Names.{module_names, texts_of}
use Rattle.kp_imports.proofs.names.names_in.Given as goal

abbrev pub invariant-loop-i : goal.invariant-loop-i
invariant-loop-i l = texts_of l.names.items ≡ module_names (take l.i l.modules)
