use Rattle.std.proofs.Common.{map, take}
use Rattle.kp_kore.specs.View.{module_view}
use Rattle.kp_imports.specs.Names.{Lists, names_of}
use Rattle.kp_modules.proofs.table.names_of.Given as goal

abbrev pub invariant-loop-i : goal.invariant-loop-i
invariant-loop-i l = Lists (names_of (map (λ m. module_view m.now) (take l.i l.modules))) l.names
