use Rattle.std.proofs.Common.{◌≡◌, ◌++◌, drop, map}
use Rattle.kp_kore.specs.View.{module_view}
use Rattle.kp_modules.specs.Keeping.{outline}
use Rattle.kp_modules.proofs.outlines.outlines.Given as goal

abbrev pub invariant-loop-module : goal.invariant-loop-module
invariant-loop-module l = map (λ m. outline (module_view m)) l.found.items ++ map (λ m. outline (module_view m.now)) (drop l.module-index l.modules) ≡ map (λ m. outline (module_view m.now)) l.modules
