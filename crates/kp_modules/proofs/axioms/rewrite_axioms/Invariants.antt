use Rattle.std.proofs.Common.{◌≡◌, ◌++◌, drop, map}
use Rattle.kp_kore.specs.View.{module_view}
use Rattle.kp_kore.specs.Theory.{rewrite_axioms}
use Rattle.kp_modules.specs.Axioms.{axioms_view}
use Rattle.kp_modules.proofs.axioms.rewrite_axioms.Given as goal

abbrev pub invariant-loop-module : goal.invariant-loop-module
invariant-loop-module l =
    axioms_view l.found.items ++ rewrite_axioms (map (λ m. module_view m.now) (drop l.module-index l.modules)) ≡ rewrite_axioms (map (λ m. module_view m.now) l.modules)
