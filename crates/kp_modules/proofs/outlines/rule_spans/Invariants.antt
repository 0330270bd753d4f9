use Rattle.std.proofs.Common.{◌≡◌, ◌++◌, drop, length, map}
use Rattle.kp_kore.specs.View.{module_view}
use Rattle.kp_modules.specs.Keeping.{spans_from, span_view}
use Rattle.kp_modules.proofs.outlines.rule_spans.Given as goal

abbrev pub invariant-loop-module : goal.invariant-loop-module
invariant-loop-module l = map span_view l.spans.items ++ spans_from (length l.found.items) (map (λ m. module_view m.now) (drop l.module-index l.modules)) ≡ spans_from 0 (map (λ m. module_view m.now) l.modules)
