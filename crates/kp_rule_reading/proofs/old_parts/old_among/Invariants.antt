use Rattle.std.proofs.Common.{◌≡◌, true, not, ◌&&◌, map, drop}
use Rattle.std.specs.List.{list_all, list_any, AllByRecursion}
use Rattle.kp_kore.specs.View.{sorted_variable_view}
use Rattle.kp_signature.specs.View.{signature_view}
use Rattle.kp_kore.specs.Instance.{Valuation}
use Rattle.kp_kore.specs.Numbers.{computes_wide}
use Rattle.kp_ground.specs.Slots.{term_reads}
use Rattle.kp_compile.specs.Names.{names_seen}
use Rattle.kp_rules.specs.Shapes.{seen}
use Rattle.kp_rules.specs.WideParts.{holds_none, all_narrow}
use Rattle.kp_rule_reading.specs.Compiled.{IsOldNamed}
use Rattle.kp_rule_reading.proofs.old_parts.old_among.Given as goal

abbrev pub invariant-loop-part : goal.invariant-loop-part
invariant-loop-part l =
    ((v : Valuation) →
    all_narrow v l.found.items && not (list_any (λ q. holds_none (map sorted_variable_view l.new_variables) q && computes_wide (signature_view l.signature) v q) (seen (drop l.part-index l.parts)))
    ≡ not (list_any (λ q. holds_none (map sorted_variable_view l.new_variables) q && computes_wide (signature_view l.signature) v q) (seen l.parts)))
    × (AllByRecursion (IsOldNamed (names_seen l.names) (map sorted_variable_view l.new_variables)) (seen l.parts) → list_all (term_reads (names_seen l.names)) l.found.items ≡ true)
