use Rattle.std.proofs.Common.{◌≡◌, List, Some, map, slice_get, take}
use Rattle.kp_kore.specs.Syntax.{Text, KoreModule, KoreDefinition}
use Rattle.kp_kore.specs.Signature.{KoreSignature}
use Rattle.kp_kore.specs.Theory.{modules_reached, rewrite_axioms}
use Rattle.kp_modules.specs.Keeping.{KeepsReached}
use Rattle.kp_modules.specs.Made.{IsSetOf}
use Rattle.kp_modules.specs.Tables.{rule_set_of}
use Rattle.kp_modules.specs.Extending.{AreTakenFrom}
use Rattle.kp_modules.proofs.own_rule_set.rules_at.Given as goal

abbrev pub invariant-loop-i : goal.invariant-loop-i
invariant-loop-i l =
    (g : KoreSignature) (d : KoreDefinition) (main : Text) (ms : List KoreModule) → KeepsReached d main l.table → IsSetOf g (rewrite_axioms (modules_reached d main)) (rule_set_of l.table) →
    map (slice_get (modules_reached d main)) l.places ≡ map Some ms → AreTakenFrom g (rewrite_axioms (take l.i ms)) l.found.items
