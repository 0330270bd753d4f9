use Rattle.std.proofs.Common.{◌↔◌, drop}
use Rattle.std.specs.List.{AllByRecursion}
use Rattle.kp_kore.specs.Foreign.{InjectionsSplit}
use Rattle.kp_signature.specs.View.{signature_view}
use Rattle.kp_rules.specs.Shapes.{seen}
use Rattle.kp_rule_reading.proofs.parts_read.all_split.Given as goal

abbrev pub invariant-loop-part : goal.invariant-loop-part
invariant-loop-part l =
    AllByRecursion (InjectionsSplit (signature_view l.signature)) (seen l.parts)
    ↔ AllByRecursion (InjectionsSplit (signature_view l.signature)) (seen (drop l.part-index l.parts))
