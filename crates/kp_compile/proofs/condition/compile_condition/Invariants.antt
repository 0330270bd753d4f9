use Rattle.std.proofs.Common.{take}
use Rattle.std.specs.List.{AllZip}
use Rattle.kp_kore.specs.View.{view}
use Rattle.kp_signature.specs.View.{signature_view}
use Rattle.kp_compile.specs.Exact.{IsConditionOf, IsConditionNarrowAs, ConditionReadsAs}
use Rattle.kp_compile.specs.Names.{names_seen}
use Rattle.kp_compile.proofs.condition.compile_condition.Given as goal

abbrev pub invariant-loop-predicate : goal.invariant-loop-predicate
invariant-loop-predicate l =
    AllZip (λ p c. IsConditionOf (signature_view l.signature) (view p.now) c) (take l.predicate-index l.predicates) l.conditions.items
    × AllZip (λ p c. IsConditionNarrowAs (signature_view l.signature) (view p.now) c) (take l.predicate-index l.predicates) l.conditions.items
    × AllZip (λ p c. ConditionReadsAs (names_seen l.names) (view p.now) c) (take l.predicate-index l.predicates) l.conditions.items
