use Rattle.std.proofs.Common.{take}
use Rattle.kp_signature.specs.View.{signature_view}
use Rattle.kp_compile.specs.Exact.{AreConditionsOf, AreConditionsNarrowAs, ConditionsReadAs}
use Rattle.kp_compile.specs.Names.{names_seen}
use Rattle.kp_compile.proofs.condition.+compile.Given as goal

abbrev pub invariant-compile_each-loop-pattern : goal.invariant-compile_each-loop-pattern
invariant-compile_each-loop-pattern l =
    AreConditionsOf (signature_view l.signature) (take l.pattern-index l.patterns) l.conditions.items
    × AreConditionsNarrowAs (signature_view l.signature) (take l.pattern-index l.patterns) l.conditions.items
    × ConditionsReadAs (names_seen l.names) (take l.pattern-index l.patterns) l.conditions.items
