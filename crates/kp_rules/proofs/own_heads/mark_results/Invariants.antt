use Rattle.std.proofs.Common.{[], map, take}
use Rattle.kp_kore.specs.View.{symbol_sentence_view}
use Rattle.kp_signature.specs.Order.{IsOrderOf, sorts_of}
use Rattle.kp_signature.specs.View.{signature_view}
use Rattle.kp_rules.specs.Index.{AreMarked}
use Rattle.kp_rules.proofs.own_heads.mark_results.Given as goal

abbrev pub invariant-loop-symbol : goal.invariant-loop-symbol
invariant-loop-symbol l =
    IsOrderOf (signature_view l.signature).subsorts l.order → AreMarked (signature_view l.signature) [] (sorts_of l.order.graph) l.fn.marks.items →
    AreMarked (signature_view l.signature) (map symbol_sentence_view (take l.symbol-index l.symbol-items)) (sorts_of l.order.graph) l.marks.items
