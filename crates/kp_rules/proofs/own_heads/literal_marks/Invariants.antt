use Rattle.std.proofs.Common.{[], map, take}
use Rattle.kp_kore.specs.View.{sort_view}
use Rattle.kp_signature.specs.View.{signature_view}
use Rattle.kp_rules.specs.Index.{AreMarked}
use Rattle.kp_rules.proofs.own_heads.literal_marks.Given as goal

abbrev pub invariant-loop-sort : goal.invariant-loop-sort
invariant-loop-sort l = AreMarked (signature_view l.signature) [] (map sort_view (take l.sort-index l.sorts)) l.marks.items
