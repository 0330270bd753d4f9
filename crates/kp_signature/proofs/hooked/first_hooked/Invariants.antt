use Rattle.std.proofs.Common.{◌≡◌, map, drop}
use Rattle.kp_kore.specs.View.{sort_sentence_view}
use Rattle.kp_signature.specs.Table.{name_hooked}
use Rattle.kp_signature.proofs.hooked.first_hooked.Given as goal

abbrev pub invariant-loop-sort : goal.invariant-loop-sort
invariant-loop-sort l = name_hooked l.hook (map sort_sentence_view l.sorts) ≡ name_hooked l.hook (map sort_sentence_view (drop l.sort-index l.sorts))
