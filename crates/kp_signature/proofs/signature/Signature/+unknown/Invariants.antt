use Rattle.std.proofs.Common.{◌≡◌, drop}
use Rattle.kp_kore.specs.View.{sorts_view}
use Rattle.kp_signature.specs.Places.{unknown_sort_among}
use Rattle.kp_signature.specs.View.{signature_view}
use Rattle.kp_signature.proofs.signature.Signature.+unknown.Given as goal

abbrev pub invariant-unknown_sort_among-loop-sort : goal.invariant-unknown_sort_among-loop-sort
invariant-unknown_sort_among-loop-sort l = unknown_sort_among (signature_view l.self) (sorts_view l.sorts) ≡ unknown_sort_among (signature_view l.self) (sorts_view (drop l.sort-index l.sorts))
