use Rattle.std.proofs.Common.{◌≡◌, map, take}
use Rattle.kp_kore.specs.View.{sort_view}
use Rattle.kp_kore.proofs.sort.Sort.+copy.Given as goal

abbrev pub invariant-copy_all-loop-sort : goal.invariant-copy_all-loop-sort
invariant-copy_all-loop-sort l = map sort_view l.copies.items ≡ map sort_view (take l.sort-index l.sorts)
