use Rattle.std.proofs.Common.{map, take}
use Rattle.kp_kore.specs.View.{sort_view}
use Rattle.kp_signature.specs.Numbering.{IsNumbering, sorts_in}
use Rattle.kp_heads.specs.Made.{HasNumbers}
use Rattle.kp_heads.proofs.made.numbers_for.Given as goal

abbrev pub invariant-loop-sort : goal.invariant-loop-sort
invariant-loop-sort l = IsNumbering l.fn.numbering → HasNumbers (sorts_in l.fn.numbering) l.numbering (map sort_view (take l.sort-index l.sorts)) l.numbers.items
