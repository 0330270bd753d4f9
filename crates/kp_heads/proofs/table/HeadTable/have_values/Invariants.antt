use Rattle.std.proofs.Common.{map, take, Contains}
use Rattle.kp_kore.specs.Syntax.{KoreSort}
use Rattle.kp_kore.specs.View.{sort_view}
use Rattle.kp_signature.specs.View.{signature_view}
use Rattle.kp_heads.specs.Heads.{HasValue}
use Rattle.kp_heads.specs.Made.{IsHeadTableOf}
use Rattle.kp_heads.proofs.table.HeadTable.have_values.Given as goal

abbrev pub invariant-loop-sort : goal.invariant-loop-sort
invariant-loop-sort l = IsHeadTableOf (signature_view l.signature) l.self → (s : KoreSort) → Contains (map sort_view (take l.sort-index l.sorts)) s → HasValue (signature_view l.signature) s
