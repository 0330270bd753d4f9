use Rattle.std.proofs.Common.{◌≡◌, drop}
use Rattle.kp_kore.specs.Hooks.{found_under}
use Rattle.kp_signature.specs.Meanings.{rows_view}
use Rattle.kp_signature.proofs.hooks.found_among.Given as goal

abbrev pub invariant-loop-row : goal.invariant-loop-row
invariant-loop-row l = found_under l.name (rows_view (drop l.row-index l.rows)) ≡ found_under l.name (rows_view l.initial.rows)
