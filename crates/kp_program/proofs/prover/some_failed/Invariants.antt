use Rattle.std.proofs.Common.{◌≡◌, map, drop}
use Rattle.std.specs.List.{list_any}
use Rattle.kp_report.specs.View.{line_view}
use Rattle.kp_program.specs.Proofs.{has_failed}
use Rattle.kp_program.proofs.prover.some_failed.Given as goal

abbrev pub invariant-loop-line : goal.invariant-loop-line
invariant-loop-line l = list_any (λ x. has_failed x.outcome) (map line_view (drop l.line-index l.lines)) ≡ list_any (λ x. has_failed x.outcome) (map line_view l.lines)
