use Rattle.std.proofs.Common.{◌≡◌, map, drop}
use Rattle.std.specs.List.{list_all}
use Rattle.kp_report.specs.View.{line_view}
use Rattle.kp_program.specs.Proofs.{has_passed}
use Rattle.kp_program.proofs.prover.each_passed.Given as goal

abbrev pub invariant-loop-line : goal.invariant-loop-line
invariant-loop-line l = list_all (λ x. has_passed x.outcome) (map line_view (drop l.line-index l.lines)) ≡ list_all (λ x. has_passed x.outcome) (map line_view l.lines)
