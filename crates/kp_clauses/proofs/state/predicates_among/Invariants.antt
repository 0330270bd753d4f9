use Rattle.std.proofs.Common.{◌≡◌, ◌++◌, not, drop}
use Rattle.std.specs.List.{filter}
use Rattle.kp_kore.specs.Parts.{is_term}
use Rattle.kp_compile.specs.Parts.{seen}
use Rattle.kp_clauses.proofs.state.predicates_among.Given as goal

abbrev pub invariant-loop-member : goal.invariant-loop-member
invariant-loop-member l =
    seen l.found.items ++ filter (λ p. not (is_term p)) (seen (drop l.member-index l.members)) ≡ filter (λ p. not (is_term p)) (seen l.members)
