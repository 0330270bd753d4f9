use Rattle.std.proofs.Common.{◌≡◌, ◌++◌, map, drop}
use Rattle.kp_literals.specs.Forms.{token_part_view}
use Rattle.kp_clause_demands.specs.Numbers.{all_tokens}
use Rattle.kp_clause_demands.proofs.unknowns.add_all_tokens.Given as goal

abbrev pub invariant-loop-clause : goal.invariant-loop-clause
invariant-loop-clause l = map token_part_view l.parts.items ++ all_tokens l.written (drop l.clause-index l.clauses) ≡ map token_part_view l.fn.parts.items ++ all_tokens l.written l.clauses
