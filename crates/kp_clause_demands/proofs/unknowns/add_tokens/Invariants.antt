use Rattle.std.proofs.Common.{◌≡◌, ◌++◌, map, drop}
use Rattle.kp_literals.specs.Forms.{token_part_view}
use Rattle.kp_clause_demands.specs.Numbers.{tokens_in}
use Rattle.kp_clause_demands.proofs.unknowns.add_tokens.Given as goal

abbrev pub invariant-loop-literal : goal.invariant-loop-literal
invariant-loop-literal l = map token_part_view l.parts.items ++ tokens_in l.written (drop l.literal-index l.clause) ≡ map token_part_view l.fn.parts.items ++ tokens_in l.written l.clause
