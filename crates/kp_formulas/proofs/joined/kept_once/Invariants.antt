use Rattle.std.proofs.Common.{◌≡◌, ◌-◌, ◌^◌, min, []}
use Rattle.kp_symbolic.specs.View.{clauses_view}
use Rattle.kp_formulas.specs.Keys.{clauses_with}
use Rattle.kp_formulas.proofs.KeptLemmas.{kept_from, literals_in}
use Rattle.kp_formulas.proofs.KeyLemmas.{AreKeyed}
use Rattle.kp_formulas.proofs.joined.kept_once.Given as goal

abbrev pub invariant-loop-clause : goal.invariant-loop-clause
invariant-loop-clause l =
    (l.literals ≡ min (literals_in (clauses_with l.kept.items)) (2 ^ 64 - 1))
    × (kept_from (clauses_with l.kept.items) (clauses_view l.clause-iterator.rest.items) ≡ kept_from [] (clauses_view l.fn.clauses.items))
    × AreKeyed l.kept.items
