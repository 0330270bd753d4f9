use Rattle.std.proofs.Common.{◌≡◌, map, take, true}
use Rattle.std.specs.List.{list_all}
use Rattle.kp_kore.specs.Instance.{Valuation}
use Rattle.kp_ground.specs.Solves.{Solves}
use Rattle.kp_ground.specs.Terms.{term_value, stays_narrow}
use Rattle.kp_ground.specs.TermView.{term_view}
use Rattle.kp_ground.specs.View.{value_view}
use Rattle.kp_ground.proofs.term.CompiledTerm.+evaluate.Given as goal

abbrev pub invariant-evaluate_all-loop-term : goal.invariant-evaluate_all-loop-term
invariant-evaluate_all-loop-term l = (v : Valuation) → Solves v l.bindings →
    (map value_view l.values.items ≡ map (λ t. term_value v (term_view t)) (take l.term-index l.terms))
    × (list_all (λ t. stays_narrow v (term_view t)) (take l.term-index l.terms) ≡ true)
