use Rattle.std.proofs.Common.{◌≡◌, take, true}
use Rattle.std.specs.List.{list_all, list_any}
use Rattle.kp_kore.specs.Instance.{Valuation}
use Rattle.kp_ground.specs.Solves.{Solves}
use Rattle.kp_ground.specs.Conditions.{condition_holds, condition_narrow}
use Rattle.kp_ground.specs.ConditionView.{condition_view}
use Rattle.kp_ground.proofs.condition.Condition.+holding.Given as goal

abbrev pub invariant-all_hold-loop-condition : goal.invariant-all_hold-loop-condition
invariant-all_hold-loop-condition l = (v : Valuation) → Solves v l.bindings →
    (l.all ≡ list_all (λ c. condition_holds v (condition_view c)) (take l.condition-index l.conditions))
    × (list_all (λ c. condition_narrow v (condition_view c)) (take l.condition-index l.conditions) ≡ true)

abbrev pub invariant-any_holds-loop-condition : goal.invariant-any_holds-loop-condition
invariant-any_holds-loop-condition l = (v : Valuation) → Solves v l.bindings →
    (l.any ≡ list_any (λ c. condition_holds v (condition_view c)) (take l.condition-index l.conditions))
    × (list_all (λ c. condition_narrow v (condition_view c)) (take l.condition-index l.conditions) ≡ true)
