-- Which conditions the code's conditions are.
use Rattle.std.specs.Prelude.{◌≡◌, true, false, Bool, Result, Ok, Err, List, [], ◌∷◌}
use Rattle.std.specs.List.{list_all, list_any}
use Rattle.kp_kore.specs.Instance.{Valuation}
use Rattle.kp_ground.specs.Conditions.{RuleCondition, always, never, denial, all_of, any_of, implied, equivalent, same, RuleConditions, no_conditions, next_condition, condition_holds, condition_narrow}
use Rattle.kp_ground.specs.TermView.{term_view}
use Rattle.kp_ground.specs.Solves.{Solves}
use Rattle.kp_ground.specs.declared.binding.Binding.{Binding}
use Rattle.kp_ground.specs.declared.evaluate.EvaluationError.{EvaluationError}
use Rattle.kp_ground.specs.declared.evaluate.EvaluationError.TheVariants.{Memory, Number}
use Rattle.kp_ground.specs.declared.condition.Condition.{Condition, fold-Condition}
use Rattle.kp_ground.specs.declared.condition.Condition.TheOpen.{Condition-F}

abbrev pub conditions_of : List RuleCondition → RuleConditions
conditions_of [] = no_conditions
conditions_of (c ∷ cs) = next_condition c (conditions_of cs)

-- one level, with each condition in it already seen as its own
abbrev pub condition_step : Condition-F RuleCondition → RuleCondition
condition_step Condition-F.Always = always
condition_step Condition-F.Never = never
condition_step (Condition-F.Not c) = denial c.value
condition_step (Condition-F.All cs) = all_of (conditions_of cs.items)
condition_step (Condition-F.Any cs) = any_of (conditions_of cs.items)
condition_step (Condition-F.Implies c d) = implied c.value d.value
condition_step (Condition-F.Iff c d) = equivalent c.value d.value
condition_step (Condition-F.Same t s) = same (term_view t) (term_view s)

abbrev pub condition_view : Condition → RuleCondition
condition_view = fold-Condition RuleCondition condition_step

-- a condition: whether it holds under each valuation that the bindings allow, or Number where some call in it is beyond
abbrev pub GivesTruth : Result Bool EvaluationError → List Binding → RuleCondition → Type 0
GivesTruth (Ok b) bindings c = (v : Valuation) → Solves v bindings → (b ≡ condition_holds v c) × (condition_narrow v c ≡ true)
GivesTruth (Err Number) bindings c = (v : Valuation) → Solves v bindings → condition_narrow v c ≡ false
GivesTruth (Err Memory) bindings c = Unit {0}

-- the same of lists: whether all hold, and whether some does
abbrev pub GivesAllTruth : Result Bool EvaluationError → List Binding → List Condition → Type 0
GivesAllTruth (Ok b) bindings cs = (v : Valuation) → Solves v bindings →
    (b ≡ list_all (λ c. condition_holds v (condition_view c)) cs) × (list_all (λ c. condition_narrow v (condition_view c)) cs ≡ true)
GivesAllTruth (Err Number) bindings cs = (v : Valuation) → Solves v bindings → list_all (λ c. condition_narrow v (condition_view c)) cs ≡ false
GivesAllTruth (Err Memory) bindings cs = Unit {0}

abbrev pub GivesAnyTruth : Result Bool EvaluationError → List Binding → List Condition → Type 0
GivesAnyTruth (Ok b) bindings cs = (v : Valuation) → Solves v bindings →
    (b ≡ list_any (λ c. condition_holds v (condition_view c)) cs) × (list_all (λ c. condition_narrow v (condition_view c)) cs ≡ true)
GivesAnyTruth (Err Number) bindings cs = (v : Valuation) → Solves v bindings → list_all (λ c. condition_narrow v (condition_view c)) cs ≡ false
GivesAnyTruth (Err Memory) bindings cs = Unit {0}
