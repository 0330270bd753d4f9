-- Lists of conditions.
use Rattle.std.proofs.Common.{◌≡◌, refl, ◌∙◌, ap, ◌&&◌, ◌||◌, List, [], ◌∷◌, map}
use Rattle.std.specs.Prelude.{Err}
use Rattle.std.specs.List.{list_all, list_any}
use Rattle.kp_kore.specs.Instance.{Valuation}
use Rattle.kp_ground.specs.Conditions.{all_of, any_of, condition_holds, condition_narrow, all_hold, any_holds, all_narrow}
use Rattle.kp_ground.specs.ConditionView.{condition_view, conditions_of, GivesTruth, GivesAllTruth, GivesAnyTruth}
use Rattle.kp_ground.specs.declared.binding.Binding.{Binding}
use Rattle.kp_ground.specs.declared.condition.Condition.{Condition}
use Rattle.kp_ground.specs.declared.evaluate.EvaluationError.{EvaluationError}
use Rattle.kp_ground.specs.declared.evaluate.EvaluationError.TheVariants.{Memory, Number}

pub all_hold-conditions_of : (v : Valuation) (cs : List Condition) → all_hold v (conditions_of (map condition_view cs)) ≡ list_all (λ c. condition_holds v (condition_view c)) cs
all_hold-conditions_of v [] = refl
all_hold-conditions_of v (c ∷ cs) = ap (λ b. condition_holds v (condition_view c) && b) (all_hold-conditions_of v cs)

pub any_holds-conditions_of : (v : Valuation) (cs : List Condition) → any_holds v (conditions_of (map condition_view cs)) ≡ list_any (λ c. condition_holds v (condition_view c)) cs
any_holds-conditions_of v [] = refl
any_holds-conditions_of v (c ∷ cs) = ap (λ b. condition_holds v (condition_view c) || b) (any_holds-conditions_of v cs)

pub all_narrow-conditions_of : (v : Valuation) (cs : List Condition) → all_narrow v (conditions_of (map condition_view cs)) ≡ list_all (λ c. condition_narrow v (condition_view c)) cs
all_narrow-conditions_of v [] = refl
all_narrow-conditions_of v (c ∷ cs) = ap (λ b. condition_narrow v (condition_view c) && b) (all_narrow-conditions_of v cs)

-- what a failed list says of the condition
pub err_of_all : (e : EvaluationError) (bindings : List Binding) (cs : List Condition) → GivesAllTruth (Err e) bindings cs → GivesTruth (Err e) bindings (all_of (conditions_of (map condition_view cs)))
err_of_all Memory bindings cs g = tt
err_of_all Number bindings cs g = λ v s. all_narrow-conditions_of v cs ∙ g v s

pub err_of_any : (e : EvaluationError) (bindings : List Binding) (cs : List Condition) → GivesAnyTruth (Err e) bindings cs → GivesTruth (Err e) bindings (any_of (conditions_of (map condition_view cs)))
err_of_any Memory bindings cs g = tt
err_of_any Number bindings cs g = λ v s. all_narrow-conditions_of v cs ∙ g v s
