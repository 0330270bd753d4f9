-- Values of lists of terms.
use Rattle.std.proofs.Common.{◌≡◌, refl, ◌∙◌, ap, ◌&&◌, List, [], ◌∷◌, map}
use Rattle.std.specs.List.{list_all}
use Rattle.kp_kore.specs.Value.{next_value}
use Rattle.kp_kore.specs.Instance.{Valuation}
use Rattle.kp_ground.specs.Terms.{built, term_value, term_values, stays_narrow, all_stay_narrow}
use Rattle.kp_ground.specs.TermView.{term_view, terms_of}
use Rattle.kp_ground.specs.View.{values_of}
use Rattle.std.specs.Prelude.{Err}
use Rattle.kp_kore.specs.Syntax.{Text}
use Rattle.kp_ground.specs.Outcomes.{Gives, GiveAll}
use Rattle.kp_ground.specs.declared.binding.Binding.{Binding}
use Rattle.kp_ground.specs.declared.evaluate.EvaluationError.{EvaluationError}
use Rattle.kp_ground.specs.declared.evaluate.EvaluationError.TheVariants.{Memory, Number}
use Rattle.kp_ground.specs.declared.term.CompiledTerm.{CompiledTerm}

pub term_values-terms_of : (v : Valuation) (ts : List CompiledTerm) → term_values v (terms_of (map term_view ts)) ≡ values_of (map (λ t. term_value v (term_view t)) ts)
term_values-terms_of v [] = refl
term_values-terms_of v (t ∷ ts) = ap (next_value (term_value v (term_view t))) (term_values-terms_of v ts)

pub all_stay_narrow-terms_of : (v : Valuation) (ts : List CompiledTerm) → all_stay_narrow v (terms_of (map term_view ts)) ≡ list_all (λ t. stays_narrow v (term_view t)) ts
all_stay_narrow-terms_of v [] = refl
all_stay_narrow-terms_of v (t ∷ ts) = ap (λ b. stays_narrow v (term_view t) && b) (all_stay_narrow-terms_of v ts)

-- what a failed list of arguments says of the term
pub err_of_arguments : (e : EvaluationError) (bindings : List Binding) (c : Text) (ts : List CompiledTerm) → GiveAll (Err e) bindings ts → Gives (Err e) bindings (built c (terms_of (map term_view ts)))
err_of_arguments Memory bindings c ts g = tt
err_of_arguments Number bindings c ts g = λ v s. all_stay_narrow-terms_of v ts ∙ g v s
