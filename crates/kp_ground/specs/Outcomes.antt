-- What an evaluation answers.
use Rattle.std.specs.Prelude.{◌≡◌, true, false, Result, Ok, Err, map, List, Vec}
use Rattle.std.specs.declared.alloc.Global.{Global}
use Rattle.kp_kore.specs.Value as model
use Rattle.kp_kore.specs.Instance.{Valuation}
use Rattle.kp_ground.specs.Terms.{RuleTerm, is_narrow, stays_narrow, term_value}
use Rattle.std.specs.List.{list_all}
use Rattle.kp_ground.specs.TermView.{term_view}
use Rattle.kp_ground.specs.declared.term.CompiledTerm.{CompiledTerm}
use Rattle.kp_ground.specs.Solves.{Solves}
use Rattle.kp_ground.specs.View.{value_view}
use Rattle.kp_ground.specs.declared.binding.Binding.{Binding}
use Rattle.kp_ground.specs.declared.value.Value.{Value}
use Rattle.kp_ground.specs.declared.evaluate.EvaluationError.{EvaluationError}
use Rattle.kp_ground.specs.declared.evaluate.EvaluationError.TheVariants.{Memory, Number}

-- a call: its value within signed 128 bits, or Number where it is beyond
abbrev pub GivesCall : Result Value EvaluationError → model.Value → Type 0
GivesCall (Ok u) w = (value_view u ≡ w) × (is_narrow w ≡ true)
GivesCall (Err Number) w = is_narrow w ≡ false
GivesCall (Err Memory) w = Unit {0}

-- a term: for each valuation that the bindings allow its value, or Number where some call's value is beyond
abbrev pub Gives : Result Value EvaluationError → List Binding → RuleTerm → Type 0
Gives (Ok u) bindings t = (v : Valuation) → Solves v bindings → (value_view u ≡ term_value v t) × (stays_narrow v t ≡ true)
Gives (Err Number) bindings t = (v : Valuation) → Solves v bindings → stays_narrow v t ≡ false
Gives (Err Memory) bindings t = Unit {0}

-- the same of a list of terms, one by one
abbrev pub GiveAll : Result (Vec Value Global) EvaluationError → List Binding → List CompiledTerm → Type 0
GiveAll (Ok us) bindings ts = (v : Valuation) → Solves v bindings →
    (map value_view us.items ≡ map (λ t. term_value v (term_view t)) ts) × (list_all (λ t. stays_narrow v (term_view t)) ts ≡ true)
GiveAll (Err Number) bindings ts = (v : Valuation) → Solves v bindings → list_all (λ t. stays_narrow v (term_view t)) ts ≡ false
GiveAll (Err Memory) bindings ts = Unit {0}
