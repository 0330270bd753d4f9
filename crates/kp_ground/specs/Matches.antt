-- What a match answers: a match is found exactly where a valuation that solves the old bindings makes the left term's
-- instance the value, and the new bindings are solved by exactly those valuations.
use Rattle.std.specs.Prelude.{◌≡◌, ◌↔◌, Result, Ok, Err, Option, Some, None, List, Vec, map}
use Rattle.std.specs.declared.alloc.Global.{Global}
use Rattle.kp_kore.specs.Value as model
use Rattle.kp_kore.specs.Instance.{Valuation}
use Rattle.kp_ground.specs.Terms.{LeftTerm, left_value}
use Rattle.kp_ground.specs.LeftView.{left_view}
use Rattle.kp_ground.specs.View.{value_view}
use Rattle.kp_ground.specs.Slots.{Place, names_after}
use Rattle.kp_ground.specs.Solves.{Solves, bound_names}
use Rattle.kp_ground.specs.declared.binding.Binding.{Binding}
use Rattle.kp_ground.specs.declared.left_side.CompiledLeft.{CompiledLeft}
use Rattle.kp_ground.specs.declared.value.Value.{Value}

abbrev pub Matches : {E : Type 0} → Result (Option (Vec Binding Global)) E → List Binding → (Valuation → Type 0) → Type 0
Matches (Ok (Some new)) old Same = (v : Valuation) → Solves v new.items ↔ (Solves v old × Same v)
Matches (Ok None) old Same = (v : Valuation) → Solves v old → ¬ Same v
Matches (Err e) old Same = Unit {0}

-- some valuation solves the bindings
abbrev pub IsSolvable : List Binding → Type 0
IsSolvable bindings = (v : Valuation) × Solves v bindings

-- where the old bindings are solvable, those of a match are
abbrev pub StaysSolvable : {E : Type 0} → Result (Option (Vec Binding Global)) E → List Binding → Type 0
StaysSolvable (Ok (Some new)) old = IsSolvable old → IsSolvable new.items
StaysSolvable (Ok None) old = Unit {0}
StaysSolvable (Err e) old = Unit {0}

-- the new bindings are those of the old names and of these places, by slot
abbrev pub BindsNames : {E : Type 0} → Result (Option (Vec Binding Global)) E → List Binding → List Place → Type 0
BindsNames (Ok (Some new)) old places = bound_names new.items ≡ names_after (bound_names old) places
BindsNames (Ok None) old places = Unit {0}
BindsNames (Err e) old places = Unit {0}

-- the left term's instance is the value
abbrev pub IsSame : LeftTerm → model.Value → Valuation → Type 0
IsSame t u v = left_value v t ≡ u

-- the same of lists, one by one
abbrev pub AreSame : List CompiledLeft → List Value → Valuation → Type 0
AreSame ts us v = map (λ t. left_value v (left_view t)) ts ≡ map value_view us
