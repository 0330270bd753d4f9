-- What bindings say of a valuation.
use Rattle.std.specs.Prelude.{◌≡◌, List, map, string_bytes}
use Rattle.std.specs.List.{AllByRecursion}
use Rattle.kp_kore.specs.Syntax.{Text}
use Rattle.kp_kore.specs.Instance.{Valuation}
use Rattle.kp_ground.specs.View.{value_view}
use Rattle.kp_ground.specs.declared.binding.Binding.{Binding}

-- each bound variable has its value
abbrev pub Solves : Valuation → List Binding → Type 0
Solves v bindings = AllByRecursion (λ b. v (string_bytes b.name.value) ≡ value_view b.value) bindings

-- the variables that are bound, by slot
abbrev pub bound_names : List Binding → List Text
bound_names bindings = map (λ b. string_bytes b.name.value) bindings
