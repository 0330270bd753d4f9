-- Which values of the model the code's values are.
use Rattle.std.specs.Prelude.{List, [], ◌∷◌, string_bytes}
use Rattle.kp_kore.specs.View.{sort_view}
use Rattle.kp_kore.specs.Value as model
use Rattle.kp_ground.specs.declared.value.Value.{Value, fold-Value}
use Rattle.kp_ground.specs.declared.value.Value.TheOpen.{Value-F}

abbrev pub values_of : List model.Value → model.Values
values_of [] = model.no_values
values_of (u ∷ us) = model.next_value u (values_of us)

-- one level, with each argument already seen as its value
abbrev pub value_step : Value-F model.Value → model.Value
value_step (Value-F.Whole n) = model.whole n
value_step (Value-F.Truth b) = model.truth b
value_step (Value-F.Token s t) = model.token (sort_view s) (string_bytes t)
value_step (Value-F.Constructed c us) = model.constructed (string_bytes c.value) (values_of us.value.items)

abbrev pub value_view : Value → model.Value
value_view = fold-Value model.Value value_step
