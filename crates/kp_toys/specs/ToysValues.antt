-- Configurations of the example.
use Rattle.std.specs.Prelude.{ℤ, List, [], ◌∷◌, codes}
use Rattle.kp_kore.specs.Syntax.{Text}
use Rattle.kp_kore.specs.Value.{Value, whole, constructed, Values, no_values, next_value}

abbrev pub values : List Value → Values
values [] = no_values
values (u ∷ us) = next_value u (values us)

-- name{}(arguments)
abbrev pub made : Text → List Value → Value
made name arguments = constructed name (values arguments)

abbrev pub count : ℤ → Value
count k = made (codes "Lblcount") (whole k ∷ [])

abbrev pub done_value : Value
done_value = made (codes "Lbldone") []

abbrev pub odd : ℤ → Value
odd k = made (codes "Lblodd") (whole k ∷ [])

abbrev pub lone_value : Value
lone_value = made (codes "Lbllone") []

abbrev pub vf_value : ℤ → Value
vf_value k = made (codes "Lblvf") (whole k ∷ [])

abbrev pub vg_value : Value
vg_value = made (codes "Lblvg") []

abbrev pub vh_value : ℤ → Value
vh_value k = made (codes "Lblvh") (whole k ∷ [])

abbrev pub goal_value : Value
goal_value = made (codes "Lblgoal") []

abbrev pub num_value : Value → Value
num_value u = made (codes "Lblnum") (u ∷ [])

abbrev pub nil_value : Value
nil_value = made (codes "Lblnil") []
