-- Which left terms the code's left terms are.
use Rattle.std.specs.Prelude.{List, [], ◌∷◌, string_bytes}
use Rattle.kp_ground.specs.Terms.{LeftTerm, left_bound, left_fixed, left_built, LeftTerms, no_lefts, next_left}
use Rattle.kp_ground.specs.View.{value_view}
use Rattle.kp_ground.specs.declared.left_side.CompiledLeft.{CompiledLeft, fold-CompiledLeft}
use Rattle.kp_ground.specs.declared.left_side.CompiledLeft.TheOpen.{CompiledLeft-F}

abbrev pub lefts_of : List LeftTerm → LeftTerms
lefts_of [] = no_lefts
lefts_of (t ∷ ts) = next_left t (lefts_of ts)

-- one level, with each argument already seen as its left term
abbrev pub left_step : CompiledLeft-F LeftTerm → LeftTerm
left_step (CompiledLeft-F.Variable x i) = left_bound (string_bytes x.value)
left_step (CompiledLeft-F.Fixed u) = left_fixed (value_view u)
left_step (CompiledLeft-F.Built c ts) = left_built (string_bytes c.value) (lefts_of ts.items)

abbrev pub left_view : CompiledLeft → LeftTerm
left_view = fold-CompiledLeft LeftTerm left_step
