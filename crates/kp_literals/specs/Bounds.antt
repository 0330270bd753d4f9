-- Which bounds of differences the code's are.
use Rattle.std.specs.Prelude.{ℤ, pos, negsuc, Bool, true, false, List, [], ◌∷◌, ◌++◌, Option, Some, None}
use Rattle.kp_symbolic.specs.Plain.{Form, ReadLiteral}
use Rattle.kp_symbolic.specs.Weights.{DifferenceBound, below, bounds_of}
use Rattle.kp_literals.specs.Forms.{whole_part_view}
use Rattle.kp_literals.specs.declared.bounds.Difference.{Difference}

-- less by one where it is strict
abbrev pub strictness : Bool → ℤ
strictness true = negsuc 0
strictness false = pos 0

abbrev pub difference_view : Difference → DifferenceBound
difference_view d = below (whole_part_view d.first) (whole_part_view d.second) (strictness d.is_strict)

-- the bounds of what a literal says, and of a clause
abbrev pub said_bounds : Option Form → List DifferenceBound
said_bounds (Some f) = bounds_of f
said_bounds None = []

abbrev pub clause_bounds : List ReadLiteral → List DifferenceBound
clause_bounds [] = []
clause_bounds (l ∷ c) = said_bounds l.form ++ clause_bounds c
