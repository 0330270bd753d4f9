-- Claims over the example.
use Rattle.std.specs.Prelude.{[], ◌∷◌, codes}
use Rattle.kp_kore.specs.Syntax.{KorePattern, variable}
use Rattle.kp_kore.specs.Claims.{ReachabilityClaim}
use Rattle.kp_toys.specs.Toys.{sort_int, call}
use Rattle.kp_toys.specs.ToysTheory.{vh_of, y}

-- X:SortInt{}
abbrev pub x : KorePattern
x = variable (codes "X") sort_int

abbrev pub vf_of : KorePattern → KorePattern
vf_of p = call (codes "Lblvf") (p ∷ [])

-- vf(X) to vh(X): the X of the end is that of the start
abbrev pub back_to_start : ReachabilityClaim
back_to_start = record { left = vf_of x; right = vh_of x }

-- vf(X) to vh(Y), for some Y
abbrev pub back_somewhere : ReachabilityClaim
back_somewhere = record { left = vf_of x; right = vh_of y }

-- Fresh1:SortInt{}
abbrev pub fresh : KorePattern
fresh = variable (codes "Fresh1") sort_int
