-- Which side of an equation is written first.
-- Source: this project.
use Rattle.std.specs.Prelude.{Bool, false}
use Rattle.kp_kore.specs.Signature.{KoreSignature}
use Rattle.kp_symbolic.specs.Terms.{SymbolicTerm, unknown}
use Rattle.kp_symbolic.specs.Writing.{is_solved_by, is_second_solved}

-- the second side is a variable that is solved for, and the first isn't
abbrev pub is_turned : KoreSignature → SymbolicTerm → SymbolicTerm → Bool
is_turned g (unknown x) (unknown y) = is_second_solved g x y
is_turned g t (unknown y) = is_solved_by g y t
is_turned g t u = false
