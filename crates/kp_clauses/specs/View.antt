-- Which fault of a pattern is told.
use Rattle.std.specs.Prelude.{◌≡◌, Option, Some, string_bytes, ⊤}
use Rattle.kp_clauses.specs.Faults.{StateFault, foreign_symbol, other_shape}
use Rattle.kp_clauses.specs.declared.fault.Misplaced.{Misplaced}
use Rattle.kp_clauses.specs.declared.fault.Misplaced.TheVariants as place
use Rattle.kp_clauses.specs.declared.state.TermFault.{TermFault}
use Rattle.kp_clauses.specs.declared.state.TermFault.TheVariants as error

abbrev pub misplaced_view : Misplaced → StateFault
misplaced_view (place.ForeignSymbol n) = foreign_symbol (string_bytes n.now)
misplaced_view place.OtherShape = other_shape

-- the first fault is told; want of memory says nothing
abbrev pub IsToldOf : Option StateFault → TermFault → Type 0
IsToldOf first error.Memory = ⊤
IsToldOf first error.Unread = ⊤
IsToldOf first (error.ForeignSymbol n) = first ≡ Some (foreign_symbol (string_bytes n))
IsToldOf first error.OtherShape = first ≡ Some other_shape

-- a literal in the pattern can't be read
abbrev pub IsUnread : TermFault → Type 0
IsUnread e = e ≡ error.Unread
