-- The faults that the Rust types stand for.
use Rattle.std.specs.Prelude.{string_bytes}
use Rattle.kp_clauses.specs.Faults as side
use Rattle.kp_sides.specs.Sides as sides
use Rattle.kp_sides.specs.declared.side.SideFault.{SideFault}
use Rattle.kp_sides.specs.declared.side.SideFault.TheVariants as of_side
use Rattle.kp_sides.specs.declared.sides.ComparisonFault.{ComparisonFault}
use Rattle.kp_sides.specs.declared.sides.ComparisonFault.TheVariants as of_sides

abbrev pub side_fault_view : SideFault → side.StateFault
side_fault_view (of_side.ForeignSymbol name) = side.foreign_symbol (string_bytes name)
side_fault_view of_side.OtherShape = side.other_shape

abbrev pub sides_fault_view : ComparisonFault → sides.SidesFault
sides_fault_view (of_sides.Idle name) = sides.idle (string_bytes name)
sides_fault_view of_sides.OtherTerms = sides.other_terms
sides_fault_view (of_sides.UnclearName name) = sides.unclear_name (string_bytes name)
