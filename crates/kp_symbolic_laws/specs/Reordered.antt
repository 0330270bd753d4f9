-- Clauses whose literals stand in another order.
-- Source: this project.
use Rattle.std.specs.Prelude.{List}
use Rattle.std.specs.List.{Contains}
use Rattle.std.specs.List.Sorted.{IsPermutation}
use Rattle.kp_symbolic.specs.States.{Literal}

-- each of the second clauses has the literals of one of the first, in some order
abbrev pub AreReordered : List (List Literal) → List (List Literal) → Type 0
AreReordered cs ds = (d : List Literal) → Contains ds d → (c : List Literal) × Contains cs c × IsPermutation c d
