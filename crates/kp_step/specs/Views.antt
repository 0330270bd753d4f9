-- Which parts, turns, next states and limits the code's are.
use Rattle.std.specs.Prelude.{List, map, string_bytes}
use Rattle.kp_symbolic.specs.States.{SymbolicState}
use Rattle.kp_symbolic.specs.View.{clauses_view, replaced_view, state_view}
use Rattle.kp_unify.specs.Narrowed.{NumberedPart}
use Rattle.kp_unify.specs.Views.{part_view, numbered_view}
use Rattle.kp_unify.specs.declared.part.Part.{Part}
use Rattle.kp_step.specs.Found.{PlacedTurn}
use Rattle.kp_step.specs.Follows.{PlacedNext}
use Rattle.kp_step.specs.Limits.{TermLimit, number, depth, with_more}
use Rattle.kp_step.specs.declared.outcome.StepLimit.{StepLimit}
use Rattle.kp_step.specs.declared.outcome.StepLimit.TheVariants.{Number, Depth}
use Rattle.kp_step.specs.declared.outcome.Next.{Next}
use Rattle.kp_step.specs.declared.turns.Turn.{Turn}

abbrev pub numbered_views : List Part → List NumberedPart
numbered_views = map numbered_view

abbrev pub turn_view : Turn → PlacedTurn
turn_view k = record { place = k.place; priority = k.priority; parts = numbered_views k.parts.items; bindings = map replaced_view k.bindings.items }

abbrev pub next_view : Next → PlacedNext
next_view n = record { place = n.rule; part = part_view n.part; state = state_view n.state; next = n.next }

abbrev pub limit_view : StepLimit → TermLimit
limit_view (Number f m n) = number (record { symbol = string_bytes f.value; first = m; second = n })
limit_view (Depth k) = depth k

-- what is written for a next state, and for a part that remains: the state, and the predicate's clauses
abbrev pub next_told : Next → SymbolicState
next_told n = with_more (state_view n.state) (clauses_view n.part.added.items)

abbrev pub part_told : Part → SymbolicState
part_told p = with_more (state_view p.state) (clauses_view p.added.items)
