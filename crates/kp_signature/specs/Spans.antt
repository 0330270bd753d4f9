-- Sets of numbers as spans, and what is reached from each number as spans.
use Rattle.std.specs.Prelude.{ℕ, ◌<◌, ◌≤◌, List, [], map, length, get_or, ◌↔◌, Vec}
use Rattle.std.specs.List.{Contains}
use Rattle.std.specs.declared.alloc.Global.{Global}
use Rattle.kp_signature.specs.Edges.{Reaches}
use Rattle.kp_signature.specs.declared.spans.Span.{Span}

-- the number stands in the span, both ends of it included
abbrev pub Holds : Span → ℕ → Type 0
Holds s j = (s.first ≤ j) × (j ≤ s.last)

-- in one of the spans
abbrev pub IsWithin : List Span → ℕ → Type 0
IsWithin spans j = (s : Span) × Contains spans s × Holds s j

abbrev pub spans_of : List (Vec Span Global) → List (List Span)
spans_of = map (λ v. v.items)

-- the spans of each number hold what is reached from it
abbrev pub IsSpread : List (List ℕ) → List (Vec Span Global) → Type 0
IsSpread edges spans = (i j : ℕ) → i < length spans → IsWithin (get_or (spans_of spans) i []) j ↔ Reaches edges i j
