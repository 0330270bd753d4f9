-- The literals of clauses as the code holds them, and which of the clauses are plain.
use Rattle.std.specs.Prelude.{Bool, List, map, Vec}
use Rattle.std.specs.declared.alloc.Global.{Global}
use Rattle.kp_symbolic.specs.Plain.{is_plain_clause}
use Rattle.kp_literals.specs.Readings.{read_view}
use Rattle.kp_literals.specs.declared.reading.ReadLiteral.{ReadLiteral}

abbrev pub clauses_of : List (Vec ReadLiteral Global) → List (List ReadLiteral)
clauses_of cs = map (λ c. c.items) cs

-- all literals of the clause say what is decided
abbrev pub is_plain_read : List ReadLiteral → Bool
is_plain_read c = is_plain_clause (map read_view c)
