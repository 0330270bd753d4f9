-- Which read literals and clauses of kp_symbolic the code's are.
use Rattle.std.specs.Prelude.{List, map, Vec}
use Rattle.std.specs.declared.alloc.Global.{Global}
use Rattle.std.specs.Option.{option_map}
use Rattle.kp_symbolic.specs.Plain as model
use Rattle.kp_symbolic.specs.View.{literal_view}
use Rattle.kp_literals.specs.Forms.{form_view}
use Rattle.kp_literals.specs.declared.reading.ReadLiteral.{ReadLiteral}

abbrev pub read_view : ReadLiteral → model.ReadLiteral
read_view l = record { literal = literal_view l.literal.now; form = option_map form_view l.form }

abbrev pub clauses_view : List (Vec ReadLiteral Global) → List (List model.ReadLiteral)
clauses_view cs = map (λ c. map read_view c.items) cs
