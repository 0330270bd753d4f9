use Rattle.std.proofs.Common.{◌≡◌, ◌+◌, drop, string_bytes}
use Rattle.std.specs.Str.{bytes_eq}
use Rattle.kp_clause_demands.specs.Numbers.{texts, place_by}
use Rattle.kp_clause_demands.proofs.places.place_of_name.Given as goal

abbrev pub invariant-loop-i : goal.invariant-loop-i
invariant-loop-i l = place_by bytes_eq (texts l.names) (string_bytes l.name) ≡ l.i + place_by bytes_eq (texts (drop l.i l.names)) (string_bytes l.name)
