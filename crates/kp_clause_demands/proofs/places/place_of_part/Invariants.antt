use Rattle.std.proofs.Common.{◌≡◌, ◌+◌, map, drop}
use Rattle.kp_literals.specs.Forms.{token_part_view}
use Rattle.kp_clause_demands.specs.Numbers.{place_by, parts_same}
use Rattle.kp_clause_demands.proofs.places.place_of_part.Given as goal

abbrev pub invariant-loop-i : goal.invariant-loop-i
invariant-loop-i l =
    place_by parts_same (map token_part_view l.parts) (token_part_view l.part)
    ≡ l.i + place_by parts_same (map token_part_view (drop l.i l.parts)) (token_part_view l.part)
