use Rattle.std.proofs.Common.{◌≡◌, map, take, drop}
use Rattle.std.specs.List.{AllByRecursion}
use Rattle.kp_kore.specs.View.{view, sort_view}
use Rattle.kp_symbolic.specs.Writing.{written_literal}
use Rattle.kp_symbolic.specs.Languages.{language_view}
use Rattle.kp_symbolic.specs.View.{literal_view}
use Rattle.kp_outward.proofs.RoomLemmas.{HasRoomLiteral}
use Rattle.kp_solving.proofs.quoted_clause.literals_out.Given as goal

abbrev pub invariant-loop-literal : goal.invariant-loop-literal
invariant-loop-literal l =
    (map view l.patterns.items ≡ map (λ m. written_literal (language_view l.language) (sort_view l.sort) (literal_view m)) (take l.literal-index l.literals))
    × (AllByRecursion (HasRoomLiteral (language_view l.language)) (drop l.literal-index l.literals) → AllByRecursion (HasRoomLiteral (language_view l.language)) l.literals)
