use Rattle.std.proofs.Common.{◌≡◌, ◌++◌, map, drop}
use Rattle.std.specs.List.{AllByRecursion}
use Rattle.kp_kore.specs.View.{sort_view}
use Rattle.kp_signature.specs.View.{signature_view}
use Rattle.kp_symbolic.specs.Writing.{written_literal}
use Rattle.kp_symbolic.specs.View.{literal_view}
use Rattle.kp_outward.specs.View.{patterns_in}
use Rattle.kp_outward.proofs.RoomLemmas.{HasRoomLiteral}
use Rattle.kp_outward.proofs.clause.literals_out.Given as goal

abbrev pub invariant-loop-literal : goal.invariant-loop-literal
invariant-loop-literal l =
    (patterns_in l.found.items ++ map (written_literal (signature_view l.language.signature.now) (sort_view l.sort)) (map literal_view (drop l.literal-index l.literals))
    ≡ map (written_literal (signature_view l.language.signature.now) (sort_view l.sort)) (map literal_view l.literals))
    × (AllByRecursion (HasRoomLiteral (signature_view l.language.signature.now)) (drop l.literal-index l.literals) → AllByRecursion (HasRoomLiteral (signature_view l.language.signature.now)) l.literals)
