use Rattle.std.proofs.Common.{take, drop}
use Rattle.std.specs.List.{AllByRecursion, AllZip}
use Rattle.kp_kore.specs.View.{sort_view}
use Rattle.kp_signature.specs.View.{signature_view}
use Rattle.kp_outward.specs.Arranged.{IsSpelledClause}
use Rattle.kp_outward.proofs.RoomLemmas.{HasRoomCodeClause}
use Rattle.kp_outward.proofs.state.clauses_out.Given as goal

abbrev pub invariant-loop-clause : goal.invariant-loop-clause
invariant-loop-clause l = AllZip (IsSpelledClause (signature_view l.language.signature.now) (sort_view l.sort)) (take l.clause-index l.clauses) l.found.items
    × (AllByRecursion (HasRoomCodeClause (signature_view l.language.signature.now)) (drop l.clause-index l.clauses) → AllByRecursion (HasRoomCodeClause (signature_view l.language.signature.now)) l.clauses)
