use Rattle.std.proofs.Common.{rules, ◌≡◌, subst}
use Rattle.std.specs.List.{AllByRecursion}
use Rattle.kp_signature.specs.View.{signature_view}
use Rattle.kp_outward.proofs.RoomLemmas.{HasRoomLiteral, on_ok, clause_room}
use Rattle.kp_outward.proofs.clause.clause_out.Goals as goal

pub returns-clause-room : goal.returns-clause-room
returns-clause-room c =
    let g = signature_view c.args.language.now.signature.now in
    let items = c.args.clause.now.literals.value.items in
    let is : c.deref-2.result.now ≡ items = search rules in
    on_ok c.of_literals.result (λ a. clause_room g items (subst (AllByRecursion (HasRoomLiteral g)) is a)) c.of_literals.ensures.room
