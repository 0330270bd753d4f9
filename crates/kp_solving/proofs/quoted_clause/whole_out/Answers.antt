use Rattle.std.proofs.Common.{rules, ◌≡◌, subst}
use Rattle.std.specs.List.{AllByRecursion}
use Rattle.kp_symbolic.specs.Languages.{language_view}
use Rattle.kp_outward.proofs.RoomLemmas.{HasRoomLiteral, on_ok, clause_room}
use Rattle.kp_solving.proofs.quoted_clause.whole_out.Goals as goal

pub returns-clause-room : goal.returns-clause-room
returns-clause-room c =
    let g = language_view c.args.language.now in
    let items = c.args.clause.now.literals.value.items in
    let is : c.deref-2.result.now ≡ items = search rules in
    on_ok c.clause_out.result (λ a. clause_room g items (subst (AllByRecursion (HasRoomLiteral g)) is a)) c.clause_out.ensures.room
