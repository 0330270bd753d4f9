use Rattle.std.proofs.Common.{rules, arith, ◌≡◌, length}
use Rattle.kp_symbolic.specs.Languages.{language_view}
use Rattle.kp_outward.proofs.RoomLemmas.{none_room, one_room}
use Rattle.kp_solving.proofs.quoted_clause.clause_out.Goals as goal

pub returns-in_ok-bottom_out-in-empty-clause-room : goal.returns-in_ok-bottom_out-in-empty-clause-room
returns-in_ok-bottom_out-in-empty-clause-room c =
    let none : length c.args.literals.now ≡ 0 = search rules in
    none_room (language_view c.args.language.now) c.args.literals.now none

pub returns-in_ok-alone_out-in-len1-clause-room : goal.returns-in_ok-alone_out-in-len1-clause-room
returns-in_ok-alone_out-in-len1-clause-room c =
    let one : length c.args.literals.now ≡ 1 = omega arith in
    one_room (language_view c.args.language.now) c.args.literals.now c.literal-item.result one c.literal-item.is c.in_ok-alone_out-in-len1.ensures.room
