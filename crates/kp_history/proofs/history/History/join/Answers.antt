use Rattle.std.proofs.Common.{rules, ◌≡◌, ◌+◌, ap, ◌∙◌, arith}
use Rattle.kp_history.proofs.Placing.{joins, settles}
use Rattle.kp_history.proofs.history.History.join.Goals as goal

pub join_seat-requires : goal.join_seat-requires
join_seat-requires g c =
    (search rules, search rules, search rules, search rules, joins g.B.Archive.entries g.B.Archive.sound g.B.Archive.legal c.args.self.now.table.shared.key _ _ _ _ c.requires.pass.at_rest c.requires.other.at_rest)

pub load-requires : goal.load-requires
load-requires g c =
    let j = c.join_seat.ensures.2 in
    let mine = c.requires.pass.spare in
    let places : c.join_seat.new.seat.me.0.places ≡ c.args.pass.now.seat.me.0.places + c.args.other.seat.me.0.places = ap (λ m. m.0.places) j in
    (search rules, search rules, settles g.B.Archive.entries g.B.Archive.sound g.B.Archive.legal c.args.self.now.table.shared.key _ _ _ (omega arith) (ap (λ m. m.0.turn) j ∙ c.requires.pass.at_rest.no_turn))
