use Rattle.std.proofs.Common.{rules, arith}
use Rattle.kp_history.proofs.Placing.{splits}
use Rattle.kp_history.proofs.history.History.split.Goals as goal

pub split_seat-seat-requires : goal.split_seat-seat-requires
split_seat-seat-requires g c = let spare = c.requires.pass.spare in let some_left = c.if-pass-eq0.false in
    (search rules, search rules, splits g.B.Archive.entries g.B.Archive.sound g.B.Archive.legal c.args.self.now.table.shared.key _ _ c.requires.pass.at_rest (grind (arith, spare, some_left)))
