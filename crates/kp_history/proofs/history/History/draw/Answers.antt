use Rattle.std.proofs.Common.{rules}
use Rattle.kp_history.proofs.Turning.{draws}
use Rattle.kp_history.proofs.history.History.draw.Goals as goal

pub fetch_add-requires : goal.fetch_add-requires
fetch_add-requires g c = (search rules, search rules, draws g.B.Archive.entries g.B.Archive.sound g.B.Archive.legal c.args.self.now.table.shared.key _ _ _ c.requires.pass.at_rest)
