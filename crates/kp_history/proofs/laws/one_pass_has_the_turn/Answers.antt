use Rattle.kp_history.proofs.Consequences.{one_pass_has_the_turn}
use Rattle.kp_history.proofs.laws.one_pass_has_the_turn.Goals as goal

pub returns : goal.returns
returns g c = one_pass_has_the_turn g.B.Archive.entries g.B.Archive.sound g.B.Archive.legal
