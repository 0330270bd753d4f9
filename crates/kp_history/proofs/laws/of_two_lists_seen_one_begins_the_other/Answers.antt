use Rattle.kp_history.proofs.Consequences.{of_two_lists_seen_one_begins_the_other}
use Rattle.kp_history.proofs.laws.of_two_lists_seen_one_begins_the_other.Goals as goal

pub returns : goal.returns
returns g c = of_two_lists_seen_one_begins_the_other g.B.Archive.entries g.B.Archive.sound g.B.Archive.legal
