use Rattle.kp_history.proofs.Consequences.{a_pass_with_all_places_is_alone}
use Rattle.kp_history.proofs.laws.a_pass_with_all_places_is_alone.Goals as goal

pub returns : goal.returns
returns g c = a_pass_with_all_places_is_alone g.B.Archive.entries g.B.Archive.sound g.B.Archive.legal
