use Rattle.kp_kore.specs.View.{sort_view}
use Rattle.kp_signature.specs.View.{signature_view}
use Rattle.kp_symbolic.specs.View.{term_view}
use Rattle.kp_rules.specs.Skeletons.{skeleton_view}
use Rattle.kp_overlap.proofs.MeetingLemmas.{meets_by}
use Rattle.kp_overlap.proofs.meeting.meets.Goals as goal

pub returns : goal.returns
returns c = meets_by (signature_view c.args.signature.now) (sort_view c.args.sort.now) (term_view c.args.term.now) (skeleton_view c.in_ok-term.term) (skeleton_view c.args.left.now) c.overlap.result c.in_ok-term.ensures c.overlap.ensures
