use Rattle.std.proofs.Common.{sym, subst}
use Rattle.kp_signature.specs.View.{signature_view}
use Rattle.kp_overlap.specs.Held.{TellsHolders}
use Rattle.kp_overlap.specs.Labels.{AreHolders}
use Rattle.kp_overlap.specs.Views.{graph_view}
use Rattle.kp_overlap.proofs.MeetingLemmas.{told_false}
use Rattle.kp_overlap.proofs.meeting.is_held.Goals as goal

pub returns-in-Clash : goal.returns-in-Clash
returns-in-Clash c i j graph labels settled told = told_false (subst (TellsHolders (signature_view c.args.signature.now) (graph_view c.args.graph.now) i j c.args.labels.now) c.in-Clash.is told)

pub returns-in-Held : goal.returns-in-Held
returns-in-Held c i j graph labels settled told =
    let x = graph_view c.args.graph.now in
    let ls = c.args.labels.now in
    let holders : AreHolders x ls c.in-Held.holders.items = subst (TellsHolders (signature_view c.args.signature.now) x i j ls) c.in-Held.is told in
    c.is_solved.ensures i j graph labels settled (subst (AreHolders x ls) (sym c.deref.ensures.value) holders)
