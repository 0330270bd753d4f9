use Rattle.std.proofs.Common.{◌++◌, subst, take}
use Rattle.kp_kore.specs.View.{names_view}
use Rattle.kp_names.specs.Met.{Lists}
use Rattle.kp_claim_sentences.proofs.Noting.{names_more}
use Rattle.kp_claim_files.proofs.labels.note_labels.Goals as goal

pub loop-label-preserved : goal.loop-label-preserved
loop-label-preserved c before is =
    let ls = c.args.labels.now in
    let i = c.loop-label.label-index in
    subst (λ l. Lists l c.note.new.names) (names_more before ls i c.label-item.result c.loop-label-test.true c.label-item.is)
    (c.in_ok-note.ensures (before ++ names_view (take i ls)) (c.loop-label.invariant before is))
