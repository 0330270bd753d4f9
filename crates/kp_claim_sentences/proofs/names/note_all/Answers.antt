use Rattle.std.proofs.Common.{◌++◌, subst, map, take}
use Rattle.kp_kore.specs.View.{sorted_variable_view}
use Rattle.kp_names.specs.Met.{Lists}
use Rattle.kp_claim_sentences.proofs.Noting.{variables_more}
use Rattle.kp_claim_sentences.proofs.names.note_all.Goals as goal

pub loop-variable-preserved : goal.loop-variable-preserved
loop-variable-preserved c before is =
    let vs = c.args.variables.now in
    let i = c.loop-variable.variable-index in
    subst (λ l. Lists l c.note.new.names) (variables_more before vs i c.variable-item.result c.loop-variable-test.true c.variable-item.is)
    (c.in_ok-note.ensures (before ++ map (λ x. x.name) (map sorted_variable_view (take i vs))) (c.loop-variable.invariant before is))
