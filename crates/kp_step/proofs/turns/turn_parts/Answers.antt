use Rattle.std.proofs.Common.{ap}
use Rattle.kp_symbolic.specs.View.{state_view}
use Rattle.kp_rules.specs.Skeletons.{skeleton_view}
use Rattle.kp_unify.specs.Views.{signature_of, numbered_view}
use Rattle.kp_step.proofs.MeetLemmas.{whole_sorted}
use Rattle.kp_step.proofs.TriedLemmas.{some_answer, answer_there, rule_of_firing, nothing_told}
use Rattle.kp_step.proofs.turns.turn_parts.Goals as goal

pub returns-in-Nothing : goal.returns-in-Nothing
returns-in-Nothing c t used s found k z all place f at i number same =
    let m = answer_there t used s (state_view c.args.whole.now.state) place f c.args.left.now (signature_of c.args.setting) (numbered_view c.args.part) c.in_ok-answer_where_met.field-0 k.steps.signature (ap (λ p. p.state) k.whole.is) (whole_sorted t.signature used s (numbered_view c.args.whole.now) k.whole) at i same c.in_ok-answer_where_met.ensures in
    nothing_told t used s place found f (skeleton_view c.args.left.now) c.in_ok-answer_where_met.field-0 c.new-parts.result.items i m c.in-Nothing.is c.new-parts.ensures.items

pub returns-in-Instance : goal.returns-in-Instance
returns-in-Instance c t used s found k z all place f at i number same =
    let m = answer_there t used s (state_view c.args.whole.now.state) place f c.args.left.now (signature_of c.args.setting) (numbered_view c.args.part) c.in_ok-answer_where_met.field-0 k.steps.signature (ap (λ p. p.state) k.whole.is) (whole_sorted t.signature used s (numbered_view c.args.whole.now) k.whole) at i same c.in_ok-answer_where_met.ensures in
    c.parts_left.ensures t used s found k z all place f at i (rule_of_firing t used s place f c.args.left.now i at (m.meets (some_answer c.in_ok-answer_where_met.field-0 c.in-Instance.is))) number same
