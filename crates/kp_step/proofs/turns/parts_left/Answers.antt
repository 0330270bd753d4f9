use Rattle.std.proofs.Common.{ap, map, Some}
use Rattle.kp_symbolic.specs.View.{state_view}
use Rattle.kp_case_laws.specs.Parts.{whole}
use Rattle.kp_unify.specs.Views.{signature_of, numbered_view}
use Rattle.kp_step.specs.Views.{numbered_views, turn_view}
use Rattle.kp_step.proofs.TriedLemmas.{fires_at, form_here, left_told}
use Rattle.kp_step.proofs.turns.parts_left.Goals as goal

pub returns : goal.returns
returns c t used s found k z all place f at i own number same =
    let g = signature_of c.args.setting in
    let there = fires_at t used s place f g (numbered_view c.args.part) i k.steps.signature same in
    let parts = c.in_ok-parts.ensures t used i.rule found (whole s) f.part.part k.steps k.setting (number i.rule i.read i.at i.body) z there in
    left_told t used s (state_view c.args.whole.now.state) place found f g i (map turn_view c.args.turns.now) (numbered_views c.in_ok-parts.parts.items) c.in_ok-decided_parts.field-0 k.steps.signature (ap (λ p. p.state) k.whole.is) k.whole.instance z own all parts
    (c.in_ok-decided_parts.ensures t used (Some i.rule) found (k.steps, form_here t used s place f c.args.left.now i at, z))
