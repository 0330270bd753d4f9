use Rattle.std.proofs.Common.{rules, ◌≡◌, refl, [], ◌∷◌, None, map}
use Rattle.kp_case_laws.specs.Parts.{whole}
use Rattle.kp_unify.specs.Views.{signature_of, numbered_view}
use Rattle.kp_step.specs.Views.{numbered_views, turn_view}
use Rattle.kp_step.proofs.EndLemmas.{all_left, ready_left, remainder_by}
use Rattle.kp_step.proofs.stepping.remainder_of.Goals as goal

pub returns : goal.returns
returns c t used s found from z meet some =
    let g = signature_of c.args.setting in
    let q = numbered_view c.args.part.now in
    let left = numbered_views c.in_ok-left.left.items in
    let one : numbered_views c.push.new.self.items ≡ q ∷ [] = search rules in
    let begun = all_left t used s g q (numbered_views c.push.new.self.items) from.steps.signature from.whole one in
    let after = c.in_ok-left.ensures.left t used None found (whole s) (whole s) from.steps from.setting tt z begun in
    let alone = c.in_ok-left.ensures.alone t used found (whole s) (whole s) from.steps from.setting refl z begun in
    remainder_by t used s g q found (numbered_views c.push.new.self.items) left c.in_ok-decided_parts.field-0 (map turn_view c.args.turns.now) from.steps.signature from.whole z meet one after alone (c.in_ok-decided_parts.ensures t used None found (from.steps, z) (ready_left g used None found (whole s) (whole s) left after))
