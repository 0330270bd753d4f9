use Rattle.std.proofs.Common.{◌≡◌, ◌∙◌, ap, refl, not}
use Rattle.kp_kore.specs.Value.{truth, values_same}
use Rattle.kp_ground.specs.View.{value_view}
use Rattle.kp_ground.proofs.ValueLists.{same_answer}
use Rattle.kp_ground.proofs.evaluate.call_of_two.Goals as goal

pub returns-in-Equal : goal.returns-in-Equal
returns-in-Equal c =
    let r : c.equal.result ≡ values_same (value_view c.args.left.now) (value_view c.args.right.now) = same_answer c.equal.result _ _ c.equal.ensures in
    rw c.in-Equal.is (c.truth_value.ensures ∙ ap truth r, refl)

pub returns-in-Different : goal.returns-in-Different
returns-in-Different c =
    let r : c.equal-in-Different.result ≡ values_same (value_view c.args.left.now) (value_view c.args.right.now) = same_answer c.equal-in-Different.result _ _ c.equal-in-Different.ensures in
    rw c.in-Different.is (c.truth_value-in-Different.ensures ∙ ap (λ b. truth (not b)) r, refl)
