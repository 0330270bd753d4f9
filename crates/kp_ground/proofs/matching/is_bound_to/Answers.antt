use Rattle.std.proofs.Common.{◌≡◌, ◌∙◌, sym}
use Rattle.kp_ground.specs.View.{value_view}
use Rattle.kp_ground.proofs.matching.is_bound_to.Goals as goal

pub returns : goal.returns
returns c = λ v x s reads.
    let is : v x ≡ value_view c.bound_at.result.now = c.bound_at.ensures v x s reads in
    ((λ t. is ∙ c.equal.ensures.0 t), (λ e. c.equal.ensures.1 (sym is ∙ e)))
