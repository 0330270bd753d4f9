use Rattle.std.proofs.Common.{◌≡◌, ◌∙◌, sym}
use Rattle.kp_ground.specs.View.{value_view}
use Rattle.kp_rules.proofs.foreign_left_sides.is_bound_to.Goals as goal

pub returns-in-Some : goal.returns-in-Some
returns-in-Some c = λ v s.
    let is : v c.args.name.now ≡ value_view c.in-Some.bound.now = c.in-Some.ensures.found v s in
    ((λ t. is ∙ c.equal.ensures.0 t), (λ e. c.equal.ensures.1 (sym is ∙ e)))
