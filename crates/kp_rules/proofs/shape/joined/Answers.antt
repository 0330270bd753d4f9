use Rattle.std.proofs.Common.{◌∙◌, ap, sym}
use Rattle.std.specs.Option.{option_map}
use Rattle.kp_rules.specs.Shapes.{side_view}
use Rattle.kp_rules.proofs.ShapeSides.{both_sides, no_left, no_right}
use Rattle.kp_rules.proofs.shape.joined.Goals as goal

pub returns-in-Some-right : goal.returns-in-Some-right
returns-in-Some-right c = λ l r e f. both_sides l r (record { left = c.in-Some.left; right = c.in-Some-right.right })
    (ap (option_map side_view) (sym c.in-Some.is) ∙ e) (ap (option_map side_view) (sym c.in-Some-right.is) ∙ f)

pub returns-in-Some : goal.returns-in-Some
returns-in-Some c = λ l r e f. no_right l r (ap (option_map side_view) (sym c.in-None-right.is) ∙ f)

pub returns : goal.returns
returns c = λ l r e f. no_left l r (ap (option_map side_view) (sym c.in-None.is) ∙ e)
