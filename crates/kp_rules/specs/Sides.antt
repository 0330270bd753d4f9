-- The sides of a rule that is read, as its axiom has them.
-- Source: the K framework's Kore language (\rewrites).
use Rattle.std.specs.Prelude.{◌≡◌, map}
use Rattle.kp_kore.specs.Signature.{KoreSignature}
use Rattle.kp_kore.specs.View.{view, sorted_variable_view}
use Rattle.kp_kore.specs.Rules.{Rewrite}
use Rattle.kp_rules.specs.Skeletons.{skeleton_view}
use Rattle.kp_rules.specs.LeftForms.{left_form}
use Rattle.kp_rules.specs.LeftSides.{IsLeftSide, IsOverLeft}
use Rattle.kp_rules.specs.declared.sides.ReadSides.{ReadSides}

-- the left side is the left term's, as a form; the condition is over its variables; the rest is the rewrite's
pub record AreSidesOf (g : KoreSignature) (m : Rewrite) (s : ReadSides) : Type 0 where
  pub left : IsLeftSide g m (skeleton_view s.left)
  pub form : skeleton_view s.left ≡ left_form g m.left
  pub over_left : IsOverLeft m
  pub condition : map view s.condition.items ≡ m.condition
  pub right : view s.right ≡ m.right
  pub ensured : map view s.ensured.items ≡ m.ensured
  pub new_variables : map sorted_variable_view s.new_variables.items ≡ m.new_variables
