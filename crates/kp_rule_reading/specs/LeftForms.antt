-- What is known of a left term whose form is made, and of the sides as they are made.
-- Source: matching logic's terms; K's inj, which is an identity.
use Rattle.std.specs.Prelude.{◌≡◌, true, List, map}
use Rattle.std.specs.List.{AllZip}
use Rattle.kp_kore.specs.Syntax.{KorePattern}
use Rattle.kp_kore.specs.Signature.{KoreSignature}
use Rattle.kp_kore.specs.View.{view, sorted_variable_view}
use Rattle.kp_kore.specs.declared.pattern.Pattern.{Pattern}
use Rattle.kp_kore.specs.Parts.{is_term}
use Rattle.kp_kore.specs.Foreign.{none_within, has_foreign_head, has_interpreted_head}
use Rattle.kp_compile.specs.Verified.{misapplies_injection}
use Rattle.kp_kore.specs.Rules.{Rewrite}
use Rattle.kp_rules.specs.LeftForms.{left_form}
use Rattle.kp_rules.specs.Skeletons.{skeleton_view}
use Rattle.kp_rules.specs.declared.skeleton.Skeleton.{Skeleton}
use Rattle.kp_rules.specs.declared.sides.ReadSides.{ReadSides}

-- a term without foreign and interpreted symbols, and inj has one argument
pub record IsLeftTerm (g : KoreSignature) (p : KorePattern) : Type 0 where
  pub term : is_term p ≡ true
  pub known : none_within (has_foreign_head g) p ≡ true
  pub uninterpreted : none_within (has_interpreted_head g) p ≡ true
  pub injections : none_within (misapplies_injection g) p ≡ true

-- the code's forms are those of the patterns, one by one
abbrev pub AreLeftForms : KoreSignature → List Pattern → List Skeleton → Type 0
AreLeftForms g = AllZip (λ p k. skeleton_view k ≡ left_form g (view p))

-- ---- the sides as they are made

-- the left term is seen as a form; the rest is the rewrite's
pub record AreMadeSides (g : KoreSignature) (m : Rewrite) (s : ReadSides) : Type 0 where
  pub left : skeleton_view s.left ≡ left_form g m.left
  pub condition : map view s.condition.items ≡ m.condition
  pub right : view s.right ≡ m.right
  pub ensured : map view s.ensured.items ≡ m.ensured
  pub new_variables : map sorted_variable_view s.new_variables.items ≡ m.new_variables
