-- The left side of a rule that is read, as a form.
-- Source: matching logic's rewrite rules; the K framework's Kore language (\rewrites).
use Rattle.std.specs.Prelude.{◌≡◌, ◌↔◌, IsTrue}
use Rattle.std.specs.List.{AllByRecursion, list_all}
use Rattle.kp_kore.specs.Parts.{free_variables}
use Rattle.kp_kore.specs.Signature.{KoreSignature}
use Rattle.kp_kore.specs.Value.{Value}
use Rattle.kp_kore.specs.Instance.{Valuation, instance, GivesSorts, AgreesOn, is_named}
use Rattle.kp_kore.specs.Rules.{Rewrite}
use Rattle.kp_rules.specs.Skeletons.{Form, Admits}

-- the configuration is the left term's instance, whose variables have values of their sorts
abbrev pub IsLeftInstance : KoreSignature → Rewrite → Valuation → Value → Type 0
IsLeftInstance g r v c = GivesSorts g v (free_variables r.left) × (instance g v r.left ≡ c)

-- the form stands for exactly these configurations, each of them under one valuation of the left term's variables
pub record IsLeftSide (g : KoreSignature) (r : Rewrite) (form : Form) : Type 0 where
  pub stands : (v : Valuation) (c : Value) → Admits g v form c ↔ IsLeftInstance g r v c
  pub once : (v w : Valuation) (c : Value) → IsLeftInstance g r v c → IsLeftInstance g r w c → AgreesOn (free_variables r.left) v w

-- the condition has no variables but the left term's
abbrev pub IsOverLeft : Rewrite → Type 0
IsOverLeft r = AllByRecursion (λ p. IsTrue (list_all (λ x. is_named x.name (free_variables r.left)) (free_variables p))) r.condition
