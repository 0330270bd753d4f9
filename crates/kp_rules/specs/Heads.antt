-- Where a rule that is read fires, in the words of its parts.
use Rattle.std.specs.Prelude.{◌≡◌, Bool, true, List, Option, Some, None, Result, Ok, Err, Vec, string_bytes, ◌↔◌, IsTrue, false}
use Rattle.std.specs.List.{AllByRecursion}
use Rattle.std.specs.declared.alloc.Global.{Global}
use Rattle.kp_kore.specs.Signature.{KoreSignature, IsHeadOf}
use Rattle.kp_kore.specs.View.{sort_view}
use Rattle.kp_kore.specs.Value as model
use Rattle.kp_kore.specs.Instance.{Valuation}
use Rattle.kp_ground.specs.Terms.{left_value}
use Rattle.kp_ground.specs.LeftView.{left_view}
use Rattle.kp_ground.specs.Conditions.{condition_holds, condition_narrow}
use Rattle.kp_ground.specs.ConditionView.{condition_view}
use Rattle.kp_ground.specs.Solves.{Solves}
use Rattle.kp_ground.specs.declared.binding.Binding.{Binding}
use Rattle.kp_ground.specs.declared.evaluate.EvaluationError.{EvaluationError}
use Rattle.kp_ground.specs.declared.evaluate.EvaluationError.TheVariants.{Memory, Number}
use Rattle.kp_rules.specs.declared.rule.SortTest.{SortTest}
use Rattle.kp_rules.specs.declared.rule.Rewrite.{Rewrite}

-- the head of the value is among the sort's heads
abbrev pub HasHead : KoreSignature → Valuation → SortTest → Type 0
HasHead g v t = IsHeadOf g (sort_view t.sort) (model.head_of (v (string_bytes t.name)))

-- the left term's instance is the value, and each tested variable stands for a value of its sort
pub record Meets (g : KoreSignature) (r : Rewrite) (v : Valuation) (u : model.Value) : Type 0 where
  pub matches : left_value v (left_view r.left) ≡ u
  pub tests : AllByRecursion (HasHead g v) r.tests.items

-- and the condition holds
abbrev pub FiresAs : KoreSignature → Rewrite → model.Value → Valuation → Type 0
FiresAs g r u v = Meets g r v u × (condition_holds v (condition_view r.condition) ≡ true)

-- the bindings of a match of the left term
abbrev pub Binds : Rewrite → List Binding → model.Value → Type 0
Binds r bindings u = (v : Valuation) → Solves v bindings ↔ (left_value v (left_view r.left) ≡ u)

-- whether the tests pass under each valuation that the bindings allow
abbrev pub PassAs : KoreSignature → Rewrite → List Binding → Bool → Type 0
PassAs g r bindings b = (v : Valuation) → Solves v bindings → IsTrue b ↔ AllByRecursion (HasHead g v) r.tests.items

-- the left side meets the value, and the condition computes a number beyond 128 bits
pub record IsWide (g : KoreSignature) (r : Rewrite) (u : model.Value) : Type 0 where
  pub valuation : Valuation
  pub meets : Meets g r valuation u
  pub wide : condition_narrow valuation (condition_view r.condition) ≡ false

-- bindings are found exactly where a valuation fires, and are solved by exactly those; Number tells that the condition
-- has a number beyond 128 bits under each valuation that meets the left side
abbrev pub FindsFiring : Result (Option (Vec Binding Global)) EvaluationError → KoreSignature → Rewrite → model.Value → Type 0
FindsFiring (Ok (Some bindings)) g r u = (v : Valuation) → Solves v bindings.items ↔ FiresAs g r u v
FindsFiring (Ok None) g r u = (v : Valuation) → ¬ FiresAs g r u v
FindsFiring (Err Number) g r u = (v : Valuation) → Meets g r v u → condition_narrow v (condition_view r.condition) ≡ false
FindsFiring (Err Memory) g r u = Unit {0}
