-- What a step goes by: the match of its rule, and the depths of what it keeps.
-- Source: this project; matching is that of matching logic.
use Rattle.std.specs.Prelude.{◌≡◌, ⊤}
use Rattle.kp_kore.specs.Signature.{KoreSignature}
use Rattle.kp_kore.specs.Value.{Value}
use Rattle.kp_kore.specs.Instance.{Valuation}
use Rattle.kp_ground.specs.LeftView.{left_view}
use Rattle.kp_ground.specs.Solves.{Solves}
use Rattle.kp_ground.specs.Terms.{left_value, term_value}
use Rattle.kp_ground.specs.TermView.{term_view}
use Rattle.kp_ground.specs.View.{value_view}
use Rattle.kp_run.specs.View.{AreDepthsOf}
use Rattle.kp_run.specs.declared.firing.GroundFiring.{GroundFiring}
use Rattle.kp_run.specs.declared.step.GroundNext.{GroundNext}
use Rattle.kp_run.specs.declared.step.GroundNext.TheVariants as after

-- the state that follows stands beside the depths of its value
abbrev pub HasDepths : KoreSignature → GroundNext → Type 0
HasDepths g (after.Stepped s ds) = AreDepthsOf g (value_view s.value) ds
HasDepths g _ = ⊤

-- the value that a firing's left term stands for under a valuation
abbrev pub left_instance : GroundFiring → Valuation → Value
left_instance f v = left_value v (left_view f.rewrite.now.left)

-- the value that its right term stands for
abbrev pub right_instance : GroundFiring → Valuation → Value
right_instance f v = term_value v (term_view f.rewrite.now.right)

-- under every valuation that the bindings allow the left term's instance is the value, and there is such a valuation
pub record IsMatchOf (f : GroundFiring) (u : Value) : Type 0 where
  pub same : (v : Valuation) → Solves v f.bindings.items → left_instance f v ≡ u
  pub solvable : (v : Valuation) × Solves v f.bindings.items
