-- What calls of known arguments give.
use Rattle.std.specs.Prelude.{◌≡◌, true, false, map, Option, Some, None, if◌then◌else◌, Vec}
use Rattle.std.specs.declared.alloc.Global.{Global}
use Rattle.kp_kore.specs.Syntax.{Text}
use Rattle.kp_kore.specs.Hooks.{Hook}
use Rattle.kp_kore.specs.Signature.{KoreSignature}
use Rattle.kp_kore.specs.Value as model
use Rattle.kp_kore.specs.Replies.{is_wide_value}
use Rattle.kp_ground.specs.View.{value_view, values_of}
use Rattle.kp_ground.specs.declared.value.Value.{Value}
use Rattle.kp_symbolic.specs.Terms.{SymbolicTerm, known, SymbolicTerms}
use Rattle.kp_symbolic.specs.Folding.{values_known, made_construction, made_call}

abbrev pub values_in : Vec Value Global → model.Values
values_in us = values_of (map value_view us.items)

-- the value, or none where it is a number beyond 128 bits
abbrev pub IsCalled : model.Value → Option Value → Type 0
IsCalled w (Some u) = (value_view u ≡ w) × (is_wide_value w ≡ false)
IsCalled w None = is_wide_value w ≡ true

-- the value, where it is no number beyond 128 bits, else the call as it was
abbrev pub value_or : model.Value → SymbolicTerm → SymbolicTerm
value_or w call = if is_wide_value w then call else known w

-- a constructor, and an interpreted symbol, over folded arguments
abbrev pub made_of_constructor : Text → SymbolicTerms → SymbolicTerm
made_of_constructor f ts = made_construction f ts (values_known ts)

abbrev pub made_of_call : KoreSignature → Hook → Text → SymbolicTerms → SymbolicTerm
made_of_call g h f ts = made_call g h f ts (values_known ts)
