-- Why a pattern is no ground state.
use Rattle.std.specs.Prelude.{◌≡◌, Option, Some, None, string_bytes, ⊤}
use Rattle.kp_kore.specs.Syntax.{Text}
use Rattle.kp_compile.specs.declared.state_error.StateError.{StateError}
use Rattle.kp_compile.specs.declared.state_error.StateError.TheVariants.{Memory, ForeignSymbol, OtherShape}

-- the first foreign symbol is told where there is one; another shape only where there is none
abbrev pub IsTold : Option Text → StateError → Type 0
IsTold first Memory = ⊤
IsTold first (ForeignSymbol n) = first ≡ Some (string_bytes n)
IsTold first OtherShape = first ≡ None

abbrev pub IsNoForeign : StateError → Type 0
IsNoForeign Memory = ⊤
IsNoForeign (ForeignSymbol n) = ⊥
IsNoForeign OtherShape = ⊤
