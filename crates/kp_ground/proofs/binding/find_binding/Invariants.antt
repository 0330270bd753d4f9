use Rattle.std.proofs.Common.{take, string_bytes}
use Rattle.std.specs.Prelude.{All, ◌≢◌}
use Rattle.kp_ground.proofs.binding.find_binding.Given as goal

abbrev pub invariant-loop-binding : goal.invariant-loop-binding
invariant-loop-binding l = All (λ b. string_bytes b.name.value ≢ l.name) (take l.binding-index l.bindings)
