use Rattle.std.proofs.Common.{◌≡◌, map, drop, string_bytes}
use Rattle.kp_signature.specs.View.{signature_view}
use Rattle.kp_sort_heads.specs.Views.{head_view}
use Rattle.kp_literals.specs.Readings.{read_view}
use Rattle.kp_satisfiability.specs.Heads.{agrees_with_one}
use Rattle.kp_satisfiability.proofs.heads.agrees_with_one.Given as goal

abbrev pub invariant-loop-literal : goal.invariant-loop-literal
invariant-loop-literal l =
    agrees_with_one (signature_view l.signature) (head_view l.head) (string_bytes l.variable.name) (map read_view l.clause)
    ≡ agrees_with_one (signature_view l.signature) (head_view l.head) (string_bytes l.variable.name) (map read_view (drop l.literal-index l.clause))
