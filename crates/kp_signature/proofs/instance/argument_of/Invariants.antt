use Rattle.std.proofs.Common.{◌≡◌, drop, string_bytes}
use Rattle.kp_kore.specs.Sorting.{argument_for}
use Rattle.kp_kore.specs.View.{sorts_view, names_view}
use Rattle.kp_signature.proofs.instance.argument_of.Given as goal

abbrev pub invariant-loop-i : goal.invariant-loop-i
invariant-loop-i l = argument_for (names_view l.parameters) (sorts_view l.arguments) (string_bytes l.name) ≡ argument_for (names_view (drop l.i l.parameters)) (sorts_view (drop l.i l.arguments)) (string_bytes l.name)
