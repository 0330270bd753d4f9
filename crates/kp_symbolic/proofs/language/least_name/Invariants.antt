use Rattle.std.proofs.Common.{◌≡◌, ◌≤◌, drop, length, map, string_bytes}
use Rattle.std.specs.Option.{option_map}
use Rattle.kp_kore.specs.View.{symbol_sentence_view}
use Rattle.kp_kore.specs.HookView.{arithmetic_view}
use Rattle.kp_signature.specs.View.{signature_view}
use Rattle.kp_symbolic.specs.Folding.{least_symbol_among}
use Rattle.kp_symbolic.proofs.language.least_name.Given as goal

abbrev pub invariant-loop-left : goal.invariant-loop-left
invariant-loop-left l =
    (l.left ≤ length l.symbols)
    × (option_map (λ f. string_bytes f.now) l.least ≡ least_symbol_among (signature_view l.signature) (arithmetic_view l.arithmetic) (map symbol_sentence_view (drop l.left l.symbols)))

abbrev pub decreases-loop-left : goal.decreases-loop-left
decreases-loop-left l = l.left
