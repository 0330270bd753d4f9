use Rattle.std.proofs.Common.{◌≡◌, map, drop}
use Rattle.kp_kore.specs.View.{sort_view, symbol_sentence_view}
use Rattle.kp_signature.specs.View.{signature_view}
use Rattle.kp_literals.specs.Kinds.{no_constructors_among}
use Rattle.kp_literals.proofs.value_kinds.has_no_constructors.Given as goal

abbrev pub invariant-loop-symbol : goal.invariant-loop-symbol
invariant-loop-symbol l =
    no_constructors_among (signature_view l.signature) (sort_view l.sort) (map symbol_sentence_view (drop l.symbol-index l.symbols))
    ≡ no_constructors_among (signature_view l.signature) (sort_view l.sort) (map symbol_sentence_view l.symbols)
