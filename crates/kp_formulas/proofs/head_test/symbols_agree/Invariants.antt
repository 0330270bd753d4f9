use Rattle.std.proofs.Common.{◌≡◌, map, drop}
use Rattle.kp_kore.specs.Signature.{constructor_of}
use Rattle.kp_kore.specs.View.{sort_view, symbol_sentence_view}
use Rattle.kp_signature.specs.View.{signature_view}
use Rattle.kp_symbolic.specs.View.{test_view}
use Rattle.kp_formulas.specs.Answers.{all_agree}
use Rattle.kp_formulas.proofs.head_test.symbols_agree.Given as goal

abbrev pub invariant-loop-symbol : goal.invariant-loop-symbol
invariant-loop-symbol l =
    all_agree (signature_view l.signature) (sort_view l.sort) (test_view l.test) l.wanted (map (λ d. constructor_of d.name) (map symbol_sentence_view l.symbols))
    ≡ all_agree (signature_view l.signature) (sort_view l.sort) (test_view l.test) l.wanted (map (λ d. constructor_of d.name) (map symbol_sentence_view (drop l.symbol-index l.symbols)))
