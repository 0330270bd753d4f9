use Rattle.std.proofs.Common.{List, ◌++◌, map, take}
use Rattle.std.specs.List.{flat_map}
use Rattle.kp_kore.specs.View.{symbol_sentence_view}
use Rattle.kp_signature.specs.View.{signature_view}
use Rattle.kp_heads.specs.Steps.{Step, symbol_steps}
use Rattle.kp_heads.specs.Made.{IsMade}
use Rattle.kp_heads.proofs.made.Made.add_symbols.Given as goal

abbrev pub invariant-loop-symbol : goal.invariant-loop-symbol
invariant-loop-symbol l = (steps : List Step) → IsMade steps l.fn.self → IsMade (steps ++ flat_map (symbol_steps (signature_view l.signature)) (map symbol_sentence_view (take l.symbol-index l.symbol-items))) l.self
