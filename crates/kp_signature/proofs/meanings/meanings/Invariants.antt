use Rattle.std.proofs.Common.{◌≡◌, ◌++◌, map, drop}
use Rattle.kp_kore.specs.Signature.{symbol_meaning}
use Rattle.kp_kore.specs.View.{symbol_sentence_view}
use Rattle.kp_signature.specs.Meanings.{meaning_view}
use Rattle.kp_signature.specs.Table.{table_view}
use Rattle.kp_signature.proofs.meanings.meanings.Given as goal

-- what is kept already and the meanings of those that are left are the meanings of all
abbrev pub invariant-loop-declaration : goal.invariant-loop-declaration
invariant-loop-declaration l =
    map meaning_view l.meanings.items ++ map (symbol_meaning (table_view l.kinds.declarations.table)) (map symbol_sentence_view (drop l.declaration-index l.declaration-items))
    ≡ map (symbol_meaning (table_view l.kinds.declarations.table)) (table_view l.kinds.declarations.table).symbols
