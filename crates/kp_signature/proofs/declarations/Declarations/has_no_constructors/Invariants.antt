use Rattle.std.proofs.Common.{◌≡◌, map, drop}
use Rattle.kp_kore.specs.View.{sort_view, symbol_sentence_view}
use Rattle.kp_signature.specs.Alone.{no_constructors_below}
use Rattle.kp_signature.specs.Table.{table_view}
use Rattle.kp_signature.proofs.declarations.Declarations.has_no_constructors.Given as goal

-- all pass exactly where those that are left do
abbrev pub invariant-loop-symbol : goal.invariant-loop-symbol
invariant-loop-symbol l =
    no_constructors_below (table_view l.self.table) (sort_view l.own) (map symbol_sentence_view (drop l.symbol-index l.symbol-items))
    ≡ no_constructors_below (table_view l.self.table) (sort_view l.own) (table_view l.self.table).symbols
