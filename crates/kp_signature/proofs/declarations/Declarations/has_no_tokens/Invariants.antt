use Rattle.std.proofs.Common.{◌≡◌, map, drop}
use Rattle.kp_kore.specs.View.{sort_view}
use Rattle.kp_signature.specs.Alone.{no_tokens_below}
use Rattle.kp_signature.specs.Table.{table_view}
use Rattle.kp_signature.specs.Pairs.{subsort_view}
use Rattle.kp_signature.proofs.declarations.Declarations.has_no_tokens.Given as goal

-- all pass exactly where those that are left do
abbrev pub invariant-loop-pair : goal.invariant-loop-pair
invariant-loop-pair l =
    no_tokens_below (table_view l.self.table) (sort_view l.own) (map subsort_view (drop l.pair-index l.pair-items))
    ≡ no_tokens_below (table_view l.self.table) (sort_view l.own) (table_view l.self.table).subsorts
