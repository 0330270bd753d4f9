use Rattle.std.proofs.Common.{◌≡◌, [], ◌∷◌, ◌++◌, map, string_bytes, vec_len}
use Rattle.kp_kore.specs.Folds.{right_nested}
use Rattle.kp_kore.specs.View.{view, sorts_view, patterns_of, patterns_view}
use Rattle.kp_text.proofs.folds.fold_right.Given as goal

abbrev pub invariant-loop-other : goal.invariant-loop-other
invariant-loop-other l = right_nested (string_bytes l.symbol) (sorts_view l.sorts) (view l.first) (patterns_of (map view l.others.items ++ view l.folded ∷ [])) ≡ right_nested (string_bytes l.symbol) (sorts_view l.sorts) (view l.fn.first) (patterns_view l.fn.others.items)

abbrev pub decreases-loop-other : goal.decreases-loop-other
decreases-loop-other l = vec_len l.others
