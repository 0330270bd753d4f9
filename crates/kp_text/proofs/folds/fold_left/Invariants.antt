use Rattle.std.proofs.Common.{◌≡◌, string_bytes}
use Rattle.kp_kore.specs.Folds.{left_nested}
use Rattle.kp_kore.specs.View.{view, sorts_view, patterns_view}
use Rattle.kp_text.proofs.folds.fold_left.Given as goal

abbrev pub invariant-loop-other : goal.invariant-loop-other
invariant-loop-other l = view l.folded ≡ left_nested (string_bytes l.symbol) (sorts_view l.sorts) (view l.fn.first) (patterns_view l.yielded)
