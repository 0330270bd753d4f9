use Rattle.std.proofs.Common.{◌≡◌, ℕ, List, false, get_or, length}
use Rattle.std.specs.Prelude.{IsTrue}
use Rattle.kp_kore.specs.Syntax.{KoreSort}
use Rattle.kp_signature.specs.Order.{IsOrderOf}
use Rattle.kp_rules.specs.Index.{IsNarrow}
use Rattle.kp_rules.proofs.alone.narrow_marks.Given as goal

abbrev pub invariant-loop-number : goal.invariant-loop-number
invariant-loop-number l =
    (length l.marks.items ≡ l.number)
    × ((pairs : List (KoreSort × KoreSort)) → IsOrderOf pairs l.order → (i : ℕ) → IsTrue (get_or l.marks.items i false) → IsNarrow l.order.graph i)
