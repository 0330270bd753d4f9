use Rattle.std.proofs.Common.{ℕ, ◌<◌, List, take, length, Contains}
use Rattle.kp_kore.specs.Syntax.{KoreSort}
use Rattle.kp_signature.specs.Order.{IsOrderOf, Under, sorts_of}
use Rattle.kp_rules.proofs.alone.are_over.Given as goal

abbrev pub invariant-loop-number : goal.invariant-loop-number
invariant-loop-number l =
    (pairs : List (KoreSort × KoreSort)) → IsOrderOf pairs l.order → ((i : ℕ) → Contains l.numbers i → i < length (sorts_of l.order.graph)) →
    (i : ℕ) → Contains (take l.number-index l.numbers) i → Under l.order.graph i l.lower
