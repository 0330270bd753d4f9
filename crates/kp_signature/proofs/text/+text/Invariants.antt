use Rattle.std.proofs.Common.{◌≡◌, ◌++◌, string_bytes, take}
use Rattle.kp_kore.specs.View.{sorts_view}
use Rattle.kp_signature.specs.Verify.{sorts_text}
use Rattle.kp_signature.proofs.text.+text.Given as goal

abbrev pub invariant-add_sorts-loop-i : goal.invariant-add_sorts-loop-i
invariant-add_sorts-loop-i l = string_bytes l.text ≡ string_bytes l.fn.text ++ sorts_text (sorts_view (take l.i l.sorts))
