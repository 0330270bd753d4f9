use Rattle.std.proofs.Common.{◌≡◌, ◌++◌, string_bytes, drop}
use denote.Text.{Utf8}
use denote.Shadow.{shadow}
use Rattle.kp_kore.specs.View.{sorts_view}
use Rattle.kp_print.specs.Printed.{sorts_after, sorts_text}
use Rattle.kp_print.proofs.sorts.+sort.Given as goal

-- what is written and what is left make the whole
abbrev pub invariant-push_sorts-loop-sort : goal.invariant-push_sorts-loop-sort
invariant-push_sorts-loop-sort l = shadow (Utf8 l.before) × (string_bytes l.text ++ sorts_after l.before (sorts_view (drop l.sort-index l.sorts)) ≡ string_bytes l.fn.text ++ sorts_text (sorts_view l.sorts))
