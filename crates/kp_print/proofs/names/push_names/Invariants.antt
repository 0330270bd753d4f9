use Rattle.std.proofs.Common.{◌≡◌, ◌++◌, [], string_bytes, drop}
use denote.Text.{Utf8}
use denote.Shadow.{shadow}
use Rattle.kp_kore.specs.View.{names_view}
use Rattle.kp_print.specs.Printed.{names_after}
use Rattle.kp_print.proofs.names.push_names.Given as goal

-- what is written and what is left make the whole
abbrev pub invariant-loop-name : goal.invariant-loop-name
invariant-loop-name l = shadow (Utf8 l.before) × (string_bytes l.text ++ names_after l.before (names_view (drop l.name-index l.names)) ≡ string_bytes l.fn.text ++ names_after [] (names_view l.names))
