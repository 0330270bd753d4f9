use Rattle.std.proofs.Common.{◌≡◌, ◌++◌, [], string_bytes, drop}
use denote.Text.{Utf8}
use denote.Shadow.{shadow}
use Rattle.kp_kore.specs.View.{patterns_view}
use Rattle.kp_print.specs.Printed.{patterns_after}
use Rattle.kp_print.proofs.patterns.+pattern.Given as goal

-- what is written and what is left make the whole
abbrev pub invariant-push_patterns-loop-pattern : goal.invariant-push_patterns-loop-pattern
invariant-push_patterns-loop-pattern l = shadow (Utf8 l.before) × (string_bytes l.text ++ patterns_after l.before (patterns_view (drop l.pattern-index l.patterns)) ≡ string_bytes l.fn.text ++ patterns_after [] (patterns_view l.patterns))
