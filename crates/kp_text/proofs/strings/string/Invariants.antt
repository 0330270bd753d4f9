use Rattle.std.proofs.Common.{◌≡◌, ◌≤◌, [], length, string_bytes}
use denote.Text.{Utf8}
use denote.Shadow.{shadow}
use Rattle.kp_text.specs.Tokens.{lexed, in_string}
use Rattle.kp_text.proofs.strings.string.Given as goal

abbrev pub invariant-loop-c : goal.invariant-loop-c
invariant-loop-c l = record { text : shadow (Utf8 l.rest); shorter : length l.rest ≤ length l.fn.text; same : lexed l.tail l.rest (in_string l.quote (string_bytes l.characters)) ≡ lexed l.tail l.fn.text (in_string l.quote []) }

abbrev pub decreases-loop-c : goal.decreases-loop-c
decreases-loop-c l = length l.rest
