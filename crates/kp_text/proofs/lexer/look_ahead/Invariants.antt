use Rattle.std.proofs.Common.{◌≡◌, ◌≤◌, length}
use denote.Text.{Utf8}
use denote.Shadow.{shadow}
use Rattle.kp_text.specs.Tokens.{lexed, between}
use Rattle.kp_text.proofs.lexer.look_ahead.Given as goal

abbrev pub invariant-loop-c : goal.invariant-loop-c
invariant-loop-c l = record { text : shadow (Utf8 l.rest); shorter : length l.rest ≤ length l.fn.text; same : lexed l.tail l.rest between ≡ lexed l.fn.tail l.fn.text between }

abbrev pub decreases-loop-c : goal.decreases-loop-c
decreases-loop-c l = length l.rest
