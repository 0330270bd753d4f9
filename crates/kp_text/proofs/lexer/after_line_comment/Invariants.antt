use Rattle.std.proofs.Common.{◌≡◌, ◌≤◌, length}
use denote.Text.{Utf8}
use denote.Shadow.{shadow}
use Rattle.kp_text.specs.Tokens.{lexed, in_line_comment}
use Rattle.kp_text.proofs.lexer.after_line_comment.Given as goal

abbrev pub invariant-loop-c : goal.invariant-loop-c
invariant-loop-c l = record { text : shadow (Utf8 l.rest); shorter : length l.rest ≤ length l.fn.text; same : lexed l.tail l.rest in_line_comment ≡ lexed l.fn.tail l.fn.text in_line_comment }

abbrev pub decreases-loop-c : goal.decreases-loop-c
decreases-loop-c l = length l.rest
