use Rattle.std.proofs.Common.{◌≡◌, ℕ, ◌≤◌, ◌∷◌, [], length, string_bytes}
use denote.Text.{Utf8}
use denote.Shadow.{shadow}
use Rattle.kp_text.specs.Tokens.{lexed, in_identifier, in_backslashed}
use Rattle.kp_text.specs.declared.tail.Tail.{Tail}
use Rattle.kp_text.proofs.lexer.word.Given as goal

abbrev pub invariant-loop-c : goal.invariant-loop-c
invariant-loop-c l = record {
  text : shadow (Utf8 l.rest);
  shorter : length l.rest ≤ length l.fn.text;
  identifier : (tail : Tail) (left : ℕ) → lexed tail l.rest (in_identifier left (string_bytes l.name)) ≡ lexed tail l.fn.text (in_identifier left (l.fn.first ∷ []));
  backslashed : (tail : Tail) (left : ℕ) → lexed tail l.rest (in_backslashed left (string_bytes l.name)) ≡ lexed tail l.fn.text (in_backslashed left (l.fn.first ∷ []));
}

abbrev pub decreases-loop-c : goal.decreases-loop-c
decreases-loop-c l = length l.rest
