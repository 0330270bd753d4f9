use Rattle.std.proofs.Common.{◌≡◌, ◌-◌, ◌+◌, ◌<◌, ◌≤◌, ◌^◌, length}
use denote.Text.{Utf8}
use denote.Shadow.{shadow}
use Rattle.kp_kore.specs.Syntax.{Text}
use Rattle.kp_text.specs.Tokens.{lexed, in_number}
use Rattle.kp_text.proofs.Numbers.{numbered}
use Rattle.kp_text.proofs.strings.number.Given as goal

abbrev pub invariant-loop-i : goal.invariant-loop-i
invariant-loop-i l = record { text : shadow (Utf8 l.rest); small : l.value < 16 ^ l.i; shorter : length l.rest + l.i ≤ length l.fn.text; same : (t : Text) → numbered l.tail l.rest l.quote t (l.digits - l.i) l.value ≡ lexed l.tail l.fn.text (in_number l.quote t l.digits 0) }
