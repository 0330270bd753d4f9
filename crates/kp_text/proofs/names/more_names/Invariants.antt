use Rattle.std.proofs.Common.{◌≡◌, ◌≤◌, List, [], ◌∷◌, length, string_bytes}
use denote.Text.{Utf8}
use denote.Shadow.{shadow}
use Rattle.kp_kore.specs.Syntax.{Text}
use Rattle.kp_kore.specs.View.{names_view}
use Rattle.kp_text.specs.Next.{Place, more_names}
use Rattle.kp_text.specs.Reads.{run_text}
use Rattle.kp_text.proofs.names.more_names.Given as goal

abbrev pub invariant-loop-names : goal.invariant-loop-names
invariant-loop-names l = record {
  text : shadow (Utf8 l.rest);
  behind : length l.rest ≤ length l.fn.text;
  same : (k : List Text → Place) → run_text l.tail l.rest (more_names (names_view l.names.items) k) ≡ run_text l.fn.tail l.fn.text (more_names (string_bytes l.fn.first ∷ []) k);
}

abbrev pub decreases-loop-names : goal.decreases-loop-names
decreases-loop-names l = length l.rest
