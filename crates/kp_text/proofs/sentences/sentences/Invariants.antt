use Rattle.std.proofs.Common.{◌≡◌, ◌≤◌, List, [], map, length}
use denote.Text.{Utf8}
use denote.Shadow.{shadow}
use Rattle.kp_kore.specs.Syntax.{KoreSentence}
use Rattle.kp_kore.specs.View.{sentence_view}
use Rattle.kp_text.specs.Next.{Place, sentences}
use Rattle.kp_text.specs.Reads.{run_text}
use Rattle.kp_text.proofs.sentences.sentences.Given as goal

abbrev pub invariant-loop-sentences : goal.invariant-loop-sentences
invariant-loop-sentences l = record {
  text : shadow (Utf8 l.rest);
  behind : length l.rest ≤ length l.fn.text;
  same : (k : List KoreSentence → Place) → run_text l.tail l.rest (sentences (map sentence_view l.sentences.items) k) ≡ run_text l.fn.tail l.fn.text (sentences [] k);
}

abbrev pub decreases-loop-sentences : goal.decreases-loop-sentences
decreases-loop-sentences l = length l.rest
