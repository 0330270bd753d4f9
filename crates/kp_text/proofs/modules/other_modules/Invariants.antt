use Rattle.std.proofs.Common.{◌≡◌, ◌≤◌, List, [], ◌∷◌, map, length}
use denote.Text.{Utf8}
use denote.Shadow.{shadow}
use Rattle.kp_kore.specs.Syntax.{KoreModule}
use Rattle.kp_kore.specs.View.{module_view}
use Rattle.kp_text.specs.Next.{Answer, more_modules}
use Rattle.kp_text.specs.Reads.{run_text}
use Rattle.kp_text.proofs.modules.other_modules.Given as goal

abbrev pub invariant-loop-modules : goal.invariant-loop-modules
invariant-loop-modules l = record {
  text : shadow (Utf8 l.rest);
  behind : length l.rest ≤ length l.fn.text;
  same : (answer : List KoreModule → Answer) → run_text l.tail l.rest (more_modules (map module_view l.modules.items) answer) ≡ run_text l.fn.tail l.fn.text (more_modules (module_view l.fn.first ∷ []) answer);
}

abbrev pub decreases-loop-modules : goal.decreases-loop-modules
decreases-loop-modules l = length l.rest
