use Rattle.std.proofs.Common.{◌≡◌, ◌+◌, ◌*◌, ◌≤◌, List, [], ◌∷◌, ◌++◌, map, length}
use denote.Text.{Utf8}
use denote.Shadow.{shadow}
use Rattle.kp_kore.specs.Syntax.{KoreSort}
use Rattle.kp_kore.specs.View.{sort_view}
use Rattle.kp_text.specs.Next.{Place, a_sort, more_sorts}
use Rattle.kp_text.specs.Reads.{run_text, some_sorts}
use Rattle.kp_text.proofs.sorts.+sort.Given as goal

abbrev pub decreases-a_sort : goal.decreases-a_sort
decreases-a_sort l = 2 * length l.text.now

abbrev pub decreases-named_sort : goal.decreases-named_sort
decreases-named_sort l = 2 * length l.text.now + 1

abbrev pub decreases-sorts : goal.decreases-sorts
decreases-sorts l = 2 * length l.text.now + 2

abbrev pub decreases-some_sorts : goal.decreases-some_sorts
decreases-some_sorts l = 2 * length l.text.now + 1

abbrev pub invariant-some_sorts-loop-sorts : goal.invariant-some_sorts-loop-sorts
invariant-some_sorts-loop-sorts l = record {
  text : shadow (Utf8 l.rest);
  behind : length l.rest ≤ length l.fn.text;
  same : (k : List KoreSort → Place) → run_text l.tail l.rest (a_sort l.level (λ s. more_sorts l.level l.close (map sort_view l.sorts.items ++ s ∷ []) k)) ≡ run_text l.fn.tail l.fn.text (some_sorts l.fn.level l.fn.close k);
}

abbrev pub decreases-some_sorts-loop-sorts : goal.decreases-some_sorts-loop-sorts
decreases-some_sorts-loop-sorts l = length l.rest
