use Rattle.std.proofs.Common.{◌≡◌, ◌+◌, ◌*◌, ◌<◌, ◌≤◌, List, [], ◌∷◌, ◌++◌, map, length}
use denote.Text.{Utf8}
use denote.Shadow.{shadow}
use Rattle.kp_kore.specs.Syntax.{Text, KoreSorts, KorePattern}
use Rattle.kp_kore.specs.View.{view}
use Rattle.kp_text.specs.Next.{Place, a_pattern, more_patterns, more_folded}
use Rattle.kp_text.specs.Reads.{run_text}
use Rattle.kp_text.specs.Heads.{some_patterns, IsDeep}
use Rattle.kp_text.proofs.descent.+pattern.Given as goal

abbrev pub decreases-a_pattern : goal.decreases-a_pattern
decreases-a_pattern l = 5 * length l.text.now

abbrev pub decreases-a_member : goal.decreases-a_member
decreases-a_member l = 5 * length l.text.now + 1

abbrev pub decreases-with_patterns : goal.decreases-with_patterns
decreases-with_patterns l = 5 * length l.text.now + 4

abbrev pub decreases-closed_pattern : goal.decreases-closed_pattern
decreases-closed_pattern l = 5 * length l.text.now + 1

abbrev pub decreases-with_one : goal.decreases-with_one
decreases-with_one l = 5 * length l.text.now + 3

abbrev pub decreases-with_two : goal.decreases-with_two
decreases-with_two l = 5 * length l.text.now + 3

abbrev pub decreases-with_many : goal.decreases-with_many
decreases-with_many l = 5 * length l.text.now + 3

abbrev pub decreases-with_variadic : goal.decreases-with_variadic
decreases-with_variadic l = 5 * length l.text.now + 3

abbrev pub decreases-with_members : goal.decreases-with_members
decreases-with_members l = 5 * length l.text.now + 3

abbrev pub decreases-patterns : goal.decreases-patterns
decreases-patterns l = 5 * length l.text.now + 2

abbrev pub decreases-some_patterns : goal.decreases-some_patterns
decreases-some_patterns l = 5 * length l.text.now + 1

abbrev pub decreases-more_folded : goal.decreases-more_folded
decreases-more_folded l = 5 * length l.text.now + 2

abbrev pub invariant-some_patterns-loop-patterns : goal.invariant-some_patterns-loop-patterns
invariant-some_patterns-loop-patterns l = record {
  text : shadow (Utf8 l.rest);
  behind : length l.rest ≤ length l.fn.text;
  same : (k : List KorePattern → Place) → run_text l.tail l.rest (a_pattern l.level (λ p. more_patterns l.level l.close (map view l.patterns.items ++ p ∷ []) k)) ≡ run_text l.fn.tail l.fn.text (some_patterns l.fn.level l.fn.close k);
}

abbrev pub decreases-some_patterns-loop-patterns : goal.decreases-some_patterns-loop-patterns
decreases-some_patterns-loop-patterns l = length l.rest

abbrev pub invariant-more_folded-loop-others : goal.invariant-more_folded-loop-others
invariant-more_folded-loop-others l = record {
  text : shadow (Utf8 l.rest);
  behind : length l.rest ≤ length l.fn.text;
  many : length l.others.items < l.deep;
  bound : l.deep ≤ 1000;
  deep : IsDeep l.side (view l.first) (map view l.others.items) l.deep;
  same : (f : Text) (ss : KoreSorts) (k : KorePattern → Place) → run_text l.tail l.rest (more_folded l.side f ss l.level (view l.first) (map view l.others.items) k) ≡ run_text l.fn.tail l.fn.text (more_folded l.fn.side f ss l.fn.level (view l.fn.first) [] k);
}

abbrev pub decreases-more_folded-loop-others : goal.decreases-more_folded-loop-others
decreases-more_folded-loop-others l = length l.rest
