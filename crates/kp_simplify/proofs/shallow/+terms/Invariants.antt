use Rattle.std.proofs.Common.{◌≡◌, drop, map}
use Rattle.kp_symbolic.specs.View.{term_view, terms_of}
use Rattle.kp_simplify.specs.Levels.{are_shallow_terms}
use Rattle.kp_simplify.proofs.shallow.+terms.Given as goal

-- those that are left are shallow where all are
abbrev pub invariant-are_shallow-loop-term : goal.invariant-are_shallow-loop-term
invariant-are_shallow-loop-term l =
    are_shallow_terms (terms_of (map term_view (drop l.term-index l.terms))) l.levels ≡ are_shallow_terms (terms_of (map term_view l.terms)) l.levels
