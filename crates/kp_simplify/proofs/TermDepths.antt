-- The levels of the deepest of the first terms.
use Rattle.std.proofs.Common.{◌≡◌, ℕ, ◌+◌, ◌<◌, max, List, [], ◌∷◌, ◌++◌, map, length, take, get_or, sym, ap, ◌∙◌, arith}
use Rattle.std.proofs.lemmas.List.{map_more}
use Rattle.kp_kore.specs.Syntax.{KorePattern}
use Rattle.kp_kore.specs.Parts.{term_depth, most_term_depth}
use Rattle.kp_kore.specs.View.{view, patterns_of, patterns_view}
use Rattle.kp_kore.specs.declared.pattern.Pattern.{Pattern}

most_append : (ps qs : List KorePattern) → most_term_depth (patterns_of (ps ++ qs)) ≡ max (most_term_depth (patterns_of ps)) (most_term_depth (patterns_of qs))
most_append [] qs = omega arith
most_append (p ∷ ps) qs = let h = most_append ps qs in omega (arith, h)

-- once the pattern at i is counted too
pub most_more : (ps : List Pattern) (i : ℕ) (p : Pattern) (before one now : ℕ) →
    i < length ps → p ≡ get_or ps i p → before ≡ most_term_depth (patterns_view (take i ps)) → one ≡ term_depth (view p) → now ≡ max before one →
    now ≡ most_term_depth (patterns_view (take (i + 1) ps))
most_more ps i p before one now h is e f g = let s = split in omega (arith, e, f, g, s)
  where
    split : most_term_depth (patterns_view (take (i + 1) ps)) ≡ max (most_term_depth (patterns_view (take i ps))) (max (term_depth (view p)) 0)
    split = ap (λ l. most_term_depth (patterns_of l)) (map_more view ps i p h)
        ∙ most_append (map view (take i ps)) (view (get_or ps i p) ∷ [])
        ∙ ap (λ (q : Pattern). max (most_term_depth (patterns_view (take i ps))) (max (term_depth (view q)) 0)) (sym is)
