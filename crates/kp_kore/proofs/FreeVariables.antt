-- The free variables of one more pattern of a list.
use Rattle.std.proofs.Common.{◌≡◌, ℕ, ◌+◌, ◌<◌, List, [], ◌∷◌, ◌++◌, map, length, take, get_or, refl, sym, ap, ◌∙◌}
use Rattle.std.proofs.lemmas.List.{map_more, append_assoc, append-nil}
use Rattle.kp_kore.specs.Syntax.{KorePattern}
use Rattle.kp_kore.specs.Parts.{SortedName, free_variables, all_free_variables}
use Rattle.kp_kore.specs.declared.pattern.Pattern.{Pattern}
use Rattle.kp_kore.specs.View.{view, patterns_of, patterns_view}

pub free_append : (ps qs : List KorePattern) → all_free_variables (patterns_of (ps ++ qs)) ≡ all_free_variables (patterns_of ps) ++ all_free_variables (patterns_of qs)
free_append [] qs = refl
free_append (p ∷ ps) qs =
    ap (λ l. free_variables p ++ l) (free_append ps qs)
    ∙ sym (append_assoc (free_variables p) (all_free_variables (patterns_of ps)) (all_free_variables (patterns_of qs)))

-- once the pattern at i is walked too
pub free_more : (ps : List Pattern) (i : ℕ) (p : Pattern) (before now : List SortedName) (start : List SortedName) →
    i < length ps → p ≡ get_or ps i p → before ≡ start ++ all_free_variables (patterns_view (take i ps)) → now ≡ before ++ free_variables (view p) →
    now ≡ start ++ all_free_variables (patterns_view (take (i + 1) ps))
free_more ps i p before now start h is e f =
    f ∙ ap (λ l. l ++ free_variables (view p)) e
    ∙ append_assoc start (all_free_variables (patterns_view (take i ps))) (free_variables (view p))
    ∙ ap (λ l. start ++ l) (sym split)
  where
    split : all_free_variables (patterns_view (take (i + 1) ps)) ≡ all_free_variables (patterns_view (take i ps)) ++ free_variables (view p)
    split = ap (λ l. all_free_variables (patterns_of l)) (map_more view ps i p h)
        ∙ free_append (map view (take i ps)) (view (get_or ps i p) ∷ [])
        ∙ ap (λ q. all_free_variables (patterns_view (take i ps)) ++ (free_variables (view q) ++ [])) (sym is)
        ∙ ap (λ l. all_free_variables (patterns_view (take i ps)) ++ l) (append-nil (free_variables (view p)))
