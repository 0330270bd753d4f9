-- Levels of values at sorts, and of a constructor over its arguments.
use Rattle.std.proofs.Common.{◌≡◌, refl, sym, ap, ap₂, subst, ◌∙◌, ℕ, zero, suc, ◌+◌, ◌<◌, ◌≤◌, min, max, Bool, true, false, ◌↔◌, List, [], ◌∷◌, length, map, drop, get_or, arith}
use Rattle.std.specs.Prelude.{IsTrue, if◌then◌else◌}
use Rattle.std.proofs.lemmas.List.{drop_more}
use Rattle.kp_kore.specs.Syntax.{Text, KoreSort, KoreSorts, no_sorts, next_sort, KorePattern, no_patterns}
use Rattle.kp_kore.specs.Limits.{most_depth}
use Rattle.kp_kore.specs.Parts.{term_depth, most_term_depth}
use Rattle.kp_kore.specs.View.{sort_view, sorts_view}
use Rattle.kp_kore.specs.Attributes.{sorts_equal}
use Rattle.kp_kore.specs.Signature.{KoreSignature}
use Rattle.kp_kore.specs.declared.sort.Sort.{Sort}
use Rattle.kp_kore.specs.Value as model
use Rattle.kp_kore.proofs.SameLemmas.{sorts_equal-Decides}
use Rattle.kp_ground.specs.View.{value_view, values_of}
use Rattle.kp_ground.specs.declared.value.Value.{Value}
use Rattle.kp_compile.specs.Spelled.{spelling, spellings, bare_spelling, home_of, places_of, placed, injected}
use Rattle.kp_run.specs.Depths.{node, levels_of, counted, depths_in}
use Rattle.kp_run.specs.View.{AreDepthsOf, AreDepthsOfAll, depths_view, trees_of}
use Rattle.kp_run.specs.declared.depths.Depths.{Depths}
use Rattle.kp_run.proofs.Listed.{as_many, at_place, trees_of_values}

-- ---- one value

alone : (g : KoreSignature) (own : KoreSort) (u : model.Value) → levels_of (depths_in g u) ≡ counted (term_depth (bare_spelling g own u))
alone g own (model.whole n) = refl
alone g own (model.truth b) = refl
alone g own (model.token t x) = refl
alone g own (model.constructed c us) = refl

spelled_as : (g : KoreSignature) (s : KoreSort) (u : model.Value) → spelling g s u ≡ placed (home_of g s u) s (bare_spelling g (home_of g s u) u)
spelled_as g s (model.whole n) = refl
spelled_as g s (model.truth b) = refl
spelled_as g s (model.token t x) = refl
spelled_as g s (model.constructed c us) = refl

isnt_so : (b : Bool) → ¬ (b ≡ true) → b ≡ false
isnt_so true isnt = absurd (isnt refl)
isnt_so false isnt = refl

home_depth : (own s : KoreSort) (p : KorePattern) → own ≡ s → term_depth (placed own s p) ≡ term_depth p
home_depth own s p same = ap (λ b. term_depth (if b then p else injected own s p)) ((sorts_equal-Decides own s).1 same)

away_depth : (own s : KoreSort) (p : KorePattern) → ¬ (own ≡ s) → term_depth (placed own s p) ≡ suc (max (term_depth p) 0)
away_depth own s p apart =
    ap (λ b. term_depth (if b then p else injected own s p)) (isnt_so (sorts_equal own s) (λ same. apart ((sorts_equal-Decides own s).0 same)))

pub levels_at_home : (g : KoreSignature) (s : KoreSort) (u : model.Value) (d : Depths) (n : ℕ) → home_of g s u ≡ s → AreDepthsOf g u d → n ≡ levels_of (depths_view d) → n ≡ counted (term_depth (spelling g s u))
levels_at_home g s u d n same told e =
    let p = bare_spelling g (home_of g s u) u in
    e ∙ ap levels_of told ∙ alone g (home_of g s u) u ∙ sym (ap counted (ap term_depth (spelled_as g s u) ∙ home_depth (home_of g s u) s p same))

one_over : (n m d e : ℕ) → m ≡ counted d → n ≡ counted (suc m) → e ≡ suc (max d 0) → n ≡ counted e
one_over n m d e h k l = omega (arith, h, k, l)

pub levels_away : (g : KoreSignature) (s : KoreSort) (u : model.Value) (d : Depths) (m n : ℕ) → ¬ (home_of g s u ≡ s) → AreDepthsOf g u d → m ≡ levels_of (depths_view d) → n ≡ counted (suc m) → n ≡ counted (term_depth (spelling g s u))
levels_away g s u d m n apart told e f =
    let p = bare_spelling g (home_of g s u) u in
    one_over n m (term_depth p) (term_depth (spelling g s u)) (e ∙ ap levels_of told ∙ alone g (home_of g s u) u) f
    (ap term_depth (spelled_as g s u) ∙ away_depth (home_of g s u) s p apart)

pub shallow_so : (b : Bool) (n d : ℕ) → IsTrue b ↔ (n < suc most_depth) → n ≡ counted d → IsTrue b ↔ (d ≤ most_depth)
shallow_so b n d told e = (
  (λ is. let below : n < suc most_depth = told.0 is in omega (arith, e)),
  (λ le. told.1 (omega (arith, e))),
)

-- ---- the arguments of a constructor

-- how deep the deepest is from a place on
abbrev pub depth_from : KoreSignature → ℕ → List Sort → List Value → ℕ
depth_from g i ss us = most_term_depth (spellings g (sorts_view (drop i ss)) (values_of (map value_view (drop i us))))

from_here : (g : KoreSignature) (i : ℕ) (ss : List Sort) (us : List Value) (s : Sort) (u : Value) → i < length ss → i < length us → s ≡ get_or ss i s → u ≡ get_or us i u →
    depth_from g i ss us ≡ max (term_depth (spelling g (sort_view s) (value_view u))) (depth_from g (i + 1) ss us)
from_here g i ss us s u h k e f =
    let sorts : drop i ss ≡ s ∷ drop (i + 1) ss = drop_more ss i s h ∙ ap (λ x. x ∷ drop (i + 1) ss) (sym e) in
    let values : drop i us ≡ u ∷ drop (i + 1) us = drop_more us i u k ∙ ap (λ x. x ∷ drop (i + 1) us) (sym f) in
    ap₂ (λ xs ys. most_term_depth (spellings g (sorts_view xs) (values_of (map value_view ys)))) sorts values

most_on : (most next level here rest all : ℕ) → counted (max most here) ≡ counted all → here ≡ max level rest → next ≡ max most (counted level) → counted (max next rest) ≡ counted all
most_on most next level here rest all h k l = omega (arith, h, k, l)

still_counted : (most next level : ℕ) → most ≤ suc most_depth → next ≡ max most (counted level) → next ≤ suc most_depth
still_counted most next level h k = omega (arith, h, k)

pub next_levels : (g : KoreSignature) (i : ℕ) (ss : List Sort) (us : List Value) (ds : List Depths) (s : Sort) (u : Value) (d : Depths) (most next n all : ℕ) →
    i < min (min (length us) (length ss)) (length ds) → s ≡ get_or ss i s → u ≡ get_or us i u → d ≡ get_or ds i d → AreDepthsOfAll g us ds →
    (AreDepthsOf g (value_view u) d → n ≡ counted (term_depth (spelling g (sort_view s) (value_view u)))) → next ≡ max most n →
    (counted (max most (depth_from g i ss us)) ≡ counted all) × (most ≤ suc most_depth) → (counted (max next (depth_from g (i + 1) ss us)) ≡ counted all) × (next ≤ suc most_depth)
next_levels g i ss us ds s u d most next n all h e f k told level m z =
    let here : AreDepthsOf g (value_view u) d = at_place depths_view (λ x. depths_in g (value_view x)) i ds us d u told (omega (arith, h)) (omega (arith, h)) k f in
    let level_is = m ∙ ap (max most) (level here) in (
      most_on most next (term_depth (spelling g (sort_view s) (value_view u))) (depth_from g i ss us) (depth_from g (i + 1) ss us) all z.0
          (from_here g i ss us s u (omega (arith, h)) (omega (arith, h)) e f) level_is,
      still_counted most next (term_depth (spelling g (sort_view s) (value_view u))) z.1 level_is,
    )

none_spelled : (g : KoreSignature) (ss : KoreSorts) → spellings g ss model.no_values ≡ no_patterns
none_spelled g no_sorts = refl
none_spelled g (next_sort s ss) = refl

none_left : (g : KoreSignature) (i : ℕ) (ss : List Sort) (us : List Value) → min (length us) (length ss) ≤ i → depth_from g i ss us ≡ 0
none_left g zero [] us h = refl
none_left g (suc i) [] us h = refl
none_left g zero (s ∷ ss) [] h = refl
none_left g (suc i) (s ∷ ss) [] h = ap most_term_depth (none_spelled g (sorts_view (drop i ss)))
none_left g zero (s ∷ ss) (u ∷ us) h = absurd (omega (arith, h))
none_left g (suc i) (s ∷ ss) (u ∷ us) h = none_left g i ss us (omega (arith, h))

bounded : (n most rest all : ℕ) → most ≡ counted n → rest ≡ 0 → counted (max most rest) ≡ counted all → most ≡ counted all
bounded n most rest all b h z = omega (arith, b, h, z)

within : (n : ℕ) → n ≤ suc most_depth → n ≡ counted n
within n h = omega (arith, h)

pub all_levels : (g : KoreSignature) (i : ℕ) (ss : List Sort) (us : List Value) (ds : List Depths) (most all : ℕ) → min (min (length us) (length ss)) (length ds) ≤ i → AreDepthsOfAll g us ds →
    (counted (max most (depth_from g i ss us)) ≡ counted all) × (most ≤ suc most_depth) → most ≡ counted all
all_levels g i ss us ds most all h told z =
    let long : length ds ≡ length us = as_many depths_view (λ x. depths_in g (value_view x)) ds us told in
    bounded most most (depth_from g i ss us) all (within most z.1) (none_left g i ss us (omega (arith, h, long))) z.0

pub built_over : (g : KoreSignature) (c : Text) (us : List Value) (ds : List Depths) (d : Depths) (ss : KoreSorts) (m n : ℕ) → AreDepthsOfAll g us ds →
    m ≡ counted (most_term_depth (spellings g ss (values_of (map value_view us)))) → n ≡ counted (suc m) → ss ≡ places_of g c → depths_view d ≡ node n (trees_of (map depths_view ds)) →
    AreDepthsOf g (model.constructed c (values_of (map value_view us))) d
built_over g c us ds d ss m n told e f places is =
    let us' = values_of (map value_view us) in
    let most : m ≡ counted (most_term_depth (spellings g (places_of g c) us')) = subst (λ x. m ≡ counted (most_term_depth (spellings g x us'))) places e in
    is ∙ ap₂ node (suc_counted n m (most_term_depth (spellings g (places_of g c) us')) most f) (ap trees_of told ∙ trees_of_values g us)
  where
    suc_counted : (n m d : ℕ) → m ≡ counted d → n ≡ counted (suc m) → n ≡ counted (suc d)
    suc_counted n m d h k = omega (arith, h, k)
