-- Sides and shapes from their parts.
use Rattle.std.proofs.Common.{◌≡◌, refl, ap, ◌∙◌, not, cond, List, [], ◌∷◌, length, get_or, Option, Some, None, Bor}
use Rattle.std.specs.Prelude.{unwrap_or}
use Rattle.std.specs.List.{filter, list_all}
use Rattle.std.specs.Option.{option_map}
use Rattle.kp_kore.specs.Syntax.{KorePattern}
use Rattle.kp_kore.specs.Parts.{is_term}
use Rattle.kp_kore.specs.View.{view}
use Rattle.kp_kore.specs.declared.pattern.Pattern.{Pattern}
use Rattle.kp_kore.specs.Instance.{is_predicate, conjuncts, conjoined_predicates}
use Rattle.kp_kore.specs.Rules.{Rewrite, only_one, constrained_term, under_binders, new_variables_of, joined}
use Rattle.kp_rules.specs.Shapes.{seen, side_of, side_view, rewrite_seen}
use Rattle.kp_rules.specs.declared.shape.Shape.{Shape}

pub one_term : (ts : List (Bor Pattern)) (t : Bor Pattern) → length ts ≡ 1 → t ≡ get_or ts 0 t → Some (view t.now) ≡ only_one (seen ts)
one_term [] t h e = absurd (cc)
one_term (a ∷ []) t h e = ap (λ x. Some (view x.now)) e
one_term (a ∷ b ∷ ts) t h e = absurd (cc)

pub not_one_term : (ts : List (Bor Pattern)) → (length ts ≡ 1 → ⊥) → None ≡ only_one (seen ts)
not_one_term [] h = refl
not_one_term (a ∷ []) h = absurd (h refl)
not_one_term (a ∷ b ∷ ts) h = refl

abbrev pub side_among : List KorePattern → List KorePattern → Option (KorePattern × List KorePattern)
side_among terms predicates = option_map (λ t. (t, predicates)) (cond (list_all is_predicate predicates) (only_one terms) None)

pub side_from : (p : KorePattern) (members terms predicates : List KorePattern) (o : Option (KorePattern × List KorePattern)) →
    members ≡ conjuncts p → terms ≡ filter is_term members → predicates ≡ filter (λ q. not (is_term q)) members → o ≡ side_among terms predicates → o ≡ side_of p
side_from p members terms predicates o e f g h =
    h ∙ ap (λ ts. side_among ts predicates) (f ∙ ap (filter is_term) e)
    ∙ ap (side_among (filter is_term (conjuncts p))) (g ∙ ap (filter (λ q. not (is_term q))) e)

from_sides : KorePattern → KorePattern × List KorePattern → KorePattern × List KorePattern → Rewrite
from_sides r a b = record { left = a.0; condition = a.1; new_variables = new_variables_of a.0 r; right = b.0; ensured = b.1 }

joined_parts : (l r t u : KorePattern) (s : Shape) → side_view s.left ≡ (t, conjoined_predicates l) → side_view s.right ≡ (u, conjoined_predicates (under_binders r)) →
    Some (rewrite_seen r s) ≡ joined l r (Some t) (Some u)
unfolding from_sides
joined_parts l r t u s e f =
    ap (λ a. Some (from_sides r a (side_view s.right))) e ∙ ap (λ b. Some (from_sides r (t, conjoined_predicates l) b)) f

both : (l r : KorePattern) (s : Shape) (x y : Option KorePattern) →
    Some (side_view s.left) ≡ option_map (λ t. (t, conjoined_predicates l)) x →
    Some (side_view s.right) ≡ option_map (λ t. (t, conjoined_predicates (under_binders r))) y →
    Some (rewrite_seen r s) ≡ joined l r x y
both l r s (Some t) (Some u) e f = joined_parts l r t u s (ap (λ o. unwrap_or o (side_view s.left)) e) (ap (λ o. unwrap_or o (side_view s.right)) f)
both l r s (Some t) None e f = absurd (cc)
both l r s None y e f = absurd (cc)

pub both_sides : (l r : KorePattern) (s : Shape) → Some (side_view s.left) ≡ side_of l → Some (side_view s.right) ≡ side_of (under_binders r) →
    Some (rewrite_seen r s) ≡ joined l r (constrained_term l) (constrained_term (under_binders r))
both_sides l r s e f = both l r s (constrained_term l) (constrained_term (under_binders r)) e f

left_out : (l r : KorePattern) (x y : Option KorePattern) → ◌≡◌ {A = Option (KorePattern × List KorePattern)} None (option_map (λ t. (t, conjoined_predicates l)) x) → None ≡ joined l r x y
left_out l r None (Some u) e = refl
left_out l r None None e = refl
left_out l r (Some t) y e = absurd (cc)

right_out : (l r : KorePattern) (x y : Option KorePattern) → ◌≡◌ {A = Option (KorePattern × List KorePattern)} None (option_map (λ t. (t, conjoined_predicates (under_binders r))) y) → None ≡ joined l r x y
right_out l r (Some t) None e = refl
right_out l r None None e = refl
right_out l r x (Some u) e = absurd (cc)

pub no_left : (l r : KorePattern) → None ≡ side_of l → None ≡ joined l r (constrained_term l) (constrained_term (under_binders r))
no_left l r e = left_out l r (constrained_term l) (constrained_term (under_binders r)) e

pub no_right : (l r : KorePattern) → None ≡ side_of (under_binders r) → None ≡ joined l r (constrained_term l) (constrained_term (under_binders r))
no_right l r e = right_out l r (constrained_term l) (constrained_term (under_binders r)) e
