-- What a rewrite's shape says of its two sides.
use Rattle.std.proofs.Common.{◌≡◌, refl, sym, ap, subst, ◌∙◌, Bool, true, false, cond, List, [], ◌∷◌, Option, Some, None}
use Rattle.std.specs.List.{list_all, AllByRecursion}
use Rattle.kp_kore.specs.Syntax.{KoreSort, KorePattern, rewriting, exists}
use Rattle.kp_kore.specs.Parts.{is_term}
use Rattle.kp_kore.specs.Instance.{is_predicate, conjuncts, conjoined_terms, conjoined_predicates}
use Rattle.kp_kore.specs.Rules.{Rewrite, only_one, constrained_term, top_binders, under_binders, have_distinct_names, new_variables_of, joined, rewrite_of}
use Rattle.kp_signature.proofs.SortLemmas.{same_inside}
use Rattle.kp_signature.proofs.ListLemmas.{all_filtered}

pub record HasSides (l r : KorePattern) (m : Rewrite) : Type 0 where
  pub left : constrained_term l ≡ Some m.left
  pub right : constrained_term (under_binders r) ≡ Some m.right
  pub new_variables : m.new_variables ≡ new_variables_of m.left r

from_joined : (l r : KorePattern) (m : Rewrite) (a b : Option KorePattern) → constrained_term l ≡ a → constrained_term (under_binders r) ≡ b → joined l r a b ≡ Some m → HasSides l r m
from_joined l r m None b e f h = absurd (cc)
from_joined l r m (Some t) None e f h = absurd (cc)
from_joined l r m (Some t) (Some u) e f h = record {
  left = e ∙ ap Some (ap (λ w. w.left) same);
  right = f ∙ ap Some (ap (λ w. w.right) same);
  new_variables = sym (ap (λ w. w.new_variables) same) ∙ ap (λ w. new_variables_of w.left r) same;
}
  where
    made : Rewrite
    made = record { left = t; condition = conjoined_predicates l; new_variables = new_variables_of t r; right = u; ensured = conjoined_predicates (under_binders r) }

    same : made ≡ m
    same = same_inside made m h

pub sides_of : (s : KoreSort) (l r : KorePattern) (m : Rewrite) → rewrite_of (rewriting s l r) ≡ Some m → HasSides l r m
sides_of s l r m e = by (have_distinct_names (top_binders r)) e
  where
    by : (b : Bool) → cond b (joined l r (constrained_term l) (constrained_term (under_binders r))) None ≡ Some m → HasSides l r m
    by true h = from_joined l r m (constrained_term l) (constrained_term (under_binders r)) refl refl h
    by false h = absurd (cc)

-- without binders at the top nothing stands under them
pub no_binders : (r : KorePattern) → top_binders r ≡ [] → under_binders r ≡ r
no_binders (exists s x t p) e = absurd (cc)
no_binders _ e = refl

holds_of_one : (P : KorePattern → Type 0) (ts : List KorePattern) (t : KorePattern) → only_one ts ≡ Some t → AllByRecursion P ts → P t
holds_of_one P [] t e h = absurd (cc)
holds_of_one P (u ∷ []) t e h = subst P (same_inside u t e) h.0
holds_of_one P (u ∷ w ∷ ts) t e h = absurd (cc)

-- what holds of all members holds of the one term
pub holds_of_term : (P : KorePattern → Type 0) (p t : KorePattern) → constrained_term p ≡ Some t → AllByRecursion P (conjuncts p) → P t × (is_term t ≡ true)
holds_of_term P p t e h = by (list_all is_predicate (conjoined_predicates p)) e
  where
    by : (b : Bool) → cond b (only_one (conjoined_terms p)) None ≡ Some t → P t × (is_term t ≡ true)
    by true o = holds_of_one (λ q. P q × (is_term q ≡ true)) (conjoined_terms p) t o (all_filtered P is_term (conjuncts p) h)
    by false o = absurd (cc)
