-- What weakAlwaysFinally takes, and the faults of outlines.
use Rattle.std.proofs.Common.{◌≡◌, refl, sym, ap, ◌∙◌, Bool, true, false, ◌&&◌, cond, List, [], ◌∷◌, length, get_or, Some, None, codes}
use Rattle.std.specs.Str.{bytes_eq}
use Rattle.kp_kore.specs.Syntax.{Text, KoreSort, KorePattern, application}
use Rattle.kp_kore.specs.Attributes.{sorts_equal}
use Rattle.kp_kore.specs.View.{view, sort_view, sorts_view, patterns_view}
use Rattle.kp_kore.specs.declared.sort.Sort.{Sort}
use Rattle.kp_kore.specs.declared.pattern.Pattern.{Pattern}
use Rattle.kp_kore.proofs.SameLemmas.{sorts_equal-Decides}
use Rattle.kp_claims.specs.Claims.{reached_on_all}

pub other_sorts : (s : KoreSort) (f : Text) (ss : List Sort) (ps : List Pattern) → (length ss ≡ 1 → ⊥) → reached_on_all s (application f (sorts_view ss) (patterns_view ps)) ≡ None
other_sorts s f [] ps h = refl
other_sorts s f (t ∷ []) ps h = absurd (h refl)
other_sorts s f (t ∷ (u ∷ us)) ps h = refl

pub other_arguments : (s : KoreSort) (f : Text) (ss : List Sort) (ps : List Pattern) → (length ps ≡ 1 → ⊥) → reached_on_all s (application f (sorts_view ss) (patterns_view ps)) ≡ None
other_arguments s f [] ps h = refl
other_arguments s f (t ∷ (u ∷ us)) ps h = refl
other_arguments s f (t ∷ []) [] h = refl
other_arguments s f (t ∷ []) (p ∷ []) h = absurd (h refl)
other_arguments s f (t ∷ []) (p ∷ (q ∷ ps)) h = refl

pub one_of_each : (s : KoreSort) (f : Text) (ss : List Sort) (ps : List Pattern) (t : Sort) (p : Pattern) → length ss ≡ 1 → length ps ≡ 1 → t ≡ get_or ss 0 t → p ≡ get_or ps 0 p →
    reached_on_all s (application f (sorts_view ss) (patterns_view ps)) ≡ cond (bytes_eq f (codes "weakAlwaysFinally") && sorts_equal s (sort_view t)) (Some (view p)) None
one_of_each s f [] ps t p h k e d = absurd (cc)
one_of_each s f (u ∷ (v ∷ us)) ps t p h k e d = absurd (cc)
one_of_each s f (u ∷ []) [] t p h k e d = absurd (cc)
one_of_each s f (u ∷ []) (q ∷ (r ∷ qs)) t p h k e d = absurd (cc)
one_of_each s f (u ∷ []) (q ∷ []) t p h k e d = ap (λ x. cond (bytes_eq f (codes "weakAlwaysFinally") && sorts_equal s (sort_view x)) (Some (view q)) None) (sym e) ∙ ap (λ x. cond (bytes_eq f (codes "weakAlwaysFinally") && sorts_equal s (sort_view t)) (Some (view x)) None) (sym d)

pub another_sort : (s t : KoreSort) (b : Bool) (p : KorePattern) → (s ≡ t → ⊥) → cond (b && sorts_equal s t) (Some p) None ≡ None
another_sort s t true p h = by (sorts_equal s t) refl
  where
    by : (b : Bool) → sorts_equal s t ≡ b → cond b (Some p) None ≡ None
    by true e = absurd (h ((sorts_equal-Decides s t).0 e))
    by false e = refl
another_sort s t false p h = refl

pub the_same_sort : (s t : KoreSort) (b : Bool) (p : KorePattern) → b ≡ true → s ≡ t → cond (b && sorts_equal s t) (Some p) None ≡ Some p
the_same_sort s t true p e h = ap (λ b. cond b (Some p) None) ((sorts_equal-Decides s t).1 h)
the_same_sort s t false p e h = absurd (cc)

pub other_sort : (s : KoreSort) (f : Text) (ss : List Sort) (ps : List Pattern) (t : Sort) → length ss ≡ 1 → t ≡ get_or ss 0 t → (s ≡ sort_view t → ⊥) → reached_on_all s (application f (sorts_view ss) (patterns_view ps)) ≡ None
other_sort s f [] ps t h e n = absurd (cc)
other_sort s f (u ∷ (v ∷ us)) ps t h e n = absurd (cc)
other_sort s f (u ∷ []) [] t h e n = refl
other_sort s f (u ∷ []) (q ∷ (r ∷ qs)) t h e n = refl
other_sort s f (u ∷ []) (q ∷ []) t h e n = another_sort s (sort_view u) (bytes_eq f (codes "weakAlwaysFinally")) (view q) (λ k. n (k ∙ ap sort_view (sym e)))
