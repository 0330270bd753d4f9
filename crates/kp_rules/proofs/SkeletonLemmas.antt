-- What skeletons stand for, part by part.
use Rattle.std.proofs.Common.{◌≡◌, refl, sym, ap, subst, ℕ, zero, suc, ◌+◌, ◌<◌, ◌≤◌, Bool, true, false, ◌&&◌, ◌↔◌, inl, inr, List, [], ◌∷◌, map, length, get_or, add-one, arith}
use Rattle.std.specs.Prelude.{Option, Some, None, MatchBool, unwrap_or}
use Rattle.std.specs.Option.{option_map}
use Rattle.std.specs.List.{AllZip}
use Rattle.kp_kore.specs.Syntax.{Text, KoreSort, sort_of, sort_variable, KoreSorts, KorePattern, variable, set_variable, application, string_literal, literal, top, bottom, negation, next, conjunction, disjunction, implication, equivalence, rewriting, exists, forall, ceil, floor, equals, membership, mu, nu}
use Rattle.kp_kore.specs.Hooks.{Hook}
use Rattle.kp_kore.specs.Signature.{KoreSignature, meaning_of, construction, injection, interpretation, foreign}
use Rattle.kp_kore.specs.Sorting.{sort_of_term, result_sort}
use Rattle.kp_kore.specs.View.{view, patterns_view}
use Rattle.kp_kore.specs.declared.pattern.Pattern.{Pattern}
use Rattle.kp_kore.specs.Value.{Value, constructed, whole, truth, token, Values, no_values, next_value}
use Rattle.kp_kore.specs.Instance.{Valuation}
use Rattle.kp_kore.specs.Foreign.{IsAnyOf, IsAnyOfMaybe, IsConstructedBy, MayBe, MayBeAll, InjectionsSplit}
use Rattle.kp_kore.specs.Instance.{conjoined_predicates}
use Rattle.kp_kore.specs.Rules.{constrained_term}
use Rattle.kp_kore.specs.Limits.{most_depth}
use Rattle.kp_kore.specs.Foreign.{IsSkeletonInstance}
use Rattle.kp_rules.specs.Shapes.{side_of}
use Rattle.kp_rules.specs.Skeletons.{IsAdmitted, Form, built, nothing, any_form, maybe_form, forms_of, skeleton_view, Admits, AdmitAll, StandsFor, StandForAll, StandsForFirst}
use Rattle.kp_rules.specs.declared.skeleton.Skeleton.{Skeleton}

pub any_stands : (g : KoreSignature) (v : Valuation) (s : KoreSort) (u : Value) → Admits g v (any_form s) u ↔ IsAnyOf g s u
any_stands g v (sort_of n ss) u = ((λ h. h), (λ h. h))
any_stands g v (sort_variable n) u = ((λ h. tt), (λ h. tt))

maybe_stands : (g : KoreSignature) (v : Valuation) (o : Option KoreSort) (u : Value) → Admits g v (maybe_form o) u ↔ IsAnyOfMaybe g o u
maybe_stands g v (Some s) u = any_stands g v s u
maybe_stands g v None u = ((λ h. tt), (λ h. tt))

-- ---- at no level, and of other patterns

pub no_level : (g : KoreSignature) (p : KorePattern) (k : Form) → k ≡ maybe_form (sort_of_term g p) → StandsFor g 0 p k
no_level g p k e = λ v u. subst (λ f. Admits g v f u ↔ MayBe g v 0 p u) (sym e) (maybe_stands g v (sort_of_term g p) u)

pub at_level : (g : KoreSignature) (n : ℕ) (p : KorePattern) (k : Form) → StandsFor g (suc n) p k → StandsFor g (n + 1) p k
at_level g n p k h = rw add-one h

-- ---- applications; levels is one more than n

constructed_same : (f : Text) (P Q : Values → Type 0) (u : Value) → ((us : Values) → P us ↔ Q us) → IsConstructedBy f P u ↔ IsConstructedBy f Q u
constructed_same f P Q (whole n) h = ((λ a. a), (λ a. a))
constructed_same f P Q (truth b) h = ((λ a. a), (λ a. a))
constructed_same f P Q (token s x) h = ((λ a. a), (λ a. a))
constructed_same f P Q (constructed c us) h = ((λ a. (a.0, (h us).0 a.1)), (λ a. (a.0, (h us).1 a.1)))

pub built_stands : (g : KoreSignature) (n : ℕ) (f : Text) (ss : KoreSorts) (ps : List Pattern) (ks : List Skeleton) (k : Form) → meaning_of g f ≡ construction →
    StandForAll g n (patterns_view ps) ks → k ≡ built f (forms_of (map skeleton_view ks)) → StandsFor g (suc n) (application f ss (patterns_view ps)) k
built_stands g n f ss ps ks k m all e = λ v u.
    rw (e, m) (constructed_same f (AdmitAll g v (forms_of (map skeleton_view ks))) (MayBeAll g v n (patterns_view ps)) u (all v))

pub injection_seen : (g : KoreSignature) (n : ℕ) (f : Text) (ss : KoreSorts) (ps : List Pattern) (k : Form) → meaning_of g f ≡ injection → InjectionsSplit g (application f ss (patterns_view ps)) →
    StandsForFirst g n (patterns_view ps) k → StandsFor g (suc n) (application f ss (patterns_view ps)) k
injection_seen g n f ss ps k m split first = λ v u. rw m (
  (λ a. inl (split, (first v u).0 a)),
  (λ s. elim s [ inl p ↦ (first v u).1 p.1 | inr q ↦ absurd (q.0 split) ]),
)

pub injection_any : (g : KoreSignature) (n : ℕ) (f : Text) (ss : KoreSorts) (ps : List Pattern) (k : Form) → meaning_of g f ≡ injection → ¬ InjectionsSplit g (application f ss (patterns_view ps)) →
    k ≡ maybe_form (result_sort g f ss) → StandsFor g (suc n) (application f ss (patterns_view ps)) k
injection_any g n f ss ps k m unsplit e = λ v u.
    let any : Admits g v (maybe_form (result_sort g f ss)) u ↔ IsAnyOfMaybe g (result_sort g f ss) u = maybe_stands g v (result_sort g f ss) u in
    rw (e, m) (
      (λ a. inr (unsplit, any.0 a)),
      (λ s. elim s [ inl p ↦ absurd (unsplit p.0) | inr q ↦ any.1 q.1 ]),
    )

pub interpreted_any : (g : KoreSignature) (n : ℕ) (f : Text) (ss : KoreSorts) (ps : List Pattern) (k : Form) (h : Hook) → meaning_of g f ≡ interpretation h →
    k ≡ maybe_form (result_sort g f ss) → StandsFor g (suc n) (application f ss (patterns_view ps)) k
interpreted_any g n f ss ps k h m e = λ v u.
    let any : Admits g v (maybe_form (result_sort g f ss)) u ↔ IsAnyOfMaybe g (result_sort g f ss) u = maybe_stands g v (result_sort g f ss) u in
    rw (e, m) any

pub foreign_any : (g : KoreSignature) (n : ℕ) (f : Text) (ss : KoreSorts) (ps : List Pattern) (k : Form) → meaning_of g f ≡ foreign →
    k ≡ maybe_form (result_sort g f ss) → StandsFor g (suc n) (application f ss (patterns_view ps)) k
foreign_any g n f ss ps k m e = λ v u.
    let any : Admits g v (maybe_form (result_sort g f ss)) u ↔ IsAnyOfMaybe g (result_sort g f ss) u = maybe_stands g v (result_sort g f ss) u in
    rw (e, m) any

-- ---- lists

no_more : (g : KoreSignature) (n : ℕ) (v : Valuation) (us : Values) → AdmitAll g v (forms_of []) us ↔ MayBeAll g v n (patterns_view []) us
no_more g n v no_values = ((λ h. tt), (λ h. tt))
no_more g n v (next_value u us) = ((λ h. h), (λ h. h))

one_more : (g : KoreSignature) (n : ℕ) (p : Pattern) (ps : List Pattern) (k : Skeleton) (ks : List Skeleton) → StandsFor g n (view p) (skeleton_view k) → StandForAll g n (patterns_view ps) ks →
    (v : Valuation) (us : Values) → AdmitAll g v (forms_of (map skeleton_view (k ∷ ks))) us ↔ MayBeAll g v n (patterns_view (p ∷ ps)) us
one_more g n p ps k ks one all v no_values = ((λ h. h), (λ h. h))
one_more g n p ps k ks one all v (next_value u us) =
    ((λ h. ((one v u).0 h.0, (all v us).0 h.1)), (λ h. ((one v u).1 h.0, (all v us).1 h.1)))

pub zip_stands : (g : KoreSignature) (n : ℕ) (ps : List Pattern) (ks : List Skeleton) → AllZip (λ p k. StandsFor g n (view p) (skeleton_view k)) ps ks → StandForAll g n (patterns_view ps) ks
zip_stands g n [] [] z = no_more g n
zip_stands g n [] (k ∷ ks) z = absurd z
zip_stands g n (p ∷ ps) [] z = absurd z
zip_stands g n (p ∷ ps) (k ∷ ks) z = one_more g n p ps k ks z.0 (zip_stands g n ps ks z.1)

-- ---- the first of a list

pub first_stands : (g : KoreSignature) (n i : ℕ) (ps : List Pattern) (p : Pattern) (k : Form) → i ≡ 0 → i < length ps → p ≡ get_or ps i p → StandsFor g n (view p) k → StandsForFirst g n (patterns_view ps) k
first_stands g n i [] p k z h e s = absurd (omega arith)
first_stands g n zero (q ∷ ps) p k z h e s = λ v u. subst (λ x. Admits g v k u ↔ MayBe g v n (view x) u) e (s v u)
first_stands g n (suc i) (q ∷ ps) p k z h e s = absurd (cc)

pub none_stands : (g : KoreSignature) (n : ℕ) (ps : List Pattern) (k : Form) → length ps ≤ 0 → k ≡ nothing → StandsForFirst g n (patterns_view ps) k
none_stands g n [] k h e = λ v u. rw e ((λ a. a), (λ a. a))
none_stands g n (p ∷ ps) k h e = absurd (omega arith)

-- ---- from a level and a pattern to those of the code

pub of_pattern : (g : KoreSignature) (n levels : ℕ) (p q : KorePattern) (k : Form) → levels ≡ n + 1 → p ≡ q → StandsFor g (n + 1) q k → StandsFor g levels p k
of_pattern g n levels p q k e is h = subst (λ m. StandsFor g m p k) (sym e) (subst (λ x. StandsFor g (n + 1) x k) (sym is) h)

-- ---- all other patterns

abbrev pub is_other : KorePattern → Bool
is_other (variable x s) = false
is_other (literal s t) = false
is_other (application f ss ps) = false
is_other _ = true

pub other_stands : (g : KoreSignature) (n : ℕ) (p : KorePattern) (k : Form) → is_other p ≡ true → k ≡ maybe_form (sort_of_term g p) → StandsFor g (suc n) p k
other_stands g n (variable x s) k h e = absurd (cc)
other_stands g n (literal s t) k h e = absurd (cc)
other_stands g n (application f ss ps) k h e = absurd (cc)
other_stands g n (set_variable x s) k h e = no_level g (set_variable x s) k e
other_stands g n (string_literal t) k h e = no_level g (string_literal t) k e
other_stands g n (top s) k h e = no_level g (top s) k e
other_stands g n (bottom s) k h e = no_level g (bottom s) k e
other_stands g n (negation s q) k h e = no_level g (negation s q) k e
other_stands g n (next s q) k h e = no_level g (next s q) k e
other_stands g n (conjunction s ps) k h e = no_level g (conjunction s ps) k e
other_stands g n (disjunction s ps) k h e = no_level g (disjunction s ps) k e
other_stands g n (implication s q r) k h e = no_level g (implication s q r) k e
other_stands g n (equivalence s q r) k h e = no_level g (equivalence s q r) k e
other_stands g n (rewriting s q r) k h e = no_level g (rewriting s q r) k e
other_stands g n (exists s x t q) k h e = no_level g (exists s x t q) k e
other_stands g n (forall s x t q) k h e = no_level g (forall s x t q) k e
other_stands g n (ceil a s q) k h e = no_level g (ceil a s q) k e
other_stands g n (floor a s q) k h e = no_level g (floor a s q) k e
other_stands g n (equals a s q r) k h e = no_level g (equals a s q r) k e
other_stands g n (membership a s q r) k h e = no_level g (membership a s q r) k e
other_stands g n (mu x s q) k h e = no_level g (mu x s q) k e
other_stands g n (nu x s q) k h e = no_level g (nu x s q) k e

-- ---- left sides

term_some : (x : KorePattern × List KorePattern) (l : KorePattern) (o : Option KorePattern) → Some x ≡ option_map (λ t. (t, conjoined_predicates l)) o → o ≡ Some x.0
term_some x l (Some t) e = sym (ap (λ o. Some (unwrap_or o x).0) e)
term_some x l None e = absurd (cc)

term_none : (l : KorePattern) (o : Option KorePattern) → ◌≡◌ {A = Option (KorePattern × List KorePattern)} None (option_map (λ t. (t, conjoined_predicates l)) o) → o ≡ None
term_none l (Some t) e = absurd (cc)
term_none l None e = refl

pub left_term : (g : KoreSignature) (s : KoreSort) (l : KorePattern) (x : KorePattern × List KorePattern) (k : Skeleton) → Some x ≡ side_of l → StandsFor g most_depth x.0 (skeleton_view k) →
    (u : Value) → IsAdmitted g k u ↔ IsSkeletonInstance g (record { sort = s; term = constrained_term l }) u
left_term g s l x k e h u =
    subst (λ o. IsAdmitted g k u ↔ IsSkeletonInstance g (record { sort = s; term = o }) u) (sym (term_some x l (constrained_term l) e))
    ((λ a. (a.0, (h a.0 u).0 a.1)), (λ m. (m.0, (h m.0 u).1 m.1)))

pub left_any : (g : KoreSignature) (s : KoreSort) (l : KorePattern) (k : Skeleton) → ◌≡◌ {A = Option (KorePattern × List KorePattern)} None (side_of l) → skeleton_view k ≡ any_form s →
    (u : Value) → IsAdmitted g k u ↔ IsSkeletonInstance g (record { sort = s; term = constrained_term l }) u
left_any g s l k e is u =
    subst (λ o. IsAdmitted g k u ↔ IsSkeletonInstance g (record { sort = s; term = o }) u) (sym (term_none l (constrained_term l) e))
    (subst (λ f. ((v : Valuation) × Admits g v f u) ↔ IsAnyOf g s u) (sym is)
    ((λ a. (any_stands g a.0 s u).0 a.1), (λ m. let v : Valuation = λ y. u in (v, (any_stands g v s u).1 m))))

-- ---- tests

pub chosen_true : (b : Bool) (P Q : Type 0) → b ≡ true → MatchBool b P Q → P
chosen_true b P Q e h = subst (λ c. MatchBool c P Q) e h

pub chosen_false : (b : Bool) (P Q : Type 0) → b ≡ false → MatchBool b P Q → Q
chosen_false b P Q e h = subst (λ c. MatchBool c P Q) e h

pub no_second : (a b : Bool) → b ≡ false → a && b ≡ false
no_second true b h = h
no_second false b h = refl
