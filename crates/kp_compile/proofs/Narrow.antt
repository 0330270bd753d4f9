-- The numbers beyond 128 bits that compiled terms and conditions compute are those of their patterns' calls.
use Rattle.std.proofs.Common.{◌≡◌, refl, sym, ◌∙◌, ap, ap₂, Bool, true, false, not, ◌&&◌, ◌||◌, List, [], ◌∷◌, ◌++◌, map, length, get_or}
use Rattle.std.specs.Borrow.{Bor}
use Rattle.std.specs.List.{AllZip, list_any}
use Rattle.std.proofs.lemmas.List.Folds.{list_any-append}
use Rattle.std.proofs.lemmas.List.{append-nil}
use Rattle.kp_kore.specs.Syntax.{Text, KoreSorts, KorePattern, KorePatterns, application, no_patterns, next_pattern}
use Rattle.kp_kore.specs.Parts.{subpatterns, all_subpatterns}
use Rattle.kp_kore.specs.Hooks.{Hook, truth_negation}
use Rattle.kp_kore.specs.Signature.{KoreSignature, SymbolMeaning, injection, construction, interpretation, meaning_of}
use Rattle.kp_kore.specs.View.{view, patterns_view}
use Rattle.kp_kore.specs.declared.pattern.Pattern.{Pattern}
use Rattle.kp_kore.specs.Value.{Value, whole, truth, token, constructed, no_values, next_value}
use Rattle.kp_kore.specs.Forms.{two}
use Rattle.kp_kore.specs.Interpretation.{interpreted}
use Rattle.kp_kore.specs.Instance.{Valuation, instance, instances, applied}
use Rattle.kp_kore.specs.Limits.{fits_number}
use Rattle.kp_kore.specs.Foreign.{is_interpretation}
use Rattle.kp_kore.specs.Numbers.{is_wide_call, computes_wide}
use Rattle.kp_kore.specs.Replies.{is_wide_value}
use Rattle.kp_ground.specs.Terms.{RuleTerm, call, opposite, term_value, is_narrow, stays_narrow, all_stay_narrow}
use Rattle.kp_ground.specs.TermView.{term_view, terms_of}
use Rattle.kp_ground.specs.Conditions.{all_narrow}
use Rattle.kp_ground.specs.ConditionView.{condition_view, conditions_of}
use Rattle.kp_ground.specs.declared.term.CompiledTerm.{CompiledTerm}
use Rattle.kp_ground.specs.declared.condition.Condition.{Condition}
use Rattle.kp_compile.specs.Exact.{AreTermsNarrowAs, AreConditionsNarrowAs, IsConditionNarrowAs}
use Rattle.kp_compile.specs.Parts.{seen}

-- ---- none of two

none_of_two : (a b x y : Bool) → a ≡ not x → b ≡ not y → a && b ≡ not (x || y)
none_of_two a b true y e f = ap (λ c. c && b) e
none_of_two a b false y e f = ap (λ c. c && b) e ∙ f

pub none_of_both : {A : Type 0} (test : A → Bool) (xs ys : List A) (a b : Bool) → a ≡ not (list_any test xs) → b ≡ not (list_any test ys) → a && b ≡ not (list_any test (xs ++ ys))
none_of_both test xs ys a b e f = none_of_two a b (list_any test xs) (list_any test ys) e f ∙ ap not (sym (list_any-append test xs ys))

twice : (b : Bool) → b || b ≡ b
twice true = refl
twice false = refl

pub of_itself : (a x : Bool) → a ≡ not (x || x) → a ≡ not x
of_itself a x e = e ∙ ap not (twice x)

pub of_two : (g : KoreSignature) (v : Valuation) (p q : KorePattern) (a : Bool) → a ≡ not (computes_wide g v p || computes_wide g v q) → a ≡ not (list_any (is_wide_call g v) (subpatterns p ++ subpatterns q))
of_two g v p q a e = e ∙ ap not (sym (list_any-append (is_wide_call g v) (subpatterns p) (subpatterns q)))

-- the two members of a list of two
pub of_pair : (g : KoreSignature) (v : Valuation) (p q : KorePattern) (a : Bool) → a ≡ not (computes_wide g v p || computes_wide g v q) →
    a ≡ not (list_any (is_wide_call g v) (all_subpatterns (next_pattern p (next_pattern q no_patterns))))
of_pair g v p q a e = of_two g v p q a e ∙ ap (λ qs. not (list_any (is_wide_call g v) (subpatterns p ++ qs))) (sym (append-nil (subpatterns q)))

pub both_terms : (g : KoreSignature) (v : Valuation) (p q : KorePattern) (a b : Bool) → a ≡ not (computes_wide g v p) → b ≡ not (computes_wide g v q) → a && b ≡ not (computes_wide g v p || computes_wide g v q)
both_terms g v p q a b e f = none_of_two a b (computes_wide g v p) (computes_wide g v q) e f

-- ---- lists

pub each_term_narrow : (g : KoreSignature) (v : Valuation) (ps : List Pattern) (ts : List CompiledTerm) → AreTermsNarrowAs g ps ts →
    all_stay_narrow v (terms_of (map term_view ts)) ≡ not (list_any (is_wide_call g v) (all_subpatterns (patterns_view ps)))
each_term_narrow g v [] [] z = refl
each_term_narrow g v [] (t ∷ ts) z = absurd z
each_term_narrow g v (p ∷ ps) [] z = absurd z
each_term_narrow g v (p ∷ ps) (t ∷ ts) z = none_of_both (is_wide_call g v) (subpatterns (view p)) (all_subpatterns (patterns_view ps)) _ _ (z.0 v) (each_term_narrow g v ps ts z.1)

pub each_condition_narrow : (g : KoreSignature) (v : Valuation) (ps : List Pattern) (cs : List Condition) → AreConditionsNarrowAs g ps cs →
    all_narrow v (conditions_of (map condition_view cs)) ≡ not (list_any (is_wide_call g v) (all_subpatterns (patterns_view ps)))
each_condition_narrow g v [] [] z = refl
each_condition_narrow g v [] (c ∷ cs) z = absurd z
each_condition_narrow g v (p ∷ ps) [] z = absurd z
each_condition_narrow g v (p ∷ ps) (c ∷ cs) z = none_of_both (is_wide_call g v) (subpatterns (view p)) (all_subpatterns (patterns_view ps)) _ _ (z.0 v) (each_condition_narrow g v ps cs z.1)

pub each_lent_narrow : (g : KoreSignature) (v : Valuation) (ps : List (Bor Pattern)) (cs : List Condition) → AllZip (λ p c. IsConditionNarrowAs g (view p.now) c) ps cs →
    all_narrow v (conditions_of (map condition_view cs)) ≡ not (list_any (computes_wide g v) (seen ps))
each_lent_narrow g v [] [] z = refl
each_lent_narrow g v [] (c ∷ cs) z = absurd z
each_lent_narrow g v (p ∷ ps) [] z = absurd z
each_lent_narrow g v (p ∷ ps) (c ∷ cs) z = none_of_two _ _ (computes_wide g v (view p.now)) (list_any (computes_wide g v) (seen ps)) (z.0 v) (each_lent_narrow g v ps cs z.1)

-- ---- applications by their meaning

-- whether the application of such a meaning is a wide call itself
abbrev wide_by : KoreSignature → Valuation → Text → KorePatterns → SymbolMeaning → Bool
wide_by g v f ps m = is_interpretation m && is_wide_value (applied m f (instances g v ps))

by_meaning : (g : KoreSignature) (v : Valuation) (f : Text) (ss : KoreSorts) (ps : KorePatterns) (m : SymbolMeaning) → meaning_of g f ≡ m →
    computes_wide g v (application f ss ps) ≡ wide_by g v f ps m || list_any (is_wide_call g v) (all_subpatterns ps)
by_meaning g v f ss ps m e = ap (λ n. wide_by g v f ps n || list_any (is_wide_call g v) (all_subpatterns ps)) e

pub injected_narrow : (g : KoreSignature) (v : Valuation) (f : Text) (ss : KoreSorts) (ps : List Pattern) (p : Pattern) (b : Bool) → length ps ≡ 1 → p ≡ get_or ps 0 p → meaning_of g f ≡ injection →
    b ≡ not (computes_wide g v (view p)) → b ≡ not (computes_wide g v (application f ss (patterns_view ps)))
injected_narrow g v f ss [] p b h e m n = absurd (cc)
injected_narrow g v f ss (q ∷ []) p b h e m n =
    n ∙ ap (λ x. not (computes_wide g v (view x))) e ∙ ap (λ qs. not (list_any (is_wide_call g v) qs)) (sym (append-nil (subpatterns (view q))))
    ∙ ap not (sym (by_meaning g v f ss (patterns_view (q ∷ [])) injection m))
injected_narrow g v f ss (q ∷ r ∷ ps) p b h e m n = absurd (cc)

pub built_narrow : (g : KoreSignature) (v : Valuation) (f : Text) (ss : KoreSorts) (ps : List Pattern) (ts : List CompiledTerm) → meaning_of g f ≡ construction → AreTermsNarrowAs g ps ts →
    all_stay_narrow v (terms_of (map term_view ts)) ≡ not (computes_wide g v (application f ss (patterns_view ps)))
built_narrow g v f ss ps ts m z = each_term_narrow g v ps ts z ∙ ap not (sym (by_meaning g v f ss (patterns_view ps) construction m))

twice_not : (b : Bool) → b ≡ not (not b)
twice_not true = refl
twice_not false = refl

narrow_or_wide : (u : Value) → is_narrow u ≡ not (is_wide_value u)
narrow_or_wide (whole n) = twice_not (fits_number n)
narrow_or_wide (truth b) = refl
narrow_or_wide (token s t) = refl
narrow_or_wide (constructed c us) = refl

last_first : (x y w : Bool) → x || (y || w) ≡ w || (x || y)
last_first true y true = refl
last_first true y false = refl
last_first false true true = refl
last_first false true false = refl
last_first false false true = refl
last_first false false false = refl

none_of_three : (a b c x y w : Bool) → a ≡ not x → b ≡ not y → c ≡ not w → a && (b && c) ≡ not (w || (x || y))
none_of_three a b c x y w e f h = none_of_two a (b && c) x (y || w) e (none_of_two b c y w f h) ∙ ap not (last_first x y w)

pub call_narrow : (g : KoreSignature) (v : Valuation) (f : Text) (ss : KoreSorts) (ps : List Pattern) (p q : Pattern) (h : Hook) (t s : RuleTerm) → length ps ≡ 2 → p ≡ get_or ps 0 p → q ≡ get_or ps 1 q → meaning_of g f ≡ interpretation h →
    term_value v t ≡ instance g v (view p) → term_value v s ≡ instance g v (view q) → stays_narrow v t ≡ not (computes_wide g v (view p)) → stays_narrow v s ≡ not (computes_wide g v (view q)) →
    stays_narrow v (call h t s) ≡ not (computes_wide g v (application f ss (patterns_view ps)))
call_narrow g v f ss [] p q h t s n d e m x y a b = absurd (cc)
call_narrow g v f ss (i ∷ []) p q h t s n d e m x y a b = absurd (cc)
call_narrow g v f ss (i ∷ j ∷ []) p q h t s n d e m x y a b =
    none_of_three _ _ _ (computes_wide g v (view i)) (computes_wide g v (view j)) (is_wide_value (interpreted h (two (instance g v (view i)) (instance g v (view j)))))
    (a ∙ ap (λ r. not (computes_wide g v (view r))) d) (b ∙ ap (λ r. not (computes_wide g v (view r))) e)
    (ap₂ (λ u w. is_narrow (interpreted h (two u w))) (x ∙ ap (λ r. instance g v (view r)) d) (y ∙ ap (λ r. instance g v (view r)) e)
    ∙ narrow_or_wide (interpreted h (two (instance g v (view i)) (instance g v (view j)))))
    ∙ ap (λ c. not (is_wide_value (interpreted h (two (instance g v (view i)) (instance g v (view j)))) || c))
    (sym (list_any-append (is_wide_call g v) (subpatterns (view i)) (subpatterns (view j))) ∙ ap (λ qs. list_any (is_wide_call g v) (subpatterns (view i) ++ qs)) (sym (append-nil (subpatterns (view j)))))
    ∙ ap not (sym (by_meaning g v f ss (patterns_view (i ∷ j ∷ [])) (interpretation h) m))
call_narrow g v f ss (i ∷ j ∷ k ∷ ps) p q h t s n d e m x y a b = absurd (cc)

never_wide : (u : Value) → is_wide_value (interpreted truth_negation (next_value u no_values)) ≡ false
never_wide (whole n) = refl
never_wide (truth b) = refl
never_wide (token s t) = refl
never_wide (constructed c us) = refl

pub opposite_narrow : (g : KoreSignature) (v : Valuation) (f : Text) (ss : KoreSorts) (ps : List Pattern) (p : Pattern) (t : RuleTerm) → length ps ≡ 1 → p ≡ get_or ps 0 p → meaning_of g f ≡ interpretation truth_negation →
    stays_narrow v t ≡ not (computes_wide g v (view p)) → stays_narrow v (opposite t) ≡ not (computes_wide g v (application f ss (patterns_view ps)))
opposite_narrow g v f ss [] p t h e m n = absurd (cc)
opposite_narrow g v f ss (q ∷ []) p t h e m n =
    n ∙ ap (λ x. not (computes_wide g v (view x))) e ∙ ap (λ qs. not (list_any (is_wide_call g v) qs)) (sym (append-nil (subpatterns (view q))))
    ∙ ap (λ b. not (b || list_any (is_wide_call g v) (all_subpatterns (patterns_view (q ∷ []))))) (sym (never_wide (instance g v (view q))))
    ∙ ap not (sym (by_meaning g v f ss (patterns_view (q ∷ [])) (interpretation truth_negation) m))
opposite_narrow g v f ss (q ∷ r ∷ ps) p t h e m n = absurd (cc)
