-- The left term of a rule that is read, as a form, stands for exactly the term's instances, each under one valuation.
use Rattle.std.proofs.Common.{◌≡◌, refl, sym, ◌∙◌, subst, ap, ap₂, map, ℕ, zero, suc, Bool, true, false, not, ◌&&◌, List, [], ◌∷◌, ◌↔◌, length, arith}
use Rattle.std.specs.Prelude.{◌==◌}
use Rattle.std.specs.List.{list_all}
use Rattle.std.proofs.lemmas.Bool.Decides.{Decides-eqb}
use Rattle.kp_kore.specs.Syntax.{Text, KoreSorts, KorePattern, KorePatterns, variable, application, literal, set_variable, string_literal, top, bottom, negation, next, conjunction, disjunction, implication, equivalence, rewriting, exists, forall, ceil, floor, equals, membership, mu, nu, no_patterns, next_pattern}
use Rattle.kp_kore.specs.Parts.{SortedName, is_term, are_terms, all_subpatterns, free_variables, all_free_variables, pattern_list}
use Rattle.kp_kore.specs.Signature.{KoreSignature, SymbolMeaning, injection, construction, interpretation, foreign, meaning_of}
use Rattle.kp_kore.specs.Value.{Value, whole, truth, token, constructed, Values, no_values, next_value, HasSort}
use Rattle.kp_kore.specs.Instance.{Valuation, instance, instances, applied, GivesSorts, AgreesOn}
use Rattle.kp_kore.specs.Rules.{Rewrite}
use Rattle.kp_kore.specs.Foreign.{has_foreign_head, is_foreign_meaning, has_interpreted_head, is_interpretation}
use Rattle.kp_kore.proofs.InstanceLemmas.{first_true, second_true}
use Rattle.kp_kore.proofs.ListLemmas.{all_left, all_right, all_append}
use Rattle.kp_compile.specs.Verified.{misapplies_injection, is_injection_meaning}
use Rattle.kp_kore.specs.View.{patterns_view}
use Rattle.kp_kore.specs.declared.pattern.Pattern.{Pattern}
use Rattle.kp_signature.proofs.SortedInstances.{none_in_others, none_in_first}
use Rattle.kp_rules.specs.Skeletons.{Form, built, next_form, forms_of, skeleton_view, Admits, AdmitAll}
use Rattle.kp_rules.specs.declared.skeleton.Skeleton.{Skeleton}
use Rattle.kp_rules.specs.LeftForms.{left_form, left_forms, applied_form}
use Rattle.kp_rule_reading.specs.LeftForms.{AreLeftForms, IsLeftTerm}
use Rattle.kp_rules.specs.LeftSides.{IsLeftSide}

abbrev Sorted : KoreSignature → Valuation → SortedName → Type 0
Sorted g v x = HasSort g x.sort (v x.name)

-- ---- what is asked of a left term, and of its parts

abbrev none_among : (KorePattern → Bool) → KorePatterns → Bool
none_among test ps = list_all (λ q. not (test q)) (all_subpatterns ps)

record AreLeftTerms (g : KoreSignature) (ps : KorePatterns) : Type 0 where
  terms : are_terms ps ≡ true
  known : none_among (has_foreign_head g) ps ≡ true
  uninterpreted : none_among (has_interpreted_head g) ps ≡ true
  injections : none_among (misapplies_injection g) ps ≡ true

first_term : (g : KoreSignature) (p : KorePattern) (ps : KorePatterns) → AreLeftTerms g (next_pattern p ps) → IsLeftTerm g p
first_term g p ps h = record {
  term = first_true (is_term p) (are_terms ps) h.terms;
  known = none_in_first (has_foreign_head g) p ps h.known;
  uninterpreted = none_in_first (has_interpreted_head g) p ps h.uninterpreted;
  injections = none_in_first (misapplies_injection g) p ps h.injections;
}

other_terms : (g : KoreSignature) (p : KorePattern) (ps : KorePatterns) → AreLeftTerms g (next_pattern p ps) → AreLeftTerms g ps
other_terms g p ps h = record {
  terms = second_true (is_term p) (are_terms ps) h.terms;
  known = none_in_others (has_foreign_head g) p ps h.known;
  uninterpreted = none_in_others (has_interpreted_head g) p ps h.uninterpreted;
  injections = none_in_others (misapplies_injection g) p ps h.injections;
}

arguments : (g : KoreSignature) (f : Text) (ss : KoreSorts) (ps : KorePatterns) → IsLeftTerm g (application f ss ps) → AreLeftTerms g ps
arguments g f ss ps h = record {
  terms = h.term;
  known = second_true (not (has_foreign_head g (application f ss ps))) (none_among (has_foreign_head g) ps) h.known;
  uninterpreted = second_true (not (has_interpreted_head g (application f ss ps))) (none_among (has_interpreted_head g) ps) h.uninterpreted;
  injections = second_true (not (misapplies_injection g (application f ss ps))) (none_among (misapplies_injection g) ps) h.injections;
}

-- ---- an application, whose arguments stand for theirs

false_true : false ≡ true → ⊥
false_true e = cc

not_at_top : (b : Bool) → not b ≡ true → b ≡ true → ⊥
not_at_top true n e = false_true n
not_at_top false n e = false_true e

abbrev StandAll : KoreSignature → Valuation → KorePatterns → Values → Type 0
StandAll g v ps us = AdmitAll g v (left_forms g ps) us ↔ (GivesSorts g v (all_free_variables ps) × (instances g v ps ≡ us))

inside : {c : Text} {us ws : Values} → constructed c us ≡ constructed c ws → us ≡ ws
inside e = cc

names_inside : {c d : Text} {us ws : Values} → constructed c us ≡ constructed d ws → c ≡ d
names_inside e = cc

of_constructor : (g : KoreSignature) (v : Valuation) (f : Text) (ps : KorePatterns) → ((us : Values) → StandAll g v ps us) → (u : Value) →
    Admits g v (applied_form construction f (left_forms g ps)) u ↔ (GivesSorts g v (all_free_variables ps) × (applied construction f (instances g v ps) ≡ u))
of_constructor g v f ps all (constructed c us) = (
  (λ h. let k = (all us).0 h.1 in (k.0, subst (λ d. constructed f (instances g v ps) ≡ constructed d us) (sym h.0) (ap (constructed f) k.1))),
  (λ h. (sym (names_inside h.1), (all us).1 (h.0, inside (h.1 ∙ ap (λ d. constructed d us) (sym (names_inside h.1)))))),
)
of_constructor g v f ps all (whole n) = ((λ h. absurd h), (λ h. absurd (cc (h.1))))
of_constructor g v f ps all (truth b) = ((λ h. absurd h), (λ h. absurd (cc (h.1))))
of_constructor g v f ps all (token s t) = ((λ h. absurd h), (λ h. absurd (cc (h.1))))

not_none : (length (pattern_list no_patterns) == 1) ≡ true → ⊥
not_none one = none_is_one ((Decides-eqb 0 1).0 one)
  where
    none_is_one : zero ≡ suc zero → ⊥
    none_is_one e = omega arith

not_two : (p q : KorePattern) (qs : List KorePattern) → (length (p ∷ q ∷ qs) == 1) ≡ true → ⊥
not_two p q qs one = two_is_one (length qs) ((Decides-eqb (length (p ∷ q ∷ qs)) 1).0 one)
  where
    two_is_one : (n : ℕ) → suc (suc n) ≡ 1 → ⊥
    two_is_one n e = omega arith

-- one argument alone is what inj stands for
of_injection : (g : KoreSignature) (v : Valuation) (f : Text) (ps : KorePatterns) → (length (pattern_list ps) == 1) ≡ true → ((us : Values) → StandAll g v ps us) → (u : Value) →
    Admits g v (applied_form injection f (left_forms g ps)) u ↔ (GivesSorts g v (all_free_variables ps) × (applied injection f (instances g v ps) ≡ u))
of_injection g v f no_patterns one all u = absurd (not_none one)
of_injection g v f (next_pattern p (next_pattern q qs)) one all u = absurd (not_two p q (pattern_list qs) one)
of_injection g v f (next_pattern p no_patterns) one all u =
    let k = all (next_value u no_values) in (
      (λ h. let j = k.0 (h, tt) in (j.0, first_value j.1)),
      (λ h. (k.1 (h.0, ap (λ w. next_value w no_values) h.1)).0),
    )
  where
    first_value : {a b : Value} → next_value a no_values ≡ next_value b no_values → a ≡ b
    first_value e = cc

by_tests : (a b : Bool) → a ≡ true → not (a && not b) ≡ true → b ≡ true
by_tests true true e n = refl
by_tests true false e n = absurd (false_true n)
by_tests false b e n = absurd (false_true e)

one_argument : (g : KoreSignature) (f : Text) (ss : KoreSorts) (ps : KorePatterns) → IsLeftTerm g (application f ss ps) → meaning_of g f ≡ injection → (length (pattern_list ps) == 1) ≡ true
one_argument g f ss ps h e = by_tests (is_injection_meaning (meaning_of g f)) (length (pattern_list ps) == 1) (ap is_injection_meaning e)
    (first_true (not (misapplies_injection g (application f ss ps))) (none_among (misapplies_injection g) ps) h.injections)

both_values : {a b : Value} {us ws : Values} → a ≡ b → us ≡ ws → next_value a us ≡ next_value b ws
both_values e k = cc

first_value : {a b : Value} {us ws : Values} → next_value a us ≡ next_value b ws → a ≡ b
first_value e = cc

other_values : {a b : Value} {us ws : Values} → next_value a us ≡ next_value b ws → us ≡ ws
other_values e = cc

-- ---- each left term

stands_applied : (g : KoreSignature) (v : Valuation) (f : Text) (ss : KoreSorts) (ps : KorePatterns) (u : Value) → IsLeftTerm g (application f ss ps) → ((us : Values) → StandAll g v ps us) → (m : SymbolMeaning) → meaning_of g f ≡ m →
    Admits g v (applied_form (meaning_of g f) f (left_forms g ps)) u ↔ (GivesSorts g v (all_free_variables ps) × (applied (meaning_of g f) f (instances g v ps) ≡ u))
stands_applied g v f ss ps u h all construction e = subst (λ m. Admits g v (applied_form m f (left_forms g ps)) u ↔ (GivesSorts g v (all_free_variables ps) × (applied m f (instances g v ps) ≡ u))) (sym e)
    (of_constructor g v f ps all u)
stands_applied g v f ss ps u h all injection e = subst (λ m. Admits g v (applied_form m f (left_forms g ps)) u ↔ (GivesSorts g v (all_free_variables ps) × (applied m f (instances g v ps) ≡ u))) (sym e)
    (of_injection g v f ps (one_argument g f ss ps h e) all u)
stands_applied g v f ss ps u h all (interpretation k) e = absurd (not_at_top (has_interpreted_head g (application f ss ps)) (first_true (not (has_interpreted_head g (application f ss ps))) (none_among (has_interpreted_head g) ps) h.uninterpreted) (ap is_interpretation e))
stands_applied g v f ss ps u h all foreign e = absurd (not_at_top (has_foreign_head g (application f ss ps)) (first_true (not (has_foreign_head g (application f ss ps))) (none_among (has_foreign_head g) ps) h.known) (ap is_foreign_meaning e))

mutual
  pub stands : (g : KoreSignature) (v : Valuation) (p : KorePattern) (u : Value) → IsLeftTerm g p → Admits g v (left_form g p) u ↔ (GivesSorts g v (free_variables p) × (instance g v p ≡ u))
  stands g v (variable x s) u h = (
    (λ k. ((subst (HasSort g s) k.0 k.1, tt), sym k.0)),
    (λ k. (sym k.1, subst (HasSort g s) k.1 k.0.0)),
  )
  stands g v (literal s text) u h = ((λ k. (tt, sym k)), (λ k. sym k.1))
  stands g v (application f ss ps) u h = stands_applied g v f ss ps u h (λ us. stand_all g v ps us (arguments g f ss ps h)) (meaning_of g f) refl
  stands g v (set_variable x s) u h = absurd (false_true h.term)
  stands g v (string_literal t) u h = absurd (false_true h.term)
  stands g v (top s) u h = absurd (false_true h.term)
  stands g v (bottom s) u h = absurd (false_true h.term)
  stands g v (negation s p) u h = absurd (false_true h.term)
  stands g v (next s p) u h = absurd (false_true h.term)
  stands g v (conjunction s ps) u h = absurd (false_true h.term)
  stands g v (disjunction s ps) u h = absurd (false_true h.term)
  stands g v (implication s p q) u h = absurd (false_true h.term)
  stands g v (equivalence s p q) u h = absurd (false_true h.term)
  stands g v (rewriting s p q) u h = absurd (false_true h.term)
  stands g v (exists s x t p) u h = absurd (false_true h.term)
  stands g v (forall s x t p) u h = absurd (false_true h.term)
  stands g v (ceil a s p) u h = absurd (false_true h.term)
  stands g v (floor a s p) u h = absurd (false_true h.term)
  stands g v (equals a s p q) u h = absurd (false_true h.term)
  stands g v (membership a s p q) u h = absurd (false_true h.term)
  stands g v (mu x s p) u h = absurd (false_true h.term)
  stands g v (nu x s p) u h = absurd (false_true h.term)

  stand_all : (g : KoreSignature) (v : Valuation) (ps : KorePatterns) (us : Values) → AreLeftTerms g ps → StandAll g v ps us
  stand_all g v no_patterns no_values h = ((λ k. (tt, refl)), (λ k. tt))
  stand_all g v no_patterns (next_value u us) h = ((λ k. absurd k), (λ k. absurd (cc (k.1))))
  stand_all g v (next_pattern p ps) no_values h = ((λ k. absurd k), (λ k. absurd (cc (k.1))))
  stand_all g v (next_pattern p ps) (next_value u us) h =
      let one = stands g v p u (first_term g p ps h) in
      let others = stand_all g v ps us (other_terms g p ps h) in (
        (λ k. let a = one.0 k.0 in let b = others.0 k.1 in (all_append (Sorted g v) (free_variables p) (all_free_variables ps) a.0 b.0, both_values a.1 b.1)),
        (λ k. (one.1 (all_left (Sorted g v) (free_variables p) (all_free_variables ps) k.0, first_value k.1), others.1 (all_right (Sorted g v) (free_variables p) (all_free_variables ps) k.0, other_values k.1))),
      )

-- ---- one valuation for each instance

of_one : (g : KoreSignature) (v w : Valuation) (f : Text) (ps : KorePatterns) → (length (pattern_list ps) == 1) ≡ true → applied injection f (instances g w ps) ≡ applied injection f (instances g v ps) → instances g w ps ≡ instances g v ps
of_one g v w f no_patterns one a = absurd (not_none one)
of_one g v w f (next_pattern p no_patterns) one a = ap (λ u. next_value u no_values) a
of_one g v w f (next_pattern p (next_pattern q qs)) one a = absurd (not_two p q (pattern_list qs) one)

same_arguments : (g : KoreSignature) (v w : Valuation) (f : Text) (ss : KoreSorts) (ps : KorePatterns) → IsLeftTerm g (application f ss ps) → (m : SymbolMeaning) → meaning_of g f ≡ m → applied (meaning_of g f) f (instances g w ps) ≡ applied (meaning_of g f) f (instances g v ps) → instances g w ps ≡ instances g v ps
same_arguments g v w f ss ps h construction e k = inside (subst (λ m. applied m f (instances g w ps) ≡ applied m f (instances g v ps)) e k)
same_arguments g v w f ss ps h injection e k = of_one g v w f ps (one_argument g f ss ps h e) (subst (λ m. applied m f (instances g w ps) ≡ applied m f (instances g v ps)) e k)
same_arguments g v w f ss ps h (interpretation i) e k = absurd (not_at_top (has_interpreted_head g (application f ss ps)) (first_true (not (has_interpreted_head g (application f ss ps))) (none_among (has_interpreted_head g) ps) h.uninterpreted) (ap is_interpretation e))
same_arguments g v w f ss ps h foreign e k = absurd (not_at_top (has_foreign_head g (application f ss ps)) (first_true (not (has_foreign_head g (application f ss ps))) (none_among (has_foreign_head g) ps) h.known) (ap is_foreign_meaning e))

abbrev Same : Valuation → Valuation → SortedName → Type 0
Same v w x = w x.name ≡ v x.name

mutual
  pub determined : (g : KoreSignature) (v w : Valuation) (p : KorePattern) → IsLeftTerm g p → instance g w p ≡ instance g v p → AgreesOn (free_variables p) v w
  determined g v w (variable x s) h e = (e, tt)
  determined g v w (literal s text) h e = tt
  determined g v w (application f ss ps) h e = determined_all g v w ps (arguments g f ss ps h) (same_arguments g v w f ss ps h (meaning_of g f) refl e)
  determined g v w (set_variable x s) h e = absurd (false_true h.term)
  determined g v w (string_literal t) h e = absurd (false_true h.term)
  determined g v w (top s) h e = absurd (false_true h.term)
  determined g v w (bottom s) h e = absurd (false_true h.term)
  determined g v w (negation s p) h e = absurd (false_true h.term)
  determined g v w (next s p) h e = absurd (false_true h.term)
  determined g v w (conjunction s ps) h e = absurd (false_true h.term)
  determined g v w (disjunction s ps) h e = absurd (false_true h.term)
  determined g v w (implication s p q) h e = absurd (false_true h.term)
  determined g v w (equivalence s p q) h e = absurd (false_true h.term)
  determined g v w (rewriting s p q) h e = absurd (false_true h.term)
  determined g v w (exists s x t p) h e = absurd (false_true h.term)
  determined g v w (forall s x t p) h e = absurd (false_true h.term)
  determined g v w (ceil a s p) h e = absurd (false_true h.term)
  determined g v w (floor a s p) h e = absurd (false_true h.term)
  determined g v w (equals a s p q) h e = absurd (false_true h.term)
  determined g v w (membership a s p q) h e = absurd (false_true h.term)
  determined g v w (mu x s p) h e = absurd (false_true h.term)
  determined g v w (nu x s p) h e = absurd (false_true h.term)

  determined_all : (g : KoreSignature) (v w : Valuation) (ps : KorePatterns) → AreLeftTerms g ps → instances g w ps ≡ instances g v ps → AgreesOn (all_free_variables ps) v w
  determined_all g v w no_patterns h e = tt
  determined_all g v w (next_pattern p ps) h e = all_append (Same v w) (free_variables p) (all_free_variables ps) (determined g v w p (first_term g p ps h) (first_value e)) (determined_all g v w ps (other_terms g p ps h) (other_values e))

pub is_left_side : (g : KoreSignature) (r : Rewrite) → IsLeftTerm g r.left → IsLeftSide g r (left_form g r.left)
is_left_side g r h = record {
  stands = λ v c. stands g v r.left c h;
  once = λ v w c a b. determined g v w r.left h (b.1 ∙ sym a.1);
}

-- ---- forms one by one

pub forms_together : (g : KoreSignature) (ps : List Pattern) (ks : List Skeleton) → AreLeftForms g ps ks → forms_of (map skeleton_view ks) ≡ left_forms g (patterns_view ps)
forms_together g [] [] z = refl
forms_together g [] (k ∷ ks) z = absurd z
forms_together g (p ∷ ps) [] z = absurd z
forms_together g (p ∷ ps) (k ∷ ks) z = ap₂ next_form z.0 (forms_together g ps ks z.1)

pub built_is : (g : KoreSignature) (f : Text) (ps : List Pattern) (ks : List Skeleton) (k : Form) → meaning_of g f ≡ construction → AreLeftForms g ps ks → k ≡ built f (forms_of (map skeleton_view ks)) → k ≡ applied_form (meaning_of g f) f (left_forms g (patterns_view ps))
built_is g f ps ks k means z e = e ∙ ap (built f) (forms_together g ps ks z) ∙ ap (λ m. applied_form m f (left_forms g (patterns_view ps))) (sym means)
