-- Of a rule that is read: the variables of its left side, as a form, are the left term's, each with one sort, and its condition is
-- a verified one of these.
use Rattle.std.proofs.Common.{◌≡◌, refl, sym, ap, ap₂, subst, ◌∙◌, ℕ, zero, suc, arith, Bool, true, false, not, ◌&&◌, ◌||◌, List, [], ◌∷◌, ◌++◌, length, Some}
use Rattle.std.specs.Prelude.{◌==◌}
use Rattle.std.specs.List.{AllByRecursion, Contains, list_all}
use Rattle.std.specs.Str.{bytes_eq}
use Rattle.std.proofs.lemmas.Bool.Decides.{Decides-eqb}
use Rattle.std.proofs.lemmas.List.{append-nil}
use Rattle.std.proofs.lemmas.List.Elements.{Contains-push, Contains-append_left, Contains-append_right}
use Rattle.std.proofs.lemmas.Slice.Eq.{bytes_eq-Decides}
use Rattle.kp_kore.specs.Syntax.{Text, KoreSort, KoreSorts, KorePattern, KorePatterns, variable, set_variable, application, string_literal, literal, top, bottom, negation, next, conjunction, disjunction, implication, equivalence, rewriting, exists, forall, ceil, floor, equals, membership, mu, nu, no_patterns, next_pattern}
use Rattle.kp_kore.specs.Attributes.{sorts_equal}
use Rattle.kp_kore.specs.Parts.{SortedName, is_term, are_terms, free_variables, all_free_variables, pattern_list}
use Rattle.kp_kore.specs.Signature.{KoreSignature, SymbolMeaning, injection, construction, interpretation, foreign, meaning_of}
use Rattle.kp_kore.specs.Foreign.{none_within, has_foreign_head, is_foreign_meaning, has_interpreted_head, is_interpretation}
use Rattle.kp_kore.specs.Rules.{Rewrite}
use Rattle.kp_kore.proofs.InstanceLemmas.{first_true, second_true}
use Rattle.kp_kore.proofs.TurnLemmas.{of_member}
use Rattle.kp_kore.proofs.SameLemmas.{sorts_equal-Decides}
use Rattle.kp_signature.specs.Places.{sort_in_scope}
use Rattle.kp_signature.proofs.SortedInstances.{none_among, none_in_first, none_in_others}
use Rattle.kp_signature.proofs.VariableSorts.{HasItsSort}
use Rattle.kp_signature.proofs.OneSort.{Agree, agrees}
use Rattle.kp_compile.specs.Verified.{misapplies_injection, is_injection_meaning, IsVerifiedLeftTerm, IsVerifiedPredicate}
use Rattle.kp_symbolic.specs.WellFormed.{AreAtHand}
use Rattle.kp_symbolic_laws.specs.Runs.{HasOneSortEach}
use Rattle.kp_rules.specs.Known.{is_among}
use Rattle.kp_rules.specs.LeftForms.{left_form, left_forms, applied_form}
use Rattle.kp_rules.specs.Skeletons.{Form}
use Rattle.kp_rules.specs.VerifiedSides.{IsOfLeft, AreVerifiedSides}
use Rattle.kp_case_laws.specs.Courses.{form_variables, all_form_variables}

-- a verified predicate of the left side's variables
pub record IsConditionOf (g : KoreSignature) (form : Form) (p : KorePattern) : Type 0 where
  pub verified : IsVerifiedPredicate g p
  pub at_hand : AreAtHand (free_variables p) (form_variables form)

-- each variable of the left side has one sort, and the condition is of its variables
pub record IsReadyRule (g : KoreSignature) (m : Rewrite) (form : Form) : Type 0 where
  pub one : HasOneSortEach (form_variables form)
  pub condition : AllByRecursion (IsConditionOf g form) m.condition

-- ---- the variables of a form

record IsLeft (g : KoreSignature) (p : KorePattern) : Type 0 where
  term : is_term p ≡ true
  known : none_within (has_foreign_head g) p ≡ true
  uninterpreted : none_within (has_interpreted_head g) p ≡ true
  injections : none_within (misapplies_injection g) p ≡ true

record AreRemaining (g : KoreSignature) (ps : KorePatterns) : Type 0 where
  terms : are_terms ps ≡ true
  known : none_among (has_foreign_head g) ps ≡ true
  uninterpreted : none_among (has_interpreted_head g) ps ≡ true
  injections : none_among (misapplies_injection g) ps ≡ true

first_left : (g : KoreSignature) (p : KorePattern) (ps : KorePatterns) → AreRemaining g (next_pattern p ps) → IsLeft g p
first_left g p ps h = record {
  term = first_true (is_term p) (are_terms ps) h.terms;
  known = none_in_first (has_foreign_head g) p ps h.known;
  uninterpreted = none_in_first (has_interpreted_head g) p ps h.uninterpreted;
  injections = none_in_first (misapplies_injection g) p ps h.injections;
}

other_left : (g : KoreSignature) (p : KorePattern) (ps : KorePatterns) → AreRemaining g (next_pattern p ps) → AreRemaining g ps
other_left g p ps h = record {
  terms = second_true (is_term p) (are_terms ps) h.terms;
  known = none_in_others (has_foreign_head g) p ps h.known;
  uninterpreted = none_in_others (has_interpreted_head g) p ps h.uninterpreted;
  injections = none_in_others (misapplies_injection g) p ps h.injections;
}

arguments : (g : KoreSignature) (f : Text) (ss : KoreSorts) (ps : KorePatterns) → IsLeft g (application f ss ps) → AreRemaining g ps
arguments g f ss ps h = record {
  terms = h.term;
  known = second_true (not (has_foreign_head g (application f ss ps))) (none_among (has_foreign_head g) ps) h.known;
  uninterpreted = second_true (not (has_interpreted_head g (application f ss ps))) (none_among (has_interpreted_head g) ps) h.uninterpreted;
  injections = second_true (not (misapplies_injection g (application f ss ps))) (none_among (misapplies_injection g) ps) h.injections;
}

false_true : false ≡ true → ⊥
false_true e = cc

not_at_top : (b : Bool) → not b ≡ true → b ≡ true → ⊥
not_at_top true n e = false_true n
not_at_top false n e = false_true e

by_tests : (a b : Bool) → a ≡ true → not (a && not b) ≡ true → b ≡ true
by_tests true true e n = refl
by_tests true false e n = absurd (false_true n)
by_tests false b e n = absurd (false_true e)

none_is_one : zero ≡ suc zero → ⊥
none_is_one e = omega arith

two_is_one : (n : ℕ) → suc (suc n) ≡ 1 → ⊥
two_is_one n e = omega arith

-- what inj stands for has the variables of its argument
under_inj : (g : KoreSignature) (f : Text) (ps : KorePatterns) → (length (pattern_list ps) == 1) ≡ true → all_form_variables (left_forms g ps) ≡ all_free_variables ps → form_variables (applied_form injection f (left_forms g ps)) ≡ all_free_variables ps
under_inj g f no_patterns one e = absurd (none_is_one ((Decides-eqb 0 1).0 one))
under_inj g f (next_pattern p no_patterns) one e = sym (append-nil (form_variables (left_form g p))) ∙ e
under_inj g f (next_pattern p (next_pattern q qs)) one e = absurd (two_is_one (length (pattern_list qs)) ((Decides-eqb (length (p ∷ q ∷ pattern_list qs)) 1).0 one))

applied_variables : (g : KoreSignature) (f : Text) (ss : KoreSorts) (ps : KorePatterns) (m : SymbolMeaning) → meaning_of g f ≡ m → IsLeft g (application f ss ps) → all_form_variables (left_forms g ps) ≡ all_free_variables ps → form_variables (applied_form m f (left_forms g ps)) ≡ all_free_variables ps
applied_variables g f ss ps injection m h e = under_inj g f ps
    (by_tests (is_injection_meaning (meaning_of g f)) (length (pattern_list ps) == 1) (ap is_injection_meaning m) (first_true (not (misapplies_injection g (application f ss ps))) (none_among (misapplies_injection g) ps) h.injections)) e
applied_variables g f ss ps construction m h e = e
applied_variables g f ss ps (interpretation k) m h e =
    absurd (not_at_top (is_interpretation (meaning_of g f)) (first_true (not (has_interpreted_head g (application f ss ps))) (none_among (has_interpreted_head g) ps) h.uninterpreted) (ap is_interpretation m))
applied_variables g f ss ps foreign m h e =
    absurd (not_at_top (is_foreign_meaning (meaning_of g f)) (first_true (not (has_foreign_head g (application f ss ps))) (none_among (has_foreign_head g) ps) h.known) (ap is_foreign_meaning m))

mutual
  same_variables : (g : KoreSignature) (p : KorePattern) → IsLeft g p → form_variables (left_form g p) ≡ free_variables p
  same_variables g (variable x s) h = refl
  same_variables g (literal s text) h = refl
  same_variables g (application f ss ps) h = applied_variables g f ss ps (meaning_of g f) refl h (all_same_variables g ps (arguments g f ss ps h))
  same_variables g (set_variable x s) h = absurd (false_true h.term)
  same_variables g (string_literal text) h = absurd (false_true h.term)
  same_variables g (top s) h = absurd (false_true h.term)
  same_variables g (bottom s) h = absurd (false_true h.term)
  same_variables g (negation s p) h = absurd (false_true h.term)
  same_variables g (next s p) h = absurd (false_true h.term)
  same_variables g (conjunction s ps) h = absurd (false_true h.term)
  same_variables g (disjunction s ps) h = absurd (false_true h.term)
  same_variables g (implication s p q) h = absurd (false_true h.term)
  same_variables g (equivalence s p q) h = absurd (false_true h.term)
  same_variables g (rewriting s p q) h = absurd (false_true h.term)
  same_variables g (exists s x t p) h = absurd (false_true h.term)
  same_variables g (forall s x t p) h = absurd (false_true h.term)
  same_variables g (ceil a s p) h = absurd (false_true h.term)
  same_variables g (floor a s p) h = absurd (false_true h.term)
  same_variables g (equals a s p q) h = absurd (false_true h.term)
  same_variables g (membership a s p q) h = absurd (false_true h.term)
  same_variables g (mu x s p) h = absurd (false_true h.term)
  same_variables g (nu x s p) h = absurd (false_true h.term)

  all_same_variables : (g : KoreSignature) (ps : KorePatterns) → AreRemaining g ps → all_form_variables (left_forms g ps) ≡ all_free_variables ps
  all_same_variables g no_patterns h = refl
  all_same_variables g (next_pattern p ps) h = ap₂ (λ xs ys. xs ++ ys) (same_variables g p (first_left g p ps h)) (all_same_variables g ps (other_left g p ps h))

pub left_variables : (g : KoreSignature) (p : KorePattern) → IsVerifiedLeftTerm g p → form_variables (left_form g p) ≡ free_variables p
left_variables g p h = same_variables g p (record { term = h.term.term; known = h.term.verified.known; uninterpreted = h.uninterpreted; injections = h.term.verified.injections })

-- ---- one sort for each

agreed_sort : (whole xs : List SortedName) → Agree whole xs → HasOneSortEach xs
agreed_sort whole xs a x y c d e = same (sym (of_member (HasItsSort whole) xs x a c) ∙ ap (λ n. sort_in_scope n whole) e ∙ of_member (HasItsSort whole) xs y a d)
  where
    same : {s t : KoreSort} → Some s ≡ Some t → s ≡ t
    same e = cc

-- ---- the condition

same_variable : (y x : SortedName) → bytes_eq y.name x.name && sorts_equal y.sort x.sort ≡ true → y ≡ x
same_variable y x e = ap₂ (λ n s. record { name = n; sort = s })
    ((bytes_eq-Decides y.name x.name).0 (first_true (bytes_eq y.name x.name) (sorts_equal y.sort x.sort) e))
    ((sorts_equal-Decides y.sort x.sort).0 (second_true (bytes_eq y.name x.name) (sorts_equal y.sort x.sort) e))

among_these : (x : SortedName) (left : List SortedName) → is_among x left ≡ true → Contains left x
among_these x [] e = absurd (false_true e)
among_these x (y ∷ left) e = by (bytes_eq y.name x.name && sorts_equal y.sort x.sort) refl e (among_these x left)
  where
    by : (b : Bool) → bytes_eq y.name x.name && sorts_equal y.sort x.sort ≡ b → b || is_among x left ≡ true → (is_among x left ≡ true → Contains left x) → Contains (y ∷ left) x
    by true h e rest = subst (λ z. Contains (y ∷ left) z) (same_variable y x h) (Contains-append_left (y ∷ []) left y (Contains-push [] y))
    by false h e rest = Contains-append_right (y ∷ []) left x (rest e)

all_among_these : (xs left : List SortedName) → list_all (λ x. is_among x left) xs ≡ true → AreAtHand xs left
all_among_these [] left e = tt
all_among_these (x ∷ xs) left e = (among_these x left (first_true (is_among x left) (list_all (λ z. is_among z left) xs) e), all_among_these xs left (second_true (is_among x left) (list_all (λ z. is_among z left) xs) e))

all_conditions : (g : KoreSignature) (form : Form) (left : List SortedName) (ps : List KorePattern) → form_variables form ≡ left → AllByRecursion (IsVerifiedPredicate g) ps → AllByRecursion (IsOfLeft left) ps → AllByRecursion (IsConditionOf g form) ps
all_conditions g form left [] e v o = tt
all_conditions g form left (p ∷ ps) e v o = (
  record { verified = v.0; at_hand = subst (AreAtHand (free_variables p)) (sym e) (all_among_these (free_variables p) left o.0) },
  all_conditions g form left ps e v.1 o.1,
)

-- ---- the rule

pub ready_rule : (g : KoreSignature) (m : Rewrite) (form : Form) → form ≡ left_form g m.left → AreVerifiedSides g m → IsReadyRule g m form
ready_rule g m form e v =
    let same : form_variables form ≡ free_variables m.left = ap form_variables e ∙ left_variables g m.left v.left in
    let place = v.left.term.verified.place in
    record {
      one = subst HasOneSortEach (sym same) (agreed_sort (place.scope ++ free_variables m.left) (free_variables m.left) (agrees g place m.left v.left.term.verified.faultless));
      condition = all_conditions g form (free_variables m.left) m.condition same v.condition v.condition_of_left;
    }
