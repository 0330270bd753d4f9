-- The parts of verified terms and predicates are verified.
use Rattle.std.proofs.Common.{◌≡◌, refl, sym, ◌∙◌, subst, ℕ, zero, suc, ◌<◌, Bool, true, false, not, ◌||◌, List, [], ◌∷◌, ◌++◌, length, get_or, None, arith}
use Rattle.std.specs.Borrow.{Bor}
use Rattle.std.specs.List.{list_all, AllByRecursion}
use Rattle.std.proofs.lemmas.List.Folds.{list_all-append}
use Rattle.kp_kore.specs.Syntax.{Text, KoreSort, KoreSorts, no_sorts, next_sort, KorePattern, KorePatterns, application, negation, conjunction, disjunction, implication, equivalence, exists, forall, ceil, floor, equals, membership, no_patterns, next_pattern}
use Rattle.kp_kore.specs.Parts.{is_term, are_terms, subpatterns, sort_list, pattern_list}
use Rattle.kp_kore.specs.Signature.{KoreSignature}
use Rattle.kp_kore.specs.View.{view, patterns_view}
use Rattle.kp_kore.specs.declared.pattern.Pattern.{Pattern}
use Rattle.kp_kore.specs.Instance.{is_predicate, are_predicates, is_conjoined_pair}
use Rattle.kp_kore.specs.Foreign.{none_within, has_foreign_head, has_interpreted_head, is_quantifier, is_floor_of_term}
use Rattle.kp_kore.proofs.InstanceLemmas.{first_true, second_true}
use Rattle.kp_signature.specs.Places.{Place, argument_sorts, argument_at, part_at, after}
use Rattle.kp_signature.specs.Verify.{first_fault, fault_at, arguments_fault, members_fault, symbol_fault}
use Rattle.kp_signature.proofs.FaultLemmas.{nothing_earlier, nothing_later, keeps_rules}
use Rattle.kp_signature.proofs.ApplicationLemmas.{as_many_arguments}
use Rattle.kp_signature.proofs.SortedInstances.{none_among, none_in_first, none_in_others, same_rest}
use Rattle.kp_compile.specs.Exact.{IsPairOf}
use Rattle.kp_compile.specs.Parts.{seen}
use Rattle.kp_compile.specs.Verified.{misapplies_injection, IsVerified, IsVerifiedTerm, IsVerifiedLeftTerm, IsVerifiedPredicate}

-- the part stands in the whole, and where this has no fault, it has none
pub record IsPartOf (g : KoreSignature) (whole p : KorePattern) : Type 0 where
  pub tests : (test : KorePattern → Bool) → none_within test whole ≡ true → none_within test p ≡ true
  pub places : (c : Place) → first_fault g c whole ≡ None → (d : Place) × (first_fault g d p ≡ None)

pub verified_part : (g : KoreSignature) (whole p : KorePattern) → IsPartOf g whole p → IsVerified g whole → IsVerified g p
verified_part g whole p part h =
    let there = part.places h.place h.faultless in
    record {
      place = there.0;
      faultless = there.1;
      known = part.tests (has_foreign_head g) h.known;
      injections = part.tests (misapplies_injection g) h.injections;
    }

term_part : (g : KoreSignature) (whole p : KorePattern) → IsPartOf g whole p → is_term p ≡ true → IsVerifiedPredicate g whole → IsVerifiedTerm g p
term_part g whole p part t h = record { term = t; verified = verified_part g whole p part h.verified }

predicate_part : (g : KoreSignature) (whole p : KorePattern) → IsPartOf g whole p → is_predicate p ≡ true → IsVerifiedPredicate g whole → IsVerifiedPredicate g p
predicate_part g whole p part t h = record {
  predicate = t;
  quantifiers = part.tests is_quantifier h.quantifiers;
  floors = part.tests is_floor_of_term h.floors;
  verified = verified_part g whole p part h.verified;
}

-- ---- what holds of all parts of two holds of those of each

first_list : (test : KorePattern → Bool) (ps qs : List KorePattern) → list_all test (ps ++ qs) ≡ true → list_all test ps ≡ true
first_list test ps qs e = first_true (list_all test ps) (list_all test qs) (sym (list_all-append test ps qs) ∙ e)

second_list : (test : KorePattern → Bool) (ps qs : List KorePattern) → list_all test (ps ++ qs) ≡ true → list_all test qs ≡ true
second_list test ps qs e = second_true (list_all test ps) (list_all test qs) (sym (list_all-append test ps qs) ∙ e)

-- ---- one part

of_negation : (g : KoreSignature) (s : KoreSort) (p : KorePattern) → IsPartOf g (negation s p) p
of_negation g s p = record {
  tests = λ test e. second_true (not (test (negation s p))) (none_within test p) e;
  places = λ c e. (part_at c s, nothing_later (fault_at g c (negation s p)) _ e);
}

of_ceil : (g : KoreSignature) (a s : KoreSort) (p : KorePattern) → IsPartOf g (ceil a s p) p
of_ceil g a s p = record {
  tests = λ test e. second_true (not (test (ceil a s p))) (none_within test p) e;
  places = λ c e. (part_at c a, nothing_later (fault_at g c (ceil a s p)) _ e);
}

of_floor : (g : KoreSignature) (a s : KoreSort) (p : KorePattern) → IsPartOf g (floor a s p) p
of_floor g a s p = record {
  tests = λ test e. second_true (not (test (floor a s p))) (none_within test p) e;
  places = λ c e. (part_at c a, nothing_later (fault_at g c (floor a s p)) _ e);
}

-- ---- two parts

left_of_implication : (g : KoreSignature) (s : KoreSort) (p q : KorePattern) → IsPartOf g (implication s p q) p
left_of_implication g s p q = record {
  tests = λ test e. first_list (λ x. not (test x)) (subpatterns p) (subpatterns q) (second_true (not (test (implication s p q))) _ e);
  places = λ c e. (part_at c s, nothing_earlier _ _ (nothing_later (fault_at g c (implication s p q)) _ e));
}

right_of_implication : (g : KoreSignature) (s : KoreSort) (p q : KorePattern) → IsPartOf g (implication s p q) q
right_of_implication g s p q = record {
  tests = λ test e. second_list (λ x. not (test x)) (subpatterns p) (subpatterns q) (second_true (not (test (implication s p q))) _ e);
  places = λ c e. (after p (part_at c s), nothing_earlier _ _ (nothing_later (first_fault g (part_at c s) p) _ (nothing_later (fault_at g c (implication s p q)) _ e)));
}

left_of_equivalence : (g : KoreSignature) (s : KoreSort) (p q : KorePattern) → IsPartOf g (equivalence s p q) p
left_of_equivalence g s p q = record {
  tests = λ test e. first_list (λ x. not (test x)) (subpatterns p) (subpatterns q) (second_true (not (test (equivalence s p q))) _ e);
  places = λ c e. (part_at c s, nothing_earlier _ _ (nothing_later (fault_at g c (equivalence s p q)) _ e));
}

right_of_equivalence : (g : KoreSignature) (s : KoreSort) (p q : KorePattern) → IsPartOf g (equivalence s p q) q
right_of_equivalence g s p q = record {
  tests = λ test e. second_list (λ x. not (test x)) (subpatterns p) (subpatterns q) (second_true (not (test (equivalence s p q))) _ e);
  places = λ c e. (after p (part_at c s), nothing_earlier _ _ (nothing_later (first_fault g (part_at c s) p) _ (nothing_later (fault_at g c (equivalence s p q)) _ e)));
}

left_of_equals : (g : KoreSignature) (a s : KoreSort) (p q : KorePattern) → IsPartOf g (equals a s p q) p
left_of_equals g a s p q = record {
  tests = λ test e. first_list (λ x. not (test x)) (subpatterns p) (subpatterns q) (second_true (not (test (equals a s p q))) _ e);
  places = λ c e. (part_at c a, nothing_earlier _ _ (nothing_later (fault_at g c (equals a s p q)) _ e));
}

right_of_equals : (g : KoreSignature) (a s : KoreSort) (p q : KorePattern) → IsPartOf g (equals a s p q) q
right_of_equals g a s p q = record {
  tests = λ test e. second_list (λ x. not (test x)) (subpatterns p) (subpatterns q) (second_true (not (test (equals a s p q))) _ e);
  places = λ c e. (after p (part_at c a), nothing_earlier _ _ (nothing_later (first_fault g (part_at c a) p) _ (nothing_later (fault_at g c (equals a s p q)) _ e)));
}

left_of_membership : (g : KoreSignature) (a s : KoreSort) (p q : KorePattern) → IsPartOf g (membership a s p q) p
left_of_membership g a s p q = record {
  tests = λ test e. first_list (λ x. not (test x)) (subpatterns p) (subpatterns q) (second_true (not (test (membership a s p q))) _ e);
  places = λ c e. (part_at c a, nothing_earlier _ _ (nothing_later (fault_at g c (membership a s p q)) _ e));
}

right_of_membership : (g : KoreSignature) (a s : KoreSort) (p q : KorePattern) → IsPartOf g (membership a s p q) q
right_of_membership g a s p q = record {
  tests = λ test e. second_list (λ x. not (test x)) (subpatterns p) (subpatterns q) (second_true (not (test (membership a s p q))) _ e);
  places = λ c e. (after p (part_at c a), nothing_earlier _ _ (nothing_later (first_fault g (part_at c a) p) _ (nothing_later (fault_at g c (membership a s p q)) _ e)));
}

-- the members of a conjunction of two
first_conjoined : (g : KoreSignature) (s : KoreSort) (p q : KorePattern) → IsPartOf g (conjunction s (next_pattern p (next_pattern q no_patterns))) p
first_conjoined g s p q = record {
  tests = λ test e. none_in_first test p (next_pattern q no_patterns) (second_true (not (test (conjunction s (next_pattern p (next_pattern q no_patterns))))) _ e);
  places = λ c e. (part_at c s, nothing_earlier _ _ (nothing_later (fault_at g c (conjunction s (next_pattern p (next_pattern q no_patterns)))) _ e));
}

second_conjoined : (g : KoreSignature) (s : KoreSort) (p q : KorePattern) → IsPartOf g (conjunction s (next_pattern p (next_pattern q no_patterns))) q
second_conjoined g s p q = record {
  tests = λ test e. none_in_first test q no_patterns (none_in_others test p (next_pattern q no_patterns) (second_true (not (test (conjunction s (next_pattern p (next_pattern q no_patterns))))) _ e));
  places = λ c e. (after p (part_at c s), nothing_earlier _ _ (nothing_later (first_fault g (part_at c s) p) _ (nothing_later (fault_at g c (conjunction s (next_pattern p (next_pattern q no_patterns)))) _ e)));
}

-- ---- the parts of a predicate

pub denied : (g : KoreSignature) (s : KoreSort) (p : KorePattern) → IsVerifiedPredicate g (negation s p) → IsVerifiedPredicate g p
denied g s p h = predicate_part g (negation s p) p (of_negation g s p) h.predicate h

pub implying : (g : KoreSignature) (s : KoreSort) (p q : KorePattern) → IsVerifiedPredicate g (implication s p q) → IsVerifiedPredicate g p
implying g s p q h = predicate_part g (implication s p q) p (left_of_implication g s p q) (first_true (is_predicate p) (is_predicate q) h.predicate) h

pub implied : (g : KoreSignature) (s : KoreSort) (p q : KorePattern) → IsVerifiedPredicate g (implication s p q) → IsVerifiedPredicate g q
implied g s p q h = predicate_part g (implication s p q) q (right_of_implication g s p q) (second_true (is_predicate p) (is_predicate q) h.predicate) h

pub first_equivalent : (g : KoreSignature) (s : KoreSort) (p q : KorePattern) → IsVerifiedPredicate g (equivalence s p q) → IsVerifiedPredicate g p
first_equivalent g s p q h = predicate_part g (equivalence s p q) p (left_of_equivalence g s p q) (first_true (is_predicate p) (is_predicate q) h.predicate) h

pub second_equivalent : (g : KoreSignature) (s : KoreSort) (p q : KorePattern) → IsVerifiedPredicate g (equivalence s p q) → IsVerifiedPredicate g q
second_equivalent g s p q h = predicate_part g (equivalence s p q) q (right_of_equivalence g s p q) (second_true (is_predicate p) (is_predicate q) h.predicate) h

pub first_equal : (g : KoreSignature) (a s : KoreSort) (p q : KorePattern) → IsVerifiedPredicate g (equals a s p q) → IsVerifiedTerm g p
first_equal g a s p q h = term_part g (equals a s p q) p (left_of_equals g a s p q) (first_true (is_term p) (is_term q) h.predicate) h

pub second_equal : (g : KoreSignature) (a s : KoreSort) (p q : KorePattern) → IsVerifiedPredicate g (equals a s p q) → IsVerifiedTerm g q
second_equal g a s p q h = term_part g (equals a s p q) q (right_of_equals g a s p q) (second_true (is_term p) (is_term q) h.predicate) h

pub first_in : (g : KoreSignature) (a s : KoreSort) (p q : KorePattern) → IsVerifiedPredicate g (membership a s p q) → IsVerifiedTerm g p
first_in g a s p q h = term_part g (membership a s p q) p (left_of_membership g a s p q) (first_true (is_term p) (is_term q) h.predicate) h

pub second_in : (g : KoreSignature) (a s : KoreSort) (p q : KorePattern) → IsVerifiedPredicate g (membership a s p q) → IsVerifiedTerm g q
second_in g a s p q h = term_part g (membership a s p q) q (right_of_membership g a s p q) (second_true (is_term p) (is_term q) h.predicate) h

pub defined_term : (g : KoreSignature) (a s : KoreSort) (p : KorePattern) → is_term p ≡ true → IsVerifiedPredicate g (ceil a s p) → IsVerifiedTerm g p
defined_term g a s p t h = term_part g (ceil a s p) p (of_ceil g a s p) t h

pub first_of_pair : (g : KoreSignature) (a s : KoreSort) (p first second : KorePattern) → IsPairOf p first second → IsVerifiedPredicate g (ceil a s p) → IsVerifiedTerm g first
first_of_pair g a s p first second pair h =
    let whole = verified_part g (ceil a s p) p (of_ceil g a s p) h.verified in
    record {
      term = pair.first_term;
      verified = verified_part g (conjunction pair.sort (next_pattern first (next_pattern second no_patterns))) first (first_conjoined g pair.sort first second) (subst (IsVerified g) pair.pattern whole);
    }

pub second_of_pair : (g : KoreSignature) (a s : KoreSort) (p first second : KorePattern) → IsPairOf p first second → IsVerifiedPredicate g (ceil a s p) → IsVerifiedTerm g second
second_of_pair g a s p first second pair h =
    let whole = verified_part g (ceil a s p) p (of_ceil g a s p) h.verified in
    record {
      term = pair.second_term;
      verified = verified_part g (conjunction pair.sort (next_pattern first (next_pattern second no_patterns))) second (second_conjoined g pair.sort first second) (subst (IsVerified g) pair.pattern whole);
    }

-- where p is neither a term nor a pair of terms
pub defined_predicate : (g : KoreSignature) (a s : KoreSort) (p : KorePattern) → is_term p ≡ false → is_conjoined_pair p ≡ false → IsVerifiedPredicate g (ceil a s p) → IsVerifiedPredicate g p
defined_predicate g a s p t n h = predicate_part g (ceil a s p) p (of_ceil g a s p) (by (is_term p) (is_predicate p) (is_conjoined_pair p) t n h.predicate) h
  where
    by : (x y z : Bool) → x ≡ false → z ≡ false → (x || y) || z ≡ true → y ≡ true
    by x true z e f k = refl
    by true false z e f k = absurd (cc)
    by false false true e f k = absurd (cc)
    by false false false e f k = absurd (cc)

-- \floor of a term isn't a condition
pub no_floor : (g : KoreSignature) (a s : KoreSort) (p : KorePattern) → is_term p ≡ true → IsVerifiedPredicate g (floor a s p) → ⊥
no_floor g a s p t h = by (is_term p) t (first_true (not (is_term p)) (none_within is_floor_of_term p) h.floors)
  where
    by : (b : Bool) → b ≡ true → not b ≡ true → ⊥
    by true e k = absurd (cc)
    by false e k = absurd (cc)

pub floored_predicate : (g : KoreSignature) (a s : KoreSort) (p : KorePattern) → is_term p ≡ false → IsVerifiedPredicate g (floor a s p) → IsVerifiedPredicate g p
floored_predicate g a s p t h = predicate_part g (floor a s p) p (of_floor g a s p) (by (is_term p) (is_predicate p) t h.predicate) h
  where
    by : (x y : Bool) → x ≡ false → x || y ≡ true → y ≡ true
    by true y e k = absurd (cc)
    by false y e k = k

pub no_predicate : (g : KoreSignature) (p : KorePattern) → is_predicate p ≡ false → IsVerifiedPredicate g p → ⊥
no_predicate g p e h = absurd (cc (sym e ∙ h.predicate))

pub no_quantifier : (g : KoreSignature) (s t : KoreSort) (x : Text) (p : KorePattern) → (IsVerifiedPredicate g (exists s x t p) → ⊥) × (IsVerifiedPredicate g (forall s x t p) → ⊥)
no_quantifier g s t x p = (
  (λ h. absurd (cc (first_true (not (is_quantifier (exists s x t p))) (none_within is_quantifier p) h.quantifiers))),
  (λ h. absurd (cc (first_true (not (is_quantifier (forall s x t p))) (none_within is_quantifier p) h.quantifiers))),
)

-- ---- lists

abbrev pub ArePredicates : KoreSignature → List Pattern → Type 0
ArePredicates g = AllByRecursion (λ p. IsVerifiedPredicate g (view p))

abbrev pub AreTerms : KoreSignature → List Pattern → Type 0
AreTerms g = AllByRecursion (λ p. IsVerifiedTerm g (view p))

each_member : (g : KoreSignature) (c : Place) (ps : List Pattern) → are_predicates (patterns_view ps) ≡ true → none_among is_quantifier (patterns_view ps) ≡ true → none_among is_floor_of_term (patterns_view ps) ≡ true →
    members_fault g c (patterns_view ps) ≡ None → none_among (has_foreign_head g) (patterns_view ps) ≡ true → none_among (misapplies_injection g) (patterns_view ps) ≡ true → ArePredicates g ps
each_member g c [] are quantifiers floors fault known injections = tt
each_member g c (p ∷ ps) are quantifiers floors fault known injections = (
  record {
    predicate = first_true (is_predicate (view p)) (are_predicates (patterns_view ps)) are;
    quantifiers = none_in_first is_quantifier (view p) (patterns_view ps) quantifiers;
    floors = none_in_first is_floor_of_term (view p) (patterns_view ps) floors;
    verified = record {
      place = c;
      faultless = nothing_earlier _ _ fault;
      known = none_in_first (has_foreign_head g) (view p) (patterns_view ps) known;
      injections = none_in_first (misapplies_injection g) (view p) (patterns_view ps) injections;
    };
  },
  each_member g (after (view p) c) ps (second_true (is_predicate (view p)) (are_predicates (patterns_view ps)) are)
      (none_in_others is_quantifier (view p) (patterns_view ps) quantifiers) (none_in_others is_floor_of_term (view p) (patterns_view ps) floors) (nothing_later (first_fault g c (view p)) _ fault)
      (none_in_others (has_foreign_head g) (view p) (patterns_view ps) known) (none_in_others (misapplies_injection g) (view p) (patterns_view ps) injections),
)

pub conjoined : (g : KoreSignature) (s : KoreSort) (ps : List Pattern) → IsVerifiedPredicate g (conjunction s (patterns_view ps)) → ArePredicates g ps
conjoined g s ps h =
    let p = conjunction s (patterns_view ps) in
    each_member g (part_at h.verified.place s) ps h.predicate (second_true (not (is_quantifier p)) _ h.quantifiers) (second_true (not (is_floor_of_term p)) _ h.floors)
    (nothing_later (fault_at g h.verified.place p) _ h.verified.faultless) (second_true (not (has_foreign_head g p)) _ h.verified.known) (second_true (not (misapplies_injection g p)) _ h.verified.injections)

pub disjoined : (g : KoreSignature) (s : KoreSort) (ps : List Pattern) → IsVerifiedPredicate g (disjunction s (patterns_view ps)) → ArePredicates g ps
disjoined g s ps h =
    let p = disjunction s (patterns_view ps) in
    each_member g (part_at h.verified.place s) ps h.predicate (second_true (not (is_quantifier p)) _ h.quantifiers) (second_true (not (is_floor_of_term p)) _ h.floors)
    (nothing_later (fault_at g h.verified.place p) _ h.verified.faultless) (second_true (not (has_foreign_head g p)) _ h.verified.known) (second_true (not (misapplies_injection g p)) _ h.verified.injections)

each_argument : (g : KoreSignature) (c : Place) (ss : KoreSorts) (ps : List Pattern) → length (sort_list ss) ≡ length (pattern_list (patterns_view ps)) → are_terms (patterns_view ps) ≡ true →
    arguments_fault g c ss (patterns_view ps) ≡ None → none_among (has_foreign_head g) (patterns_view ps) ≡ true → none_among (misapplies_injection g) (patterns_view ps) ≡ true → AreTerms g ps
each_argument g c no_sorts [] n are fault known injections = tt
each_argument g c no_sorts (p ∷ ps) n are fault known injections = absurd (cc)
each_argument g c (next_sort s ss) [] n are fault known injections = tt
each_argument g c (next_sort s ss) (p ∷ ps) n are fault known injections = (
  record {
    term = first_true (is_term (view p)) (are_terms (patterns_view ps)) are;
    verified = record {
      place = argument_at c s;
      faultless = nothing_earlier _ _ fault;
      known = none_in_first (has_foreign_head g) (view p) (patterns_view ps) known;
      injections = none_in_first (misapplies_injection g) (view p) (patterns_view ps) injections;
    };
  },
  each_argument g (after (view p) c) ss ps (same_rest _ _ n) (second_true (is_term (view p)) (are_terms (patterns_view ps)) are) (nothing_later (first_fault g (argument_at c s) (view p)) _ fault)
      (none_in_others (has_foreign_head g) (view p) (patterns_view ps) known) (none_in_others (misapplies_injection g) (view p) (patterns_view ps) injections),
)

pub no_symbol_fault : (g : KoreSignature) (f : Text) (ss : KoreSorts) (ps : KorePatterns) → IsVerifiedTerm g (application f ss ps) → symbol_fault g (application f ss ps) ≡ None
no_symbol_fault g f ss ps h = (keeps_rules g h.verified.place (application f ss ps) (nothing_earlier _ _ h.verified.faultless)).symbol

pub arguments : (g : KoreSignature) (f : Text) (ss : KoreSorts) (ps : List Pattern) → IsVerifiedTerm g (application f ss (patterns_view ps)) → AreTerms g ps
arguments g f ss ps h =
    let p = application f ss (patterns_view ps) in
    each_argument g h.verified.place (argument_sorts g f ss) ps (as_many_arguments g f ss (patterns_view ps) (no_symbol_fault g f ss (patterns_view ps) h)) h.term
    (nothing_later (fault_at g h.verified.place p) _ h.verified.faultless) (second_true (not (has_foreign_head g p)) _ h.verified.known) (second_true (not (misapplies_injection g p)) _ h.verified.injections)

-- what holds of each holds of the one at a place of the list
pub at_index : {A : Type 0} (P : A → Type 0) (xs : List A) (i : ℕ) (x : A) → i < length xs → x ≡ get_or xs i x → AllByRecursion P xs → P x
at_index P [] i x h e all = absurd (omega arith)
at_index P (y ∷ ys) zero x h e all = subst P (sym e) all.0
at_index P (y ∷ ys) (suc i) x h e all = at_index P ys i x (omega arith) e all.1

-- ---- left terms

abbrev pub AreLeftTerms : KoreSignature → List Pattern → Type 0
AreLeftTerms g = AllByRecursion (λ p. IsVerifiedLeftTerm g (view p))

each_left : (g : KoreSignature) (ps : List Pattern) → AreTerms g ps → none_among (has_interpreted_head g) (patterns_view ps) ≡ true → AreLeftTerms g ps
each_left g [] terms none = tt
each_left g (p ∷ ps) terms none = (
  record { term = terms.0; uninterpreted = none_in_first (has_interpreted_head g) (view p) (patterns_view ps) none },
  each_left g ps terms.1 (none_in_others (has_interpreted_head g) (view p) (patterns_view ps) none),
)

pub left_arguments : (g : KoreSignature) (f : Text) (ss : KoreSorts) (ps : List Pattern) → IsVerifiedLeftTerm g (application f ss (patterns_view ps)) → AreLeftTerms g ps
left_arguments g f ss ps h = each_left g ps (arguments g f ss ps h.term) (second_true (not (has_interpreted_head g (application f ss (patterns_view ps)))) _ h.uninterpreted)

-- ---- lent predicates

pub lent_at_index : (g : KoreSignature) (ps : List (Bor Pattern)) (i : ℕ) (p : Bor Pattern) → i < length ps → p ≡ get_or ps i p → AllByRecursion (IsVerifiedPredicate g) (seen ps) → IsVerifiedPredicate g (view p.now)
lent_at_index g [] i p h e all = absurd (omega arith)
lent_at_index g (q ∷ qs) zero p h e all = subst (λ x. IsVerifiedPredicate g (view x.now)) (sym e) all.0
lent_at_index g (q ∷ qs) (suc i) p h e all = lent_at_index g qs i p (omega arith) e all.1
