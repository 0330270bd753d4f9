-- What is compiled of a verified rewrite axiom that is read is verified, and its right term has the axiom's sort.
use Rattle.std.proofs.Common.{◌≡◌, refl, sym, ap, subst, ◌∙◌, Bool, true, false, not, cond, List, [], ◌∷◌, ◌++◌, Option, Some, None}
use Rattle.std.specs.Prelude.{IsTrue}
use Rattle.std.specs.List.{list_all, AllByRecursion}
use Rattle.std.specs.Option.{option_map}
use Rattle.std.proofs.lemmas.List.Folds.{list_all-append}
use Rattle.kp_kore.specs.Syntax.{KoreSort, KorePattern, Statement, variable, literal, application, rewriting, exists}
use Rattle.kp_kore.specs.Parts.{is_term, subpatterns, free_variables}
use Rattle.kp_kore.specs.Signature.{KoreSignature}
use Rattle.kp_kore.specs.Sorting.{sort_of_term}
use Rattle.kp_kore.specs.Instance.{is_predicate, conjuncts, conjoined_terms, conjoined_predicates}
use Rattle.kp_kore.specs.Rules.{Rewrite, rewrite_of, constrained_term, only_one, top_binders, under_binders, have_distinct_names, joined}
use Rattle.kp_kore.specs.Foreign.{none_within, has_foreign_head, applies_undeclared, is_quantifier, is_floor_of_term, IsRead}
use Rattle.kp_kore.proofs.InstanceLemmas.{first_true, second_true}
use Rattle.kp_signature.specs.Places.{Place, own_sort, the_top, part_at, after, under_binder}
use Rattle.kp_signature.specs.Verify.{first_fault, fault_at}
use Rattle.kp_signature.proofs.FaultLemmas.{nothing_earlier, nothing_later, keeps_rules, has_wanted_sort, term_has_wanted_sort}
use Rattle.kp_signature.proofs.SortLemmas.{same_inside}
use Rattle.kp_signature.proofs.ListLemmas.{all_both, all_filtered}
use Rattle.kp_signature.proofs.VerifiedMembers.{StandsVerified, conjuncts_stand, none_in_conjuncts}
use Rattle.kp_signature.proofs.RuleSides.{sides_of, holds_of_term}
use Rattle.kp_signature.proofs.SortedRules.{none_on_the_right}
use Rattle.kp_compile.specs.Verified.{misapplies_injection, IsVerified, IsVerifiedTerm, IsVerifiedPredicate}
use Rattle.kp_rules.specs.VerifiedSides.{IsVerifiedEnsured}
use Rattle.kp_rule_reading.specs.ReadRules.{IsSound}
use Rattle.kp_rule_reading.proofs.Declared.{none_foreign}
use Rattle.kp_rule_reading.proofs.KnownSides.{ensured_is}

-- ---- the conjuncts of a side

-- a verified member, of the side's sort where it is a term
record StandsSound (g : KoreSignature) (s : KoreSort) (q : KorePattern) : Type 0 where
  pub verified : IsVerified g q
  pub sorted : is_term q ≡ true → own_sort g q ≡ Some s

abbrev HasNeither : KoreSignature → KorePattern → Type 0
HasNeither g q = (none_within (has_foreign_head g) q ≡ true) × (none_within (misapplies_injection g) q ≡ true)

stands_sound : (g : KoreSignature) (c : Place) (s : KoreSort) (p q : KorePattern) → StandsVerified g s c.scope (free_variables p) q → HasNeither g q → StandsSound g s q
stands_sound g c s p q h n = record {
  verified = record { place = h.place; faultless = h.verified; known = n.0; injections = n.1 };
  sorted = λ t. term_has_wanted_sort g h.place q s t h.verified h.wanted;
}

conjuncts_sound : (g : KoreSignature) (c : Place) (s : KoreSort) (p : KorePattern) → first_fault g c p ≡ None → c.wanted ≡ Some s → HasNeither g p → AllByRecursion (StandsSound g s) (conjuncts p)
conjuncts_sound g c s p e w n =
    all_both (StandsVerified g s c.scope (free_variables p)) (HasNeither g) (StandsSound g s) (conjuncts p) (stands_sound g c s p) (conjuncts_stand g c s p e w)
    (all_both (λ q. none_within (has_foreign_head g) q ≡ true) (λ q. none_within (misapplies_injection g) q ≡ true) (HasNeither g) (conjuncts p) (λ q a b. (a, b))
    (none_in_conjuncts (has_foreign_head g) p n.0) (none_in_conjuncts (misapplies_injection g) p n.1))

term_sound : (g : KoreSignature) (s : KoreSort) (p t : KorePattern) → constrained_term p ≡ Some t → AllByRecursion (StandsSound g s) (conjuncts p) → IsVerifiedTerm g t × (own_sort g t ≡ Some s)
term_sound g s p t e all = let h = holds_of_term (StandsSound g s) p t e all in (record { term = h.1; verified = h.0.verified }, h.0.sorted h.1)

all_passed : (test : KorePattern → Bool) (ps : List KorePattern) → list_all test ps ≡ true → AllByRecursion (λ p. test p ≡ true) ps
all_passed test [] e = tt
all_passed test (p ∷ ps) e = (first_true (test p) (list_all test ps) e, all_passed test ps (second_true (test p) (list_all test ps) e))

are_predicates : (p t : KorePattern) → constrained_term p ≡ Some t → list_all is_predicate (conjoined_predicates p) ≡ true
are_predicates p t e = by (list_all is_predicate (conjoined_predicates p)) e
  where
    by : (b : Bool) → cond b (only_one (conjoined_terms p)) None ≡ Some t → b ≡ true
    by true k = refl
    by false k = absurd (cc)

abbrev IsPlain : KorePattern → Type 0
IsPlain c = (is_predicate c ≡ true) × (none_within is_quantifier c ≡ true) × (none_within is_floor_of_term c ≡ true)

predicates_sound : (g : KoreSignature) (s : KoreSort) (p t : KorePattern) → constrained_term p ≡ Some t → AllByRecursion (StandsSound g s) (conjuncts p) →
    AllByRecursion (λ c. IsTrue (none_within is_quantifier c)) (conjoined_predicates p) → AllByRecursion (λ c. IsTrue (none_within is_floor_of_term c)) (conjoined_predicates p) →
    AllByRecursion (IsVerifiedPredicate g) (conjoined_predicates p)
predicates_sound g s p t e all quantifiers floors =
    all_both (λ q. StandsSound g s q × (not (is_term q) ≡ true)) IsPlain (IsVerifiedPredicate g) (conjoined_predicates p)
    (λ q a b. record { predicate = b.0; quantifiers = b.1; floors = b.2; verified = a.0.verified })
    (all_filtered (StandsSound g s) (λ q. not (is_term q)) (conjuncts p) all)
    (all_both (λ q. is_predicate q ≡ true) (λ q. (none_within is_quantifier q ≡ true) × (none_within is_floor_of_term q ≡ true)) IsPlain (conjoined_predicates p) (λ q a b. (a, b.0, b.1))
    (all_passed is_predicate (conjoined_predicates p) (are_predicates p t e))
    (all_both (λ q. none_within is_quantifier q ≡ true) (λ q. none_within is_floor_of_term q ≡ true) (λ q. (none_within is_quantifier q ≡ true) × (none_within is_floor_of_term q ≡ true))
    (conjoined_predicates p) (λ q a b. (a, b)) quantifiers floors))

-- ---- under the binders of the right side

record StandsUnder (g : KoreSignature) (s : KoreSort) (q : KorePattern) : Type 0 where
  pub place : Place
  pub faultless : first_fault g place q ≡ None
  pub wanted : place.wanted ≡ Some s

stands_under : (g : KoreSignature) (c : Place) (s : KoreSort) (r : KorePattern) → first_fault g c r ≡ None → c.wanted ≡ Some s → StandsUnder g s (under_binders r)
stands_under g c s (exists t x u p) e w =
    stands_under g (under_binder x u (part_at c t)) s p (nothing_later (fault_at g c (exists t x u p)) _ e)
    (has_wanted_sort g c (exists t x u p) s e w (keeps_rules g c (exists t x u p) (nothing_earlier _ _ e)))
stands_under g c s r e w = record { place = c; faultless = e; wanted = w }

none_under : (test : KorePattern → Bool) (r : KorePattern) → none_within test r ≡ true → none_within test (under_binders r) ≡ true
none_under test (exists t x u p) e = none_under test p (second_true (not (test (exists t x u p))) (none_within test p) e)
none_under test r e = e

-- ---- the whole

none_on_the_left : (test : KorePattern → Bool) (s : KoreSort) (l r : KorePattern) → none_within test (rewriting s l r) ≡ true → none_within test l ≡ true
none_on_the_left test s l r e =
    first_true (none_within test l) (none_within test r)
    (sym (list_all-append (λ q. not (test q)) (subpatterns l) (subpatterns r)) ∙ second_true (not (test (rewriting s l r))) (list_all (λ q. not (test q)) (subpatterns l ++ subpatterns r)) e)

pub condition_is : (s : KoreSort) (l r : KorePattern) (m : Rewrite) → rewrite_of (rewriting s l r) ≡ Some m → m.condition ≡ conjoined_predicates l
condition_is s l r m h = by (have_distinct_names (top_binders r)) (constrained_term l) (constrained_term (under_binders r)) h
  where
    by : (b : Bool) (x y : Option KorePattern) → cond b (joined l r x y) None ≡ Some m → m.condition ≡ conjoined_predicates l
    by true (Some t) (Some u) k = sym (same_inside (conjoined_predicates l) m.condition (ap (option_map (λ n. n.condition)) k))
    by true (Some t) None k = absurd (cc)
    by true None (Some u) k = absurd (cc)
    by true None None k = absurd (cc)
    by false x y k = absurd (cc)

left_sound : (g : KoreSignature) (s : KoreSort) (l r : KorePattern) → first_fault g the_top (rewriting s l r) ≡ None → HasNeither g (rewriting s l r) → AllByRecursion (StandsSound g s) (conjuncts l)
left_sound g s l r e n =
    conjuncts_sound g (part_at the_top s) s l (nothing_earlier _ _ (nothing_later (fault_at g the_top (rewriting s l r)) _ e)) refl
    (none_on_the_left (has_foreign_head g) s l r n.0, none_on_the_left (misapplies_injection g) s l r n.1)

right_sound : (g : KoreSignature) (s : KoreSort) (l r : KorePattern) → first_fault g the_top (rewriting s l r) ≡ None → HasNeither g (rewriting s l r) → AllByRecursion (StandsSound g s) (conjuncts (under_binders r))
right_sound g s l r e n =
    let there = stands_under g (after l (part_at the_top s)) s r (nothing_earlier _ _ (nothing_later (first_fault g (part_at the_top s) l) _ (nothing_later (fault_at g the_top (rewriting s l r)) _ e))) refl in
    conjuncts_sound g there.place s (under_binders r) there.faultless there.wanted
    (none_under (has_foreign_head g) r (none_on_the_right (has_foreign_head g) s l r n.0), none_under (misapplies_injection g) r (none_on_the_right (misapplies_injection g) s l r n.1))

pub sound : (g : KoreSignature) (a : Statement) (s : KoreSort) (l r : KorePattern) (m : Rewrite) → a.pattern ≡ rewriting s l r → IsRead g a.parameters a.attributes a.pattern m →
    first_fault g the_top a.pattern ≡ None → none_within (misapplies_injection g) a.pattern ≡ true → none_within (applies_undeclared g) a.pattern ≡ true → IsSound g m
sound g a s l r m e read fault injections declared =
    let shape : rewrite_of (rewriting s l r) ≡ Some m = subst (λ p. rewrite_of p ≡ Some m) e read.shape in
    let none : first_fault g the_top (rewriting s l r) ≡ None = subst (λ p. first_fault g the_top p ≡ None) e fault in
    let neither : HasNeither g (rewriting s l r) = subst (HasNeither g) e (none_foreign g (subpatterns a.pattern) read.no_foreign_symbol declared, injections) in
    let sides = sides_of s l r m shape in
    let condition = condition_is s l r m shape in
    let left = left_sound g s l r none neither in
    record {
      left = record { term = (term_sound g s l m.left sides.left left).0; uninterpreted = read.left_uninterpreted };
      condition = subst (AllByRecursion (IsVerifiedPredicate g)) (sym condition) (predicates_sound g s l m.left sides.left left
          (subst (AllByRecursion (λ c. IsTrue (none_within is_quantifier c))) condition read.condition_quantifiers) (subst (AllByRecursion (λ c. IsTrue (none_within is_floor_of_term c))) condition read.condition_floors));
      right = (term_sound g s (under_binders r) m.right sides.right (right_sound g s l r none neither)).0;
    }

own_sort_of_term : (g : KoreSignature) (p : KorePattern) → is_term p ≡ true → sort_of_term g p ≡ own_sort g p
own_sort_of_term g (variable x s) t = refl
own_sort_of_term g (literal s text) t = refl
own_sort_of_term g (application f ss ps) t = refl
own_sort_of_term g _ t = absurd (cc)

pub right_has_sort : (g : KoreSignature) (a : Statement) (s : KoreSort) (l r : KorePattern) (m : Rewrite) → a.pattern ≡ rewriting s l r → IsRead g a.parameters a.attributes a.pattern m →
    first_fault g the_top a.pattern ≡ None → none_within (misapplies_injection g) a.pattern ≡ true → none_within (applies_undeclared g) a.pattern ≡ true → sort_of_term g m.right ≡ Some s
right_has_sort g a s l r m e read fault injections declared =
    let shape : rewrite_of (rewriting s l r) ≡ Some m = subst (λ p. rewrite_of p ≡ Some m) e read.shape in
    let none : first_fault g the_top (rewriting s l r) ≡ None = subst (λ p. first_fault g the_top p ≡ None) e fault in
    let neither : HasNeither g (rewriting s l r) = subst (HasNeither g) e (none_foreign g (subpatterns a.pattern) read.no_foreign_symbol declared, injections) in
    let right = term_sound g s (under_binders r) m.right (sides_of s l r m shape).right (right_sound g s l r none neither) in
    own_sort_of_term g m.right right.0.term ∙ right.1

ensured_sound : (g : KoreSignature) (s : KoreSort) (p t : KorePattern) → constrained_term p ≡ Some t → AllByRecursion (StandsSound g s) (conjuncts p) → AllByRecursion (IsVerifiedEnsured g) (conjoined_predicates p)
ensured_sound g s p t e all =
    all_both (λ q. StandsSound g s q × (not (is_term q) ≡ true)) (λ q. is_predicate q ≡ true) (IsVerifiedEnsured g) (conjoined_predicates p)
    (λ q a b. record { predicate = b; verified = a.0.verified })
    (all_filtered (StandsSound g s) (λ q. not (is_term q)) (conjuncts p) all)
    (all_passed is_predicate (conjoined_predicates p) (are_predicates p t e))

pub ensured_verified : (g : KoreSignature) (a : Statement) (s : KoreSort) (l r : KorePattern) (m : Rewrite) → a.pattern ≡ rewriting s l r → IsRead g a.parameters a.attributes a.pattern m →
    first_fault g the_top a.pattern ≡ None → none_within (misapplies_injection g) a.pattern ≡ true → none_within (applies_undeclared g) a.pattern ≡ true → AllByRecursion (IsVerifiedEnsured g) m.ensured
ensured_verified g a s l r m e read fault injections declared =
    let shape : rewrite_of (rewriting s l r) ≡ Some m = subst (λ p. rewrite_of p ≡ Some m) e read.shape in
    let none : first_fault g the_top (rewriting s l r) ≡ None = subst (λ p. first_fault g the_top p ≡ None) e fault in
    let neither : HasNeither g (rewriting s l r) = subst (HasNeither g) e (none_foreign g (subpatterns a.pattern) read.no_foreign_symbol declared, injections) in
    subst (AllByRecursion (IsVerifiedEnsured g)) (sym (ensured_is s l r m shape)) (ensured_sound g s (under_binders r) m.right (sides_of s l r m shape).right (right_sound g s l r none neither))
