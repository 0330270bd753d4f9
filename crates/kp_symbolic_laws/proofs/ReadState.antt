-- A verified pattern of one term and predicates is read as a state with the sorts of its places, which has its instances.
use Rattle.std.proofs.Common.{◌≡◌, refl, sym, ◌∙◌, ap, subst, not, true, List, [], ◌∷◌, ◌++◌, Some, None}
use Rattle.std.specs.List.{AllByRecursion, Contains}
use Rattle.kp_kore.specs.Syntax.{KoreSort, KorePattern, KorePatterns, variable, literal, application}
use Rattle.kp_kore.specs.Parts.{SortedName, is_term, free_variables, all_free_variables}
use Rattle.kp_kore.specs.Signature.{KoreSignature}
use Rattle.kp_kore.specs.Sorting.{sort_of_term}
use Rattle.kp_kore.specs.Instance.{Valuation, GivesSorts, is_predicate, conjuncts, conjoined_predicates}
use Rattle.kp_kore.specs.Foreign.{none_within, has_foreign_head}
use Rattle.kp_kore.proofs.TurnLemmas.{of_member, each_member}
use Rattle.kp_signature.specs.Places.{Place, own_sort, sort_in_scope}
use Rattle.kp_signature.specs.Verify.{first_fault}
use Rattle.kp_signature.proofs.VariableSorts.{HasItsSort}
use Rattle.kp_signature.proofs.ListLemmas.{all_filtered}
use Rattle.kp_symbolic.specs.Terms.{term_variables}
use Rattle.kp_symbolic.specs.States.{SymbolicState, HasInstancesOf}
use Rattle.kp_symbolic.specs.WellFormed.{IsWellSorted, AreAtHand}
use Rattle.kp_symbolic.specs.Folding.{folded}
use Rattle.kp_symbolic.specs.Solving.{Solving, finished, goes_on, solved_at, opened_state, IsReadAs}
use Rattle.kp_symbolic.proofs.Distribution.{all_first, all_second}
use Rattle.kp_symbolic.proofs.Folded.{folded_variables}
use Rattle.kp_symbolic.proofs.SortedFolding.{folded_sorted}
use Rattle.kp_symbolic.proofs.Read.{Stands, StandAll, conjunction_stands, first_stands, others_stand, conjuncts_read}
use Rattle.kp_symbolic.proofs.Leaf.{then_says}
use Rattle.kp_symbolic.proofs.OpenedState.{placed_as_they_are, opened_as, opened_instances}
use Rattle.kp_symbolic.proofs.Facts.{Good}
use Rattle.kp_signature.proofs.OneSort.{Agree, agrees}
use Rattle.kp_symbolic_laws.specs.Runs.{HasOneSortEach, IsSortedState, IsWrittenOfThese, IsWrittenRight, OfEachKept}
use Rattle.kp_symbolic_laws.proofs.OpenedGood.{IsAmong, predicates_have, each_itself}
use Rattle.kp_symbolic_laws.proofs.Course.{solving_sorted, solving_instance}

-- ---- one sort

pub one_sort : (g : KoreSignature) (c : Place) (p : KorePattern) → first_fault g c p ≡ None → HasOneSortEach (free_variables p)
one_sort g c p e x y i j n =
    let whole = c.scope ++ free_variables p in
    let a : Agree whole (free_variables p) = agrees g c p e in
    let h : HasItsSort whole x = of_member (HasItsSort whole) (free_variables p) x a i in
    let k : HasItsSort whole y = of_member (HasItsSort whole) (free_variables p) y a j in
    some_inside (sym h ∙ ap (λ z. sort_in_scope z whole) n ∙ k)
  where
    some_inside : {s t : KoreSort} → Some s ≡ Some t → s ≡ t
    some_inside q = cc

-- ---- the members of a verified pattern

abbrev pub IsMember : KoreSignature → List SortedName → KorePattern → Type 0
IsMember g hand p = Stands g [] p × AreAtHand (free_variables p) hand

abbrev AreMembers : KoreSignature → List SortedName → KorePatterns → Type 0
AreMembers g hand ps = StandAll g [] ps × AreAtHand (all_free_variables ps) hand

pub members : (g : KoreSignature) (hand : List SortedName) (p : KorePattern) → IsMember g hand p → AllByRecursion (IsMember g hand) (conjuncts p)
members g hand p h = conjuncts_read (IsMember g hand) (AreMembers g hand) p
    (λ s ps i. (conjunction_stands g [] s ps i.0, i.1))
    (λ q qs i. ((first_stands g [] q qs i.0, all_first (λ x. Contains hand x) (free_variables q) (all_free_variables qs) i.1), (others_stand g [] q qs i.0, all_second (λ x. Contains hand x) (free_variables q) (all_free_variables qs) i.1)))
    h

pub both_read : (g : KoreSignature) (hand : List SortedName) (ps : List KorePattern) → AllByRecursion (λ q. IsMember g hand q × (not (is_term q) ≡ true)) ps → AllByRecursion (λ q. is_predicate q ≡ true) ps → AllByRecursion (IsAmong g hand) ps
both_read g hand [] a b = tt
both_read g hand (p ∷ ps) a b = (record { stands = a.0.0.0; predicate = b.0; at_hand = a.0.0.1 }, both_read g hand ps a.1 b.1)

own_of_term : (g : KoreSignature) (t : KorePattern) → is_term t ≡ true → own_sort g t ≡ sort_of_term g t
own_of_term g (variable x s) i = refl
own_of_term g (literal s x) i = refl
own_of_term g (application f ss ps) i = refl
own_of_term g _ i = absurd (cc)

-- ---- the state that is opened

pub opened_sorted : (g : KoreSignature) (c : Place) (p : KorePattern) (s : SymbolicState) → first_fault g c p ≡ None → none_within (has_foreign_head g) p ≡ true → AllByRecursion (λ q. is_predicate q ≡ true) (conjoined_predicates p) → opened_state g p ≡ Some s → IsSortedState g s
opened_sorted g c p s e k b q =
    let hand = free_variables p in
    let o = opened_as g p s q in
    let all = members g hand p (record { place = c; faultless = e; meant = k; placed = placed_as_they_are g hand }, each_member (Contains hand) hand (λ x i. i)) in
    let one = (subst (AllByRecursion (λ x. IsMember g hand x × (is_term x ≡ true))) o.is_one (all_filtered (IsMember g hand) is_term (conjuncts p) all)).0 in
    let reads = both_read g hand (conjoined_predicates p) (all_filtered (IsMember g hand) (λ x. not (is_term x)) (conjuncts p) all) b in
    let sorted : IsWellSorted g s.sort (folded g [] o.one) = folded_sorted g [] one.0.0.place o.one s.sort one.0.0.faultless (own_of_term g o.one one.1 ∙ o.sort) one.1 one.0.0.meant one.0.0.placed in
    let there = folded_variables g [] (λ x. Contains hand x) o.one (each_itself hand (free_variables o.one) one.0.1) in
    record {
      term = subst (IsWellSorted g s.sort) (sym o.term) sorted;
      term_at_hand = subst (λ t. AreAtHand (term_variables t) s.variables) (sym o.term) (subst (AreAtHand (term_variables (folded g [] o.one))) (sym o.variables) there);
      literals = subst (λ xs. AllByRecursion (AllByRecursion (Good g xs)) s.clauses) (sym o.variables) (subst (AllByRecursion (AllByRecursion (Good g hand))) (sym o.clauses) (predicates_have g hand (conjoined_predicates p) reads));
      one_sort_each = subst HasOneSortEach (sym o.variables) (one_sort g c p e);
    }

-- ---- the state that is read

pub opened_to : (g : KoreSignature) (p : KorePattern) (s : SymbolicState) (r : IsReadAs g p s) → r.opened.variables ≡ free_variables p
opened_to g p s r = (opened_as g p r.opened r.is_opened).variables

solved_variables : (g : KoreSignature) (s t : SymbolicState) → Solving g s t → t.variables ≡ s.variables
solved_variables g s _ (finished _ q) = refl
solved_variables g s t (goes_on _ _ o q r) = solved_variables g (solved_at g o s) t r

pub read_sorted : (g : KoreSignature) (c : Place) (p : KorePattern) (s : SymbolicState) → first_fault g c p ≡ None → none_within (has_foreign_head g) p ≡ true → AllByRecursion (λ q. is_predicate q ≡ true) (conjoined_predicates p) → (r : IsReadAs g p s) → OfEachKept g (IsWrittenOfThese g) r.opened → IsSortedState g s
read_sorted g c p s e k b r w = solving_sorted g r.opened s (opened_sorted g c p r.opened e k b r.is_opened) w r.solving

pub read_instances : (g : KoreSignature) (c : Place) (p : KorePattern) (s : SymbolicState) → first_fault g c p ≡ None → none_within (has_foreign_head g) p ≡ true → AllByRecursion (λ q. is_predicate q ≡ true) (conjoined_predicates p) → (r : IsReadAs g p s) → OfEachKept g (IsWrittenOfThese g) r.opened → ((v : Valuation) → GivesSorts g v (free_variables p) → OfEachKept g (IsWrittenRight g v) r.opened) → HasInstancesOf g p s
read_instances g c p s e k b r w n = record {
  variables = solved_variables g r.opened s r.solving ∙ opened_to g p s r;
  instances = λ v u h. then_says
      (opened_instances g c p r.opened v u e k b r.is_opened h)
      (solving_instance g v r.opened s u (opened_sorted g c p r.opened e k b r.is_opened) (subst (GivesSorts g v) (sym (opened_to g p s r)) h) w (n v h) r.solving);
}
