-- A pattern that is opened as a state has the state's instances, before its equations are solved; its parts are well-sorted.
use Rattle.std.proofs.Common.{◌≡◌, refl, sym, ◌∙◌, ap, subst, true, not, List, [], ◌∷◌, Option, Some, None, ◌↔◌}
use Rattle.std.specs.List.{AllByRecursion}
use Rattle.kp_kore.specs.Syntax.{KoreSort, KorePattern, KorePatterns, variable, literal, application}
use Rattle.kp_kore.specs.Parts.{SortedName, is_term, free_variables, all_free_variables}
use Rattle.kp_kore.specs.Signature.{KoreSignature, itself}
use Rattle.kp_kore.specs.Sorting.{sort_of_term}
use Rattle.kp_kore.specs.Value.{Value}
use Rattle.kp_kore.specs.Instance.{Valuation, GivesSorts, IsTrueUnder, is_predicate, conjuncts, conjoined_terms, conjoined_predicates, IsInstanceOfOne, IsInstance, instance}
use Rattle.kp_kore.specs.Foreign.{none_within, has_foreign_head}
use Rattle.kp_kore.proofs.ClaimRuleLemmas.{met_of, conjunction_of}
use Rattle.kp_signature.specs.Places.{Place, own_sort}
use Rattle.kp_signature.specs.Verify.{first_fault}
use Rattle.kp_signature.proofs.ListLemmas.{all_filtered}
use Rattle.kp_symbolic.specs.Terms.{term_instance}
use Rattle.kp_symbolic.specs.States.{variables_for, AreGiven, AreTrue, SymbolicState, IsStateInstance}
use Rattle.kp_symbolic.specs.WellFormed.{AreWellPlaced, IsWellSorted}
use Rattle.kp_symbolic.specs.Folding.{folded}
use Rattle.kp_symbolic.specs.Clauses.{clauses_of_conjuncts, without_repeats}
use Rattle.kp_symbolic.specs.Solving.{opened_state}
use Rattle.kp_symbolic.proofs.Distribution.{all_first, all_second}
use Rattle.kp_symbolic.proofs.Folded.{folded_is}
use Rattle.kp_symbolic.proofs.SortedFolding.{folded_sorted}
use Rattle.kp_symbolic.proofs.Read.{Stands, StandAll, conjunction_stands, first_stands, others_stand, IsRead, conjuncts_read}
use Rattle.kp_symbolic.proofs.Leaf.{conjuncts_say, once_says, then_says}

pub placed_as_they_are : (g : KoreSignature) (xs : List SortedName) → AreWellPlaced g [] xs
placed_as_they_are g [] = tt
placed_as_they_are g (x ∷ xs) = (itself x.sort, placed_as_they_are g xs)

pub given_as_they_are : (g : KoreSignature) (v : Valuation) (xs : List SortedName) → GivesSorts g v xs → AreGiven g [] v xs
given_as_they_are g v [] h = tt
given_as_they_are g v (x ∷ xs) h = ((h.0, tt), given_as_they_are g v xs h.1)

some_inside : {A : Type 0} {a b : A} → Some a ≡ Some b → a ≡ b
some_inside e = cc

none_is_some : {A : Type 0} {a : A} → None ≡ Some a → ⊥
none_is_some e = cc

-- ---- the members of a verified pattern

abbrev IsMember : KoreSignature → Valuation → KorePattern → Type 0
IsMember g v p = Stands g [] p × AreGiven g [] v (free_variables p)

abbrev AreMembers : KoreSignature → Valuation → KorePatterns → Type 0
AreMembers g v ps = StandAll g [] ps × AreGiven g [] v (all_free_variables ps)

abbrev Sorted : KoreSignature → Valuation → SortedName → Type 0
Sorted g v x = GivesSorts g v (variables_for x None)

members : (g : KoreSignature) (v : Valuation) (p : KorePattern) → IsMember g v p → AllByRecursion (IsMember g v) (conjuncts p)
members g v p h = conjuncts_read (IsMember g v) (AreMembers g v) p
    (λ s ps i. (conjunction_stands g [] s ps i.0, i.1))
    (λ q qs i. ((first_stands g [] q qs i.0, all_first (Sorted g v) (free_variables q) (all_free_variables qs) i.1), (others_stand g [] q qs i.0, all_second (Sorted g v) (free_variables q) (all_free_variables qs) i.1)))
    h

both_read : (g : KoreSignature) (v : Valuation) (ps : List KorePattern) → AllByRecursion (λ q. IsMember g v q × (not (is_term q) ≡ true)) ps → AllByRecursion (λ q. is_predicate q ≡ true) ps → AllByRecursion (IsRead g [] v) ps
both_read g v [] a b = tt
both_read g v (p ∷ ps) a b = (record { stands = a.0.0.0; predicate = b.0; given = a.0.0.1 }, both_read g v ps a.1 b.1)

-- ---- the state

abbrev pub state_of_sort : KoreSignature → KorePattern → KorePattern → Option KoreSort → Option SymbolicState
state_of_sort g p t (Some s) = Some (record { term = folded g [] t; sort = s; clauses = without_repeats (clauses_of_conjuncts g [] 0 (conjoined_predicates p)); variables = free_variables p })
state_of_sort g p t None = None

abbrev pub state_of : KoreSignature → KorePattern → List KorePattern → Option SymbolicState
state_of g p (t ∷ []) = state_of_sort g p t (sort_of_term g t)
state_of g p [] = None
state_of g p (t ∷ u ∷ ts) = None

pub record IsOpenedAs (g : KoreSignature) (p : KorePattern) (s : SymbolicState) : Type 0 where
  pub one : KorePattern
  pub is_one : conjoined_terms p ≡ one ∷ []
  pub sort : sort_of_term g one ≡ Some s.sort
  pub term : s.term ≡ folded g [] one
  pub clauses : s.clauses ≡ without_repeats (clauses_of_conjuncts g [] 0 (conjoined_predicates p))
  pub variables : s.variables ≡ free_variables p

by_sort : (g : KoreSignature) (p t : KorePattern) (s : SymbolicState) (o : Option KoreSort) → conjoined_terms p ≡ t ∷ [] → sort_of_term g t ≡ o → state_of_sort g p t o ≡ Some s → IsOpenedAs g p s
by_sort g p t s (Some a) i e q =
    let made : SymbolicState = record { term = folded g [] t; sort = a; clauses = without_repeats (clauses_of_conjuncts g [] 0 (conjoined_predicates p)); variables = free_variables p } in
    let same : made ≡ s = some_inside q in
    subst (IsOpenedAs g p) same (record { one = t; is_one = i; sort = e; term = refl; clauses = refl; variables = refl })
by_sort g p t s None i e q = absurd (none_is_some q)

by_terms : (g : KoreSignature) (p : KorePattern) (s : SymbolicState) (ts : List KorePattern) → conjoined_terms p ≡ ts → state_of g p ts ≡ Some s → IsOpenedAs g p s
by_terms g p s (t ∷ []) e q = by_sort g p t s (sort_of_term g t) e refl q
by_terms g p s [] e q = absurd (none_is_some q)
by_terms g p s (t ∷ u ∷ ts) e q = absurd (none_is_some q)

pub opened_as : (g : KoreSignature) (p : KorePattern) (s : SymbolicState) → opened_state g p ≡ Some s → IsOpenedAs g p s
opened_as g p s q = by_terms g p s (conjoined_terms p) refl q

pub opened_instances : (g : KoreSignature) (c : Place) (p : KorePattern) (s : SymbolicState) (v : Valuation) (u : Value) → first_fault g c p ≡ None → none_within (has_foreign_head g) p ≡ true → AllByRecursion (λ q. is_predicate q ≡ true) (conjoined_predicates p) → opened_state g p ≡ Some s → GivesSorts g v (free_variables p)
    → IsInstance g v p u ↔ IsStateInstance g v s u
opened_instances g c p s v u e k b q h =
    let o = opened_as g p s q in
    let all = members g v p (record { place = c; faultless = e; meant = k; placed = placed_as_they_are g (free_variables p) }, given_as_they_are g v (free_variables p) h) in
    let one = (subst (AllByRecursion (λ x. IsMember g v x × (is_term x ≡ true))) o.is_one (all_filtered (IsMember g v) is_term (conjuncts p) all)).0 in
    let term : term_instance g v s.term ≡ instance g v o.one = ap (term_instance g v) o.term ∙ folded_is g [] v o.one one.0.1 in
    let reads = both_read g v (conjoined_predicates p) (all_filtered (IsMember g v) (λ x. not (is_term x)) (conjuncts p) all) b in
    let clauses : AreTrue g v s.clauses ↔ AllByRecursion (IsTrueUnder g v) (conjoined_predicates p) = subst (λ cs. AreTrue g v cs ↔ AllByRecursion (IsTrueUnder g v) (conjoined_predicates p)) (sym o.clauses) (then_says (once_says g v (clauses_of_conjuncts g [] 0 (conjoined_predicates p))) (conjuncts_say g [] v 0 (conjoined_predicates p) reads)) in (
      (λ i. let d = conjunction_of g v p o.one u o.is_one i in record { term = subst (λ ts. IsInstanceOfOne g v ts u) o.is_one d.term ∙ sym term; clauses = clauses.1 d.predicates }),
      (λ i. met_of g v p o.one u o.is_one (record { term = subst (λ ts. IsInstanceOfOne g v ts u) (sym o.is_one) (i.term ∙ term); predicates = clauses.0 i.clauses })),
    )

pub opened_term_sorted : (g : KoreSignature) (c : Place) (p : KorePattern) (s : SymbolicState) (v : Valuation) → first_fault g c p ≡ None → none_within (has_foreign_head g) p ≡ true → opened_state g p ≡ Some s → GivesSorts g v (free_variables p) → IsWellSorted g s.sort s.term
opened_term_sorted g c p s v e k q h =
    let o = opened_as g p s q in
    let all = members g v p (record { place = c; faultless = e; meant = k; placed = placed_as_they_are g (free_variables p) }, given_as_they_are g v (free_variables p) h) in
    let one = (subst (AllByRecursion (λ x. IsMember g v x × (is_term x ≡ true))) o.is_one (all_filtered (IsMember g v) is_term (conjuncts p) all)).0 in
    subst (IsWellSorted g s.sort) (sym o.term) (folded_sorted g [] one.0.0.place o.one s.sort one.0.0.faultless (own_of_term g o.one one.1 ∙ o.sort) one.1 one.0.0.meant one.0.0.placed)
  where
    own_of_term : (g : KoreSignature) (t : KorePattern) → is_term t ≡ true → own_sort g t ≡ sort_of_term g t
    own_of_term g (variable x s) i = refl
    own_of_term g (literal s x) i = refl
    own_of_term g (application f ss ps) i = refl
    own_of_term g _ i = absurd (cc)
