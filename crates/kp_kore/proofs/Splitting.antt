-- The parts of right next states make a split of the node's state.
use Rattle.std.proofs.Common.{◌≡◌, refl, sym, ◌∙◌, ap, subst, Bool, true, false, not, List, [], ◌∷◌, ◌++◌, map, ◌⊎◌, inl, inr, Option, Some, None}
use Rattle.std.specs.List.{AllByRecursion, filter}
use Rattle.std.proofs.lemmas.List.{append-nil}
use Rattle.kp_kore.specs.Syntax.{Text, KoreSort, KorePattern, conjunction, top}
use Rattle.kp_kore.specs.Parts.{SortedName, is_term, free_variables, all_free_variables}
use Rattle.kp_kore.specs.Signature.{KoreSignature}
use Rattle.kp_kore.specs.View.{patterns_of}
use Rattle.kp_kore.specs.Value.{Value, HasSort}
use Rattle.kp_kore.specs.Instance.{Valuation, GivesSorts, AgreesOff, AgreesOn, is_named, IsInstance, IsInstanceOfOne, IsConjunctionInstance, IsTrueUnder, is_predicate, conjuncts, all_conjuncts, conjoined_terms, conjoined_predicates}
use Rattle.kp_kore.specs.Rules.{RewriteRule}
use Rattle.kp_kore.specs.Theory.{Theory}
use Rattle.kp_kore.specs.Steps.{AnyByRecursion, HasTurn}
use Rattle.kp_kore.specs.Replies.{IsFreshName, variables_beyond}
use Rattle.kp_kore.specs.AtHand.{IsOver, IsTrueOver, HasNewNames}
use Rattle.kp_kore.specs.Onward.{Leads}
use Rattle.kp_kore.specs.Cases.{NextState, IsCase, OfOneAlone, AreNextStates}
use Rattle.kp_kore.specs.Arcs.{SplitSays}
use Rattle.kp_kore.specs.Children.{split_child}
use Rattle.kp_kore.proofs.TruthLemmas.{same_truth}
use Rattle.kp_kore.proofs.ListLemmas.{all_append, all_left, all_right, all_map, all_both, all_filter, any_all, any_mapped, all_mapped, any_map_all, none_of}
use Rattle.kp_kore.proofs.NameLemmas.{of_conjuncts, members_named, by_name, true_is_false}
use Rattle.kp_kore.proofs.ClaimRuleLemmas.{met_of, conjunction_of}
use Rattle.kp_kore.proofs.ClaimRuns.{none_fire}
use Rattle.kp_kore.proofs.Rebased.{SeenFrom, seen_from, not_beyond, not_absent, kept_in, back_to, back_new, back_old, is_named_or}
use Rattle.kp_kore.proofs.ConjunctionLemmas.{same_pattern_instance}
use Rattle.kp_kore.proofs.Branching.{fresh_from}
use Rattle.kp_kore.proofs.Conjuncts.{filter_append, filter_twice, filter_other, filter_none, filter_all, single, no_terms, of_truth, conjuncts_listed}
use Rattle.kp_kore.proofs.ArcLemmas.{sorts_stay}

-- ---- the child

-- the members of the node's state, the term first
members : KorePattern → List KorePattern
members s = conjoined_terms s ++ conjoined_predicates s

with_part : KoreSort → KorePattern → KorePattern → KorePattern
with_part sort s q = conjunction sort (patterns_of (conjoined_terms s ++ conjoined_predicates s ++ q ∷ []))

as_listed : (s q : KorePattern) → all_conjuncts (patterns_of (members s ++ q ∷ [])) ≡ members s ++ conjuncts q
unfolding members
as_listed s q = conjuncts_listed (members s) (q ∷ []) (all_append (λ r. conjuncts r ≡ r ∷ []) (conjoined_terms s) (conjoined_predicates s)
    (all_filter (λ r. conjuncts r ≡ r ∷ []) is_term (conjuncts s) (single s)) (all_filter (λ r. conjuncts r ≡ r ∷ []) (λ r. not (is_term r)) (conjuncts s) (single s)))
    ∙ ap (λ zs. members s ++ zs) (append-nil (conjuncts q))

all_of : {X : Type 0} (P : X → Type 0) (xs : List X) → ((x : X) → P x) → AllByRecursion P xs
all_of P [] f = tt
all_of P (x ∷ xs) f = (f x, all_of P xs f)

opposite : (b : Bool) → not b ≡ true → b ≡ false
opposite true h = absurd (true_is_false (sym h))
opposite false h = refl

child_terms : (sort : KoreSort) (s q : KorePattern) → is_predicate q ≡ true → conjoined_terms (with_part sort s q) ≡ conjoined_terms s
unfolding with_part members
child_terms sort s q pred =
    let cs : List KorePattern = conjuncts s in
    ap (filter is_term) (as_listed s q)
    ∙ filter_append is_term (members s) (conjuncts q)
    ∙ ap (λ zs. filter is_term (members s) ++ zs) (filter_none is_term (conjuncts q) (no_terms q pred))
    ∙ append-nil (filter is_term (members s))
    ∙ filter_append is_term (conjoined_terms s) (conjoined_predicates s)
    ∙ ap (λ zs. filter is_term (conjoined_terms s) ++ zs) (filter_other is_term (λ r. not (is_term r)) cs (all_of (λ x. not (is_term x) ≡ true → is_term x ≡ false) cs (λ x. opposite (is_term x))))
    ∙ append-nil (filter is_term (conjoined_terms s))
    ∙ filter_twice is_term cs

child_predicates : (sort : KoreSort) (s q : KorePattern) → is_predicate q ≡ true → conjoined_predicates (with_part sort s q) ≡ conjoined_predicates s ++ conjuncts q
unfolding with_part members
child_predicates sort s q pred =
    let test : KorePattern → Bool = λ r. not (is_term r) in
    let cs : List KorePattern = conjuncts s in
    ap (filter test) (as_listed s q)
    ∙ filter_append test (members s) (conjuncts q)
    ∙ ap (λ zs. filter test (members s) ++ zs) (filter_all test (conjuncts q) (all_map (λ r. is_term r ≡ false) (λ r. test r ≡ true) (conjuncts q) (λ r e. rw e refl) (no_terms q pred)))
    ∙ ap (λ zs. zs ++ conjuncts q) (filter_append test (conjoined_terms s) (conjoined_predicates s)
    ∙ ap (λ zs. zs ++ filter test (conjoined_predicates s)) (filter_other test is_term cs (all_of (λ x. is_term x ≡ true → test x ≡ false) cs (λ x e. rw e refl)))
    ∙ filter_twice test cs)

-- an instance of the child is one of s where the part's predicate is true
child_met : (g : KoreSignature) (v : Valuation) (sort : KoreSort) (s q t : KorePattern) (c : Value) → is_predicate q ≡ true → conjoined_terms s ≡ t ∷ [] → IsInstance g v s c → IsTrueUnder g v q → IsInstance g v (with_part sort s q) c
unfolding with_part
child_met g v sort s q t c pred one met true_there =
    let h : IsConjunctionInstance g v s c = conjunction_of g v s t c one met in
    record {
      term = subst (λ ts. IsInstanceOfOne g v ts c) (sym (child_terms sort s q pred)) h.term;
      predicates = subst (AllByRecursion (IsTrueUnder g v)) (sym (child_predicates sort s q pred)) (all_append (IsTrueUnder g v) (conjoined_predicates s) (conjuncts q) h.predicates (of_truth g v q true_there));
    }

met_child : (g : KoreSignature) (v : Valuation) (sort : KoreSort) (s q t : KorePattern) (c : Value) → is_predicate q ≡ true → conjoined_terms s ≡ t ∷ [] → IsInstance g v (with_part sort s q) c → IsInstance g v s c
unfolding with_part
met_child g v sort s q t c pred one met = met_of g v s t c one (record {
  term = subst (λ ts. IsInstanceOfOne g v ts c) (child_terms sort s q pred) met.term;
  predicates = all_left (IsTrueUnder g v) (conjoined_predicates s) (conjuncts q) (subst (AllByRecursion (IsTrueUnder g v)) (child_predicates sort s q pred) met.predicates);
})

-- ---- variables of the child

-- what holds of the variables of each member holds of all
all_listed : (P : SortedName → Type 0) (ps : List KorePattern) → AllByRecursion (λ p. AllByRecursion P (free_variables p)) ps → AllByRecursion P (all_free_variables (patterns_of ps))
all_listed P [] a = tt
all_listed P (p ∷ ps) a = all_append P (free_variables p) (all_free_variables (patterns_of ps)) a.0 (all_listed P ps a.1)

each_listed : (P : SortedName → Type 0) (ps : List KorePattern) → AllByRecursion P (all_free_variables (patterns_of ps)) → AllByRecursion (λ p. AllByRecursion P (free_variables p)) ps
each_listed P [] a = tt
each_listed P (p ∷ ps) a = (all_left P (free_variables p) (all_free_variables (patterns_of ps)) a, each_listed P ps (all_right P (free_variables p) (all_free_variables (patterns_of ps)) a))

-- what holds of the variables of s and of q holds of the child's
of_child : (P : SortedName → Type 0) (sort : KoreSort) (s q : KorePattern) → AllByRecursion P (free_variables s) → AllByRecursion P (free_variables q) → AllByRecursion P (free_variables (with_part sort s q))
unfolding with_part members
of_child P sort s q a b =
    let each : AllByRecursion (λ r. AllByRecursion P (free_variables r)) (conjuncts s) = of_conjuncts P s a in
    all_listed P (members s ++ q ∷ []) (all_append (λ r. AllByRecursion P (free_variables r)) (members s) (q ∷ [])
    (all_append (λ r. AllByRecursion P (free_variables r)) (conjoined_terms s) (conjoined_predicates s)
    (all_filter (λ r. AllByRecursion P (free_variables r)) is_term (conjuncts s) each)
    (all_filter (λ r. AllByRecursion P (free_variables r)) (λ r. not (is_term r)) (conjuncts s) each))
    (b, tt))

-- and back for q's
part_of_child : (P : SortedName → Type 0) (sort : KoreSort) (s q : KorePattern) → AllByRecursion P (free_variables (with_part sort s q)) → AllByRecursion P (free_variables q)
unfolding with_part members
part_of_child P sort s q a = (all_right (λ r. AllByRecursion P (free_variables r)) (members s) (q ∷ []) (each_listed P (members s ++ q ∷ []) a)).0

-- ---- one part

-- the instance under values that make the part's predicate true is one of the child
in_part : (m : Theory) (sort : KoreSort) (s t q term : KorePattern) (v : Valuation) (c : Value) → conjoined_terms s ≡ term ∷ [] → is_predicate q ≡ true → HasNewNames s t q →
    GivesSorts m.signature v (free_variables s) → IsInstance m.signature v s c → (w : Valuation) → AgreesOff (variables_beyond s t) v w → IsTrueOver m.signature t w q → IsOver m.signature s v (with_part sort s q) c
in_part m sort s t q term v c one pred names sorts met w vw part = record {
  chosen = chosen;
  agrees = λ y e. back_old beyond v part.chosen y e;
  sorts = of_child (λ x. HasSort m.signature x.sort (chosen x.name)) sort s q (sorts_stay m.signature (free_variables s) v chosen on_s sorts) (sorts_stay m.signature (free_variables q) part.chosen chosen on_q part.sorts);
  met = child_met m.signature chosen sort s q term c pred one (same_pattern_instance m.signature s v chosen c on_s met) ((same_truth m.signature q part.chosen chosen on_q).0 part.holds);
}
  where
    child : KorePattern
    child = with_part sort s q

    beyond : List SortedName
    beyond = variables_beyond s child

    chosen : Valuation
    chosen = back_to beyond v part.chosen

    on_s : AgreesOn (free_variables s) v chosen
    on_s = all_map (λ x. is_named x.name (free_variables s) ≡ true) (λ x. chosen x.name ≡ v x.name) (free_variables s) (λ x h. back_old beyond v part.chosen x.name (not_beyond s child x.name h)) (members_named (free_variables s))

    named_q : AllByRecursion (λ x. is_named x.name (free_variables child) ≡ true) (free_variables q)
    named_q = part_of_child (λ x. is_named x.name (free_variables child) ≡ true) sort s q (members_named (free_variables child))

    same : (y : Text) → is_named y (free_variables child) ≡ true → chosen y ≡ part.chosen y
    same y h = elim (is_named_or y beyond) [
      | inl e ↦ back_new beyond v part.chosen y e
      | inr e ↦ by_s (kept_in s y (free_variables child) h e) e
    ]
      where
        by_s : is_named y (free_variables s) ≡ true → is_named y beyond ≡ false → chosen y ≡ part.chosen y
        by_s free e = back_old beyond v part.chosen y e ∙ sym (vw y (not_beyond s t y free)) ∙ sym (part.agrees y (not_absent s y (variables_beyond t q) free names))

    on_q : AgreesOn (free_variables q) part.chosen chosen
    on_q = all_map (λ x. is_named x.name (free_variables child) ≡ true) (λ x. chosen x.name ≡ part.chosen x.name) (free_variables q) (λ x h. same x.name h) named_q

-- an instance of the child is one of s
from_part : (m : Theory) (sort : KoreSort) (s q term : KorePattern) (v : Valuation) (c : Value) → conjoined_terms s ≡ term ∷ [] → is_predicate q ≡ true → IsOver m.signature s v (with_part sort s q) c → IsInstance m.signature v s c
from_part m sort s q term v c one pred child = same_pattern_instance m.signature s child.chosen v c
    (all_map (λ x. is_named x.name (free_variables s) ≡ true) (λ x. v x.name ≡ child.chosen x.name) (free_variables s) (λ x h. sym (child.agrees x.name (not_beyond s (with_part sort s q) x.name h))) (members_named (free_variables s)))
    (met_child m.signature child.chosen sort s q term c pred one child.met)

-- ---- top is no part of its own

by_form : (P : KorePattern → Type 0) (sort : KoreSort) (s q : KorePattern) → P s → P (with_part sort s q) → P (split_child sort s q)
unfolding with_part
by_form P sort s (top a) h k = h
by_form P sort s _ h k = k

itself_in : (m : Theory) (s : KorePattern) (v : Valuation) (c : Value) → GivesSorts m.signature v (free_variables s) → IsInstance m.signature v s c → IsOver m.signature s v s c
itself_in m s v c sorts met = record { chosen = v; agrees = λ y e. refl; sorts = sorts; met = met }

from_itself : (m : Theory) (s : KorePattern) (v : Valuation) (c : Value) → IsOver m.signature s v s c → IsInstance m.signature v s c
from_itself m s v c child = same_pattern_instance m.signature s child.chosen v c
    (all_map (λ x. is_named x.name (free_variables s) ≡ true) (λ x. v x.name ≡ child.chosen x.name) (free_variables s) (λ x h. sym (child.agrees x.name (not_beyond s s x.name h))) (members_named (free_variables s))) child.met

-- ---- the split

a_case : (m : Theory) (c : Value) (rs : List RewriteRule) → AnyByRecursion (λ r. HasTurn m r c) rs → (id : Text) × AnyByRecursion (λ r. (r.id ≡ id) × HasTurn m r c) rs
a_case m c [] a = absurd a
a_case m c (r ∷ rs) a = elim a [ inl h ↦ (r.id, inl (refl, h)) | inr h ↦ let rest : (id : Text) × AnyByRecursion (λ r. (r.id ≡ id) × HasTurn m r c) rs = a_case m c rs h in (rest.0, inr rest.1) ]

pub any_of_one : {X : Type 0} (P : X → Type 0) (xs : List X) → OfOneAlone P xs → AnyByRecursion P xs
any_of_one P [] h = h
any_of_one P (x ∷ xs) h = elim h [ inl a ↦ inl a.0 | inr b ↦ inr (any_of_one P xs b.1) ]

-- no instance is without a case
some_case : (m : Theory) (c : Value) → ¬ ((case : Option Text) → ¬ IsCase m case c)
some_case m c none = none None (none_fire m c (none_of (λ r. HasTurn m r c) m.rules (λ turn. let case : (id : Text) × AnyByRecursion (λ r. (r.id ≡ id) × HasTurn m r c) m.rules = a_case m c m.rules turn in none (Some case.0) case.1)))

fresh_or_kept : (s t q : KorePattern) → HasNewNames s s t → HasNewNames s t q → AllByRecursion (λ x. (is_named x.name (free_variables s) ≡ true) ⊎ IsFreshName x.name) (free_variables q)
fresh_or_kept s t q new_t new_q = all_map (λ x. is_named x.name (free_variables q) ≡ true) (λ x. (is_named x.name (free_variables s) ≡ true) ⊎ IsFreshName x.name) (free_variables q) (λ x h. at x.name h) (members_named (free_variables q))
  where
    fresh : AllByRecursion (λ x. IsFreshName x.name) (variables_beyond s q)
    fresh = fresh_from s t q new_t new_q

    at : (y : Text) → is_named y (free_variables q) ≡ true → (is_named y (free_variables s) ≡ true) ⊎ IsFreshName y
    at y h = elim (is_named_or y (variables_beyond s q)) [ inl e ↦ inr (by_name IsFreshName y (variables_beyond s q) e fresh) | inr e ↦ inl (kept_in s y (free_variables q) h e) ]

fresh_beyond : (s : KorePattern) (ys : List SortedName) → AllByRecursion (λ x. (is_named x.name (free_variables s) ≡ true) ⊎ IsFreshName x.name) ys → AllByRecursion (λ x. IsFreshName x.name) (filter (λ x. not (is_named x.name (free_variables s))) ys)
fresh_beyond s [] a = tt
fresh_beyond s (y ∷ ys) a = at (is_named y.name (free_variables s)) refl a.0 (fresh_beyond s ys a.1)
  where
    at : (b : Bool) → is_named y.name (free_variables s) ≡ b → (is_named y.name (free_variables s) ≡ true) ⊎ IsFreshName y.name → AllByRecursion (λ x. IsFreshName x.name) (filter (λ x. not (is_named x.name (free_variables s))) ys) → AllByRecursion (λ x. IsFreshName x.name) (filter (λ x. not (is_named x.name (free_variables s))) (y ∷ ys))
    at true e h rest = rw e rest
    at false e h rest = rw e (elim h [ inl k ↦ absurd (true_is_false (sym k ∙ e)) | inr k ↦ k ], rest)

names_of_part : (sort : KoreSort) (s t q : KorePattern) → HasNewNames s s t → HasNewNames s t q → AllByRecursion (λ x. IsFreshName x.name) (variables_beyond s (with_part sort s q))
names_of_part sort s t q new_t new_q = fresh_beyond s (free_variables (with_part sort s q))
    (of_child (λ x. (is_named x.name (free_variables s) ≡ true) ⊎ IsFreshName x.name) sort s q
    (all_map (λ x. is_named x.name (free_variables s) ≡ true) (λ x. (is_named x.name (free_variables s) ≡ true) ⊎ IsFreshName x.name) (free_variables s) (λ x h. inl h) (members_named (free_variables s)))
    (fresh_or_kept s t q new_t new_q))

names_of_itself : (s : KorePattern) → AllByRecursion (λ x. IsFreshName x.name) (variables_beyond s s)
names_of_itself s = fresh_beyond s (free_variables s) (all_map (λ x. is_named x.name (free_variables s) ≡ true) (λ x. (is_named x.name (free_variables s) ≡ true) ⊎ IsFreshName x.name) (free_variables s) (λ x h. inl h) (members_named (free_variables s)))

pub next_states_split : (m : Theory) (sort : KoreSort) (s t term : KorePattern) (nexts : List NextState) → conjoined_terms s ≡ term ∷ [] → Leads m s t 0 → AreNextStates m s t nexts → SplitSays m s (map (λ n. split_child sort s n.predicate) nexts)
next_states_split m sort s t term nexts one leads are = record {
  divides = λ v c sorts met none. some_case m c (λ case is. no_part v c sorts met none (seen_from m s t leads v c sorts met) case is);
  only = all_mapped (λ n. split_child sort s n.predicate) (λ s'. (v : Valuation) (c : Value) → GivesSorts m.signature v (free_variables s) → IsOver m.signature s v s' c → IsInstance m.signature v s c) nexts
      (all_map (λ n. is_predicate n.predicate ≡ true) (λ n. (v : Valuation) (c : Value) → GivesSorts m.signature v (free_variables s) → IsOver m.signature s v (split_child sort s n.predicate) c → IsInstance m.signature v s c) nexts
      (λ n pred v c sorts. by_form (λ p. IsOver m.signature s v p c → IsInstance m.signature v s c) sort s n.predicate (from_itself m s v c) (from_part m sort s n.predicate term v c one pred))
      are.predicates);
  names = all_mapped (λ n. split_child sort s n.predicate) (λ s'. AllByRecursion (λ x. IsFreshName x.name) (variables_beyond s s')) nexts
      (all_map (λ n. HasNewNames s t n.state × HasNewNames s t n.predicate) (λ n. AllByRecursion (λ x. IsFreshName x.name) (variables_beyond s (split_child sort s n.predicate))) nexts
      (λ n h. by_form (λ p. AllByRecursion (λ x. IsFreshName x.name) (variables_beyond s p)) sort s n.predicate (names_of_itself s) (names_of_part sort s t n.predicate leads.names h.1))
      are.names);
}
  where
    no_part : (v : Valuation) (c : Value) → GivesSorts m.signature v (free_variables s) → IsInstance m.signature v s c → AllByRecursion (λ s'. ¬ IsOver m.signature s v s' c) (map (λ n. split_child sort s n.predicate) nexts) →
        SeenFrom m s t v c → (case : Option Text) → ¬ IsCase m case c
    no_part v c sorts met none seen case is =
        any_all (λ s'. IsOver m.signature s v s' c) (λ s'. ¬ IsOver m.signature s v s' c) ⊥ (map (λ n. split_child sort s n.predicate) nexts) (λ s' h k. k h)
        (any_mapped (λ n. split_child sort s n.predicate) (λ s'. IsOver m.signature s v s' c) nexts
        (any_map_all (λ n. (n.rule ≡ case) × IsTrueOver m.signature t seen.at n.predicate) (λ n. (is_predicate n.predicate ≡ true) × (HasNewNames s t n.state × HasNewNames s t n.predicate)) (λ n. IsOver m.signature s v (split_child sort s n.predicate) c) nexts
        (λ n h part. by_form (λ p. IsOver m.signature s v p c) sort s n.predicate (itself_in m s v c sorts met) (in_part m sort s t n.predicate term v c one h.0 h.1.1 sorts met seen.at seen.agrees part.1))
        (all_both (λ n. is_predicate n.predicate ≡ true) (λ n. HasNewNames s t n.state × HasNewNames s t n.predicate) nexts are.predicates are.names)
        (any_of_one (λ n. (n.rule ≡ case) × IsTrueOver m.signature t seen.at n.predicate) nexts (are.parts.divided seen.at c (seen.sorts, (seen.given, tt)) seen.met case is)))) none
