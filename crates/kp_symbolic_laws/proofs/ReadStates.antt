-- What is written for the state that a verified pattern is read as has no open call but those whose value leaves 128 bits.
use Rattle.std.proofs.Common.{◌≡◌, refl, sym, subst, ◌⊎◌, inl, inr, Bool, true, false, not, List, [], ◌∷◌, Some, None, IsPermutation}
use Rattle.std.specs.Prelude.{IsTrue}
use Rattle.std.specs.List.{AllByRecursion, Contains, list_all}
use Rattle.std.proofs.lemmas.List.Elements.{All-from_recursion, recursion_from_All, All-contains, All-contains_itself, All-weaker}
use Rattle.std.proofs.lemmas.List.Sorted.{All-permutation}
use Rattle.kp_kore.specs.Syntax.{KorePattern, KorePatterns, variable, set_variable, application, string_literal, literal, top, bottom, negation, next, conjunction, disjunction, implication, equivalence, rewriting, exists, forall, ceil, floor, equals, membership, mu, nu, no_patterns, next_pattern}
use Rattle.kp_kore.specs.Parts.{is_term, subpatterns, all_subpatterns}
use Rattle.kp_kore.specs.Signature.{KoreSignature, injection, meaning_of}
use Rattle.kp_kore.specs.Instance.{Valuation, is_predicate, instance, conjuncts, conjoined_predicates}
use Rattle.kp_kore.specs.Replies.{is_open_call, is_wide_value, IsComputed}
use Rattle.kp_kore.proofs.InstanceLemmas.{first_true, second_true}
use Rattle.kp_signature.specs.Places.{Place, part_at, after}
use Rattle.kp_signature.specs.Verify.{first_fault, members_fault}
use Rattle.kp_signature.proofs.FaultLemmas.{nothing_earlier, nothing_later}
use Rattle.kp_signature.proofs.ListLemmas.{all_filtered}
use Rattle.kp_compile.specs.Spelled.{injection_name, has_two_sorts}
use Rattle.kp_symbolic.specs.States.{SymbolicState}
use Rattle.kp_symbolic.specs.Folding.{folded}
use Rattle.kp_symbolic.specs.Writing.{InjectsWhereItStands, written_state}
use Rattle.kp_symbolic.specs.Solving.{opened_state, IsReadAs}
use Rattle.kp_symbolic.proofs.Distribution.{all_both}
use Rattle.kp_symbolic.proofs.Read.{conjuncts_read}
use Rattle.kp_symbolic.proofs.OpenedState.{opened_as}
use Rattle.kp_symbolic_laws.specs.Reordered.{AreReordered}
use Rattle.kp_symbolic_laws.proofs.Settled.{IsSettled}
use Rattle.kp_symbolic_laws.proofs.Fit.{IsFit, AreFit, Any, folded_settled, term_fit, predicate_fit}
use Rattle.kp_symbolic_laws.proofs.OpenedSettled.{IsSettledLiteral, AreSettledClauses, predicates_settled}
use Rattle.kp_symbolic_laws.proofs.WrittenFit.{IsRight, state_fit}
use Rattle.kp_symbolic_laws.proofs.SolvedSettled.{IsSettledState, solving_settled}

-- ---- each part of a fit pattern

mutual
  parts_right : (g : KoreSignature) (p : KorePattern) → IsFit g (IsRight g) p → AllByRecursion (IsRight g) (subpatterns p)
  parts_right g (variable x s) h = ((λ i o v. absurd (cc)), tt)
  parts_right g (set_variable x s) h = ((λ i o v. absurd (cc)), tt)
  parts_right g (application f ss ps) h = (h.1, all_parts_right g ps h.2)
  parts_right g (string_literal t) h = ((λ i o v. absurd (cc)), tt)
  parts_right g (literal s t) h = ((λ i o v. absurd (cc)), tt)
  parts_right g (top s) h = ((λ i o v. absurd (cc)), tt)
  parts_right g (bottom s) h = ((λ i o v. absurd (cc)), tt)
  parts_right g (negation s p) h = ((λ i o v. absurd (cc)), parts_right g p h)
  parts_right g (next s p) h = absurd h
  parts_right g (conjunction s ps) h = ((λ i o v. absurd (cc)), all_parts_right g ps h)
  parts_right g (disjunction s ps) h = ((λ i o v. absurd (cc)), all_parts_right g ps h)
  parts_right g (implication s p q) h = ((λ i o v. absurd (cc)), all_both (IsRight g) (subpatterns p) (subpatterns q) (parts_right g p h.0) (parts_right g q h.1))
  parts_right g (equivalence s p q) h = ((λ i o v. absurd (cc)), all_both (IsRight g) (subpatterns p) (subpatterns q) (parts_right g p h.0) (parts_right g q h.1))
  parts_right g (rewriting s p q) h = absurd h
  parts_right g (exists s x t p) h = ((λ i o v. absurd (cc)), parts_right g p h)
  parts_right g (forall s x t p) h = ((λ i o v. absurd (cc)), parts_right g p h)
  parts_right g (ceil a s p) h = ((λ i o v. absurd (cc)), parts_right g p h)
  parts_right g (floor a s p) h = ((λ i o v. absurd (cc)), parts_right g p h)
  parts_right g (equals a s p q) h = ((λ i o v. absurd (cc)), all_both (IsRight g) (subpatterns p) (subpatterns q) (parts_right g p h.0) (parts_right g q h.1))
  parts_right g (membership a s p q) h = ((λ i o v. absurd (cc)), all_both (IsRight g) (subpatterns p) (subpatterns q) (parts_right g p h.0) (parts_right g q h.1))
  parts_right g (mu x s p) h = absurd h
  parts_right g (nu x s p) h = absurd h

  all_parts_right : (g : KoreSignature) (ps : KorePatterns) → AreFit g (IsRight g) ps → AllByRecursion (IsRight g) (all_subpatterns ps)
  all_parts_right g no_patterns h = tt
  all_parts_right g (next_pattern p ps) h = all_both (IsRight g) (subpatterns p) (all_subpatterns ps) (parts_right g p h.0) (all_parts_right g ps h.1)

abbrev IsWideWhereOpen : KoreSignature → KorePattern → Type 0
IsWideWhereOpen g q = is_open_call g q ≡ true → (v : Valuation) → IsTrue (is_wide_value (instance g v q))

not_two : (b : Bool) → not b ≡ true → b ≡ false
not_two true e = absurd (cc)
not_two false e = refl

all_wide : (g : KoreSignature) (ps : List KorePattern) → (meaning_of g injection_name ≡ injection) ⊎ IsTrue (list_all (λ q. not (has_two_sorts q)) ps) → AllByRecursion (IsRight g) ps → AllByRecursion (IsWideWhereOpen g) ps
all_wide g [] i a = tt
all_wide g (p ∷ ps) (inl e) a = (a.0 (inl e), all_wide g ps (inl e) a.1)
all_wide g (p ∷ ps) (inr e) a =
    let rest = list_all (λ q. not (has_two_sorts q)) ps in
    (a.0 (inr (not_two (has_two_sorts p) (first_true (not (has_two_sorts p)) rest e))), all_wide g ps (inr (second_true (not (has_two_sorts p)) rest e)) a.1)

pub settled_is_computed : (g : KoreSignature) (s : SymbolicState) → IsSettledState g s → InjectsWhereItStands g (written_state g s) → IsComputed g (written_state g s)
settled_is_computed g s h i = all_wide g (subpatterns (written_state g s)) i (parts_right g (written_state g s) (state_fit g s h.term h.clauses))

-- ---- the state that is read

abbrev IsMember : KoreSignature → KorePattern → Type 0
IsMember g p = (c : Place) × (first_fault g c p ≡ None)

abbrev AreMembers : KoreSignature → KorePatterns → Type 0
AreMembers g ps = (c : Place) × (members_fault g c ps ≡ None)

members : (g : KoreSignature) (p : KorePattern) → IsMember g p → AllByRecursion (IsMember g) (conjuncts p)
members g p h = conjuncts_read (IsMember g) (AreMembers g) p
    (λ s ps i. (part_at i.0 s, nothing_later _ _ i.1))
    (λ q qs i. ((i.0, nothing_earlier _ _ i.1), (after q i.0, nothing_later (first_fault g i.0 q) _ i.1)))
    h

all_fit : (g : KoreSignature) (ps : List KorePattern) → AllByRecursion (λ q. IsMember g q × (not (is_term q) ≡ true)) ps → AllByRecursion (λ q. is_predicate q ≡ true) ps → AllByRecursion (IsFit g Any) ps
all_fit g [] a b = tt
all_fit g (p ∷ ps) a b = (predicate_fit g a.0.0.0 p a.0.0.1 b.0, all_fit g ps a.1 b.1)

pub opened_is_settled : (g : KoreSignature) (c : Place) (p : KorePattern) (s : SymbolicState) → first_fault g c p ≡ None → AllByRecursion (λ q. is_predicate q ≡ true) (conjoined_predicates p) → opened_state g p ≡ Some s → IsSettledState g s
opened_is_settled g c p s e b q =
    let o = opened_as g p s q in
    let all = members g p (c, e) in
    let one = (subst (AllByRecursion (λ x. IsMember g x × (is_term x ≡ true))) o.is_one (all_filtered (IsMember g) is_term (conjuncts p) all)).0 in
    let term : IsSettled g (folded g [] o.one) = folded_settled g [] o.one tt (term_fit g one.0.0 o.one one.0.1 one.1) in
    let fit = all_fit g (conjoined_predicates p) (all_filtered (IsMember g) (λ x. not (is_term x)) (conjuncts p) all) b in
    record {
      term = subst (IsSettled g) (sym o.term) term;
      clauses = subst (AreSettledClauses g) (sym o.clauses) (predicates_settled g (conjoined_predicates p) fit);
    }

pub read_is_settled : (g : KoreSignature) (c : Place) (p : KorePattern) (s : SymbolicState) → first_fault g c p ≡ None → AllByRecursion (λ q. is_predicate q ≡ true) (conjoined_predicates p) → IsReadAs g p s → IsSettledState g s
read_is_settled g c p s e b r = solving_settled g r.opened s (opened_is_settled g c p r.opened e b r.is_opened) r.solving

-- ---- clauses whose literals stand in another order

pub all_moved : {X : Type 0} (P : X → Type 0) (xs ys : List X) → IsPermutation xs ys → AllByRecursion P xs → AllByRecursion P ys
all_moved P xs ys moved all = recursion_from_All P ys (All-permutation P xs ys moved (All-from_recursion P xs all))

pub at_member : {X : Type 0} (P : X → Type 0) (xs : List X) (x : X) → AllByRecursion P xs → Contains xs x → P x
at_member P xs x all there = All-contains P xs x (All-from_recursion P xs all) there

pub of_members : {X : Type 0} (P : X → Type 0) (xs : List X) → ((x : X) → Contains xs x → P x) → AllByRecursion P xs
of_members P xs each = recursion_from_All P xs (All-weaker (Contains xs) P each xs (All-contains_itself xs))

reordered_settled : (g : KoreSignature) (s t : SymbolicState) → IsSettledState g s → t.term ≡ s.term → AreReordered s.clauses t.clauses → IsSettledState g t
reordered_settled g s t h e a =
    let P = AllByRecursion (IsSettledLiteral g) in
    record {
      term = subst (IsSettled g) (sym e) h.term;
      clauses = of_members P t.clauses (λ d there. let from = a d there in all_moved (IsSettledLiteral g) from.0 d from.2 (at_member P s.clauses from.0 h.clauses from.1));
    }

pub reordered_is_computed : (g : KoreSignature) (c : Place) (p : KorePattern) (s t : SymbolicState) → first_fault g c p ≡ None → AllByRecursion (λ q. is_predicate q ≡ true) (conjoined_predicates p) → IsReadAs g p s → t.term ≡ s.term → AreReordered s.clauses t.clauses → InjectsWhereItStands g (written_state g t) → IsComputed g (written_state g t)
reordered_is_computed g c p s t e b r q a i = settled_is_computed g t (reordered_settled g s t (read_is_settled g c p s e b r) q a) i
