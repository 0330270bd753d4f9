-- Along the whole of solving, the terms of a state are in normal form, and its literals are such as opening gives.
use Rattle.std.proofs.Common.{◌≡◌, sym, subst, ℕ, zero, suc, ◌+◌, Bool, true, false, not, ◌&&◌, List, [], ◌∷◌, ◌++◌, length, Option, Some, None}
use Rattle.std.specs.Prelude.{if◌then◌else◌, is_some}
use Rattle.std.specs.List.{AllByRecursion, Contains}
use Rattle.kp_kore.specs.Syntax.{KoreSort, KorePattern}
use Rattle.kp_kore.specs.Parts.{SortedName, is_term, free_variables}
use Rattle.kp_kore.specs.Signature.{KoreSignature}
use Rattle.kp_kore.specs.Instance.{is_named, is_predicate, conjuncts, conjoined_predicates}
use Rattle.kp_kore.specs.Foreign.{none_within, has_foreign_head}
use Rattle.kp_kore.proofs.TurnLemmas.{each_member}
use Rattle.kp_signature.specs.Places.{Place}
use Rattle.kp_signature.specs.Verify.{first_fault}
use Rattle.kp_signature.proofs.ListLemmas.{all_filtered}
use Rattle.kp_symbolic.specs.Terms.{unknown, Replaced, replacement_for}
use Rattle.kp_symbolic.specs.States.{Atom, same, has_head, quoted, Literal, clause_variables, SymbolicState}
use Rattle.kp_symbolic.specs.WellFormed.{IsWellSortedAtom, AreAtHand, IsFoldedAtom, IsFolded, IsWellFormed}
use Rattle.kp_symbolic.specs.Alike.{literals_same}
use Rattle.kp_symbolic.specs.Folding.{replaced}
use Rattle.kp_symbolic.specs.Opening.{literal_fact}
use Rattle.kp_symbolic.specs.Clauses.{distributed, is_too_large}
use Rattle.kp_symbolic.specs.Writing.{written_clause}
use Rattle.kp_symbolic.specs.Solving.{Equation, replacement, opened_with, all_opened_with, is_single, opened_clause, solved_clause, literals_in, solved_clauses, Solvable, first_solvable, solved_at, Solving, finished, goes_on, opened_state, IsReadAs}
use Rattle.kp_symbolic.proofs.Distribution.{all_both, kept_are}
use Rattle.kp_symbolic.proofs.Facts.{AllFacts, AllIn, clauses_have, Good}
use Rattle.kp_symbolic.proofs.OpenedState.{placed_as_they_are, opened_as}
use Rattle.kp_symbolic_laws.specs.Runs.{IsSortedState, kept_whole, IfKeptWhole, OfKeptWhole, OfKeptAt, IsPredicateAtom, IsWrittenOfThese}
use Rattle.kp_symbolic_laws.specs.Safe.{Formed, IsFormed, IsFormedState, IsNormal, PutNormal}
use Rattle.kp_symbolic_laws.proofs.NormalTerms.{normal_folded, folded_normal, replaced_normal}
use Rattle.kp_symbolic_laws.proofs.FormedFacts.{same_formed, test_formed}
use Rattle.kp_symbolic_laws.proofs.FormedEquations.{normal_clause}
use Rattle.kp_symbolic_laws.proofs.FormedOpened.{OfAmong, predicates_formed}
use Rattle.kp_symbolic_laws.proofs.Keeping.{put_into, by_case, whole_of_all, whole_also}
use Rattle.kp_symbolic.proofs.Found.{at_place, found_in}
use Rattle.kp_symbolic_laws.proofs.Course.{step_sorted}
use Rattle.kp_symbolic_laws.proofs.ReadState.{IsMember, members, both_read, opened_sorted}
use Rattle.kp_symbolic_laws.proofs.WrittenForms.{clause_predicate}
use Rattle.kp_symbolic_laws.proofs.WrittenVariables.{written_of_these}

-- ---- a literal with a normal term in a variable's place

put : (g : KoreSignature) (e : Equation) → IsNormal g e.term → PutNormal g (replacement e)
put g e n = (n, tt)

put_all : (g : KoreSignature) (e : Equation) (rs tail : List Replaced) → IsNormal g e.term → PutNormal g rs → PutNormal g tail → PutNormal g (put_into g e rs ++ tail)
put_all g e [] tail n a b = b
put_all g e (r ∷ rs) tail n a b = (replaced_normal g (replacement e) r.term (put g e n) a.0, put_all g e rs tail n a.1 b)

put_if : (g : KoreSignature) (e : Equation) (b : Bool) → IsNormal g e.term → PutNormal g (if b then replacement e else [])
put_if g e true n = put g e n
put_if g e false n = tt

atom_formed : (g : KoreSignature) (V : KorePattern → Type 0) (e : Equation) (alone b : Bool) (a : Atom) → IsNormal g e.term → IsFormed g V a → AllFacts (Formed g V) (opened_with g e alone b a)
atom_formed g V e alone b (same s t u) n h = same_formed g V alone b s (replaced g (replacement e) t) (replaced g (replacement e) u) (replaced_normal g (replacement e) t (put g e n) h.0) (replaced_normal g (replacement e) u (put g e n) h.1)
atom_formed g V e alone b (has_head x test) n h = test_formed g V b test (literal_fact b (has_head x test)) (replaced g (replacement e) (unknown x)) h h
atom_formed g V e alone b (quoted p rs) n h = (h.0, put_all g e rs (if is_named e.variable.name (free_variables p) && not (is_some (replacement_for rs e.variable.name)) then replacement e else []) n h.1 (put_if g e (is_named e.variable.name (free_variables p) && not (is_some (replacement_for rs e.variable.name))) n))

pub literals_formed : (g : KoreSignature) (V : KorePattern → Type 0) (e : Equation) (alone : Bool) (c : List Literal) → IsNormal g e.term → AllByRecursion (Formed g V) c → AllIn (Formed g V) (all_opened_with g e alone c)
literals_formed g V e alone [] n h = tt
literals_formed g V e alone (l ∷ c) n h = (atom_formed g V e alone l.holds l.atom n h.0, literals_formed g V e alone c n h.1)

-- ---- clauses

clause_formed : (g : KoreSignature) (V : KorePattern → Type 0) (sort : KoreSort) (e : Equation) (m : ℕ) (c : List Literal) → IsNormal g e.term → IfKeptWhole g e (λ d. V (written_clause g sort d)) m c → AllByRecursion (Formed g V) c → AllByRecursion (AllByRecursion (Formed g V)) (solved_clause g sort e m c)
clause_formed g V sort e m c n w h = by_case (AllByRecursion (AllByRecursion (Formed g V))) (V (written_clause g sort c)) (is_named e.variable.name (clause_variables c)) (is_too_large m (opened_clause g e c)) c (kept_whole g sort e c) (distributed (opened_clause g e c)) w
    (h, tt)
    (λ v. (((v, put g e n), tt), tt))
    (clauses_have (Formed g V) (opened_clause g e c) (literals_formed g V e (is_single c) c n h))

clauses_formed : (g : KoreSignature) (V : KorePattern → Type 0) (sort : KoreSort) (e : Equation) (m : ℕ) (o : Option ℕ) (cs : List (List Literal)) → IsNormal g e.term → OfKeptWhole g sort e (λ d. V (written_clause g sort d)) m o cs → AllByRecursion (AllByRecursion (Formed g V)) cs → AllByRecursion (AllByRecursion (Formed g V)) (solved_clauses g sort e m o cs)
clauses_formed g V sort e m o [] n w h = tt
clauses_formed g V sort e m (Some zero) (c ∷ cs) n w h = (h.0, clauses_formed g V sort e (m + length c) None cs n w h.1)
clauses_formed g V sort e m (Some (suc j)) (c ∷ cs) n w h =
    let first = solved_clause g sort e m c in
    let k = m + literals_in first in
    all_both (AllByRecursion (Formed g V)) first (solved_clauses g sort e k (Some j) cs) (clause_formed g V sort e m c n w.0 h.0) (clauses_formed g V sort e k (Some j) cs n w.1 h.1)
clauses_formed g V sort e m None (c ∷ cs) n w h =
    let first = solved_clause g sort e m c in
    let k = m + literals_in first in
    all_both (AllByRecursion (Formed g V)) first (solved_clauses g sort e k None cs) (clause_formed g V sort e m c n w.0 h.0) (clauses_formed g V sort e k None cs n w.1 h.1)

-- ---- states

pub step_formed : (g : KoreSignature) (V : KorePattern → Type 0) (s : SymbolicState) (o : Solvable) → IsFormedState g V s → first_solvable g s ≡ Some o → OfKeptAt g (λ x c. V (written_clause g x.sort c)) s o → IsFormedState g V (solved_at g o s)
step_formed g V s o k q w =
    let f = found_in g s o q in
    let n = normal_clause g V f.clause o.equation (at_place (AllByRecursion (Formed g V)) o.place s.clauses f.clause k.literals f.stands) f.gives in
    record {
      term = replaced_normal g (replacement o.equation) s.term (put g o.equation n) k.term;
      literals = kept_are literals_same (AllByRecursion (Formed g V)) [] 0 (solved_clauses g s.sort o.equation 0 (Some o.place) s.clauses) (clauses_formed g V s.sort o.equation 0 (Some o.place) s.clauses n w k.literals);
    }

pub opened_formed : (g : KoreSignature) (V : KorePattern → Type 0) (c : Place) (p : KorePattern) (s : SymbolicState) → OfAmong g (free_variables p) V → first_fault g c p ≡ None → none_within (has_foreign_head g) p ≡ true → AllByRecursion (λ q. is_predicate q ≡ true) (conjoined_predicates p) → opened_state g p ≡ Some s → IsFormedState g V s
opened_formed g V c p s v e k b q =
    let hand = free_variables p in
    let o = opened_as g p s q in
    let all = members g hand p (record { place = c; faultless = e; meant = k; placed = placed_as_they_are g hand }, each_member (Contains hand) hand (λ x i. i)) in
    let reads = both_read g hand (conjoined_predicates p) (all_filtered (IsMember g hand) (λ x. not (is_term x)) (conjuncts p) all) b in
    record {
      term = subst (IsNormal g) (sym o.term) (folded_normal g [] o.one tt);
      literals = subst (AllByRecursion (AllByRecursion (Formed g V))) (sym o.clauses) (predicates_formed g V hand (conjoined_predicates p) v reads);
    }

-- ---- states whose literals that aren't opened are predicates

abbrev pub IsPredicate : KorePattern → Type 0
IsPredicate p = is_predicate p ≡ true

formed_predicate : (g : KoreSignature) (a : Atom) → IsFormed g IsPredicate a → IsPredicateAtom a
formed_predicate g (same s t u) h = tt
formed_predicate g (has_head x test) h = tt
formed_predicate g (quoted p rs) h = h.0

formed_predicates : (g : KoreSignature) (c : List Literal) → AllByRecursion (Formed g IsPredicate) c → AllByRecursion (λ l. IsPredicateAtom l.atom) c
formed_predicates g [] h = tt
formed_predicates g (l ∷ c) h = (formed_predicate g l.atom h.0, formed_predicates g c h.1)

pub record IsTidyState (g : KoreSignature) (s : SymbolicState) : Type 0 where
  pub sorted : IsSortedState g s
  pub formed : IsFormedState g IsPredicate s

pub step_tidy : (g : KoreSignature) (s : SymbolicState) (o : Solvable) → IsTidyState g s → first_solvable g s ≡ Some o → IsTidyState g (solved_at g o s)
step_tidy g s o k q =
    let these = whole_of_all g s.sort o.equation (λ c. IsPredicate (written_clause g s.sort c)) (AllByRecursion (Formed g IsPredicate)) 0 (Some o.place) s.clauses (λ c h. clause_predicate g s.sort c (formed_predicates g c h)) k.formed.literals in
    let plain = whole_of_all g s.sort o.equation (λ c. AllByRecursion (λ l. IsPredicateAtom l.atom) c) (AllByRecursion (Formed g IsPredicate)) 0 (Some o.place) s.clauses (formed_predicates g) k.formed.literals in
    record {
      sorted = step_sorted g s o k.sorted q (whole_also g s.sort o.equation (λ c. AllByRecursion (λ l. IsPredicateAtom l.atom) c) (IsWrittenOfThese g s) (AllByRecursion (Good g s.variables)) 0 (Some o.place) s.clauses (λ c h a. written_of_these g s c h a) k.sorted.literals plain);
      formed = step_formed g IsPredicate s o k.formed q these;
    }

pub solving_tidy : (g : KoreSignature) (s t : SymbolicState) → IsTidyState g s → Solving g s t → IsTidyState g t
solving_tidy g s _ k (finished _ q) = k
solving_tidy g s t k (goes_on _ _ o q r) = solving_tidy g (solved_at g o s) t (step_tidy g s o k q) r

pub read_tidy : (g : KoreSignature) (c : Place) (p : KorePattern) (s : SymbolicState) → first_fault g c p ≡ None → none_within (has_foreign_head g) p ≡ true → AllByRecursion (λ q. is_predicate q ≡ true) (conjoined_predicates p) → IsReadAs g p s → IsTidyState g s
read_tidy g c p s e k b r = solving_tidy g r.opened s
    (record { sorted = opened_sorted g c p r.opened e k b r.is_opened; formed = opened_formed g IsPredicate c p r.opened (λ q h. h.predicate) e k b r.is_opened })
    r.solving

-- ---- well-formed states

put_folded : (g : KoreSignature) (rs : List Replaced) → PutNormal g rs → AllByRecursion (λ r. IsFolded g r.term) rs
put_folded g [] a = tt
put_folded g (r ∷ rs) a = (normal_folded g r.term a.0, put_folded g rs a.1)

atom_folded : (g : KoreSignature) (V : KorePattern → Type 0) (a : Atom) → IsFormed g V a → IsFoldedAtom g a
atom_folded g V (same s t u) h = (normal_folded g t h.0, normal_folded g u h.1)
atom_folded g V (has_head x test) h = tt
atom_folded g V (quoted p rs) h = put_folded g rs h.1

literals_folded : (g : KoreSignature) (V : KorePattern → Type 0) (c : List Literal) → AllByRecursion (Formed g V) c → AllByRecursion (λ l. IsFoldedAtom g l.atom) c
literals_folded g V [] h = tt
literals_folded g V (l ∷ c) h = (atom_folded g V l.atom h.0, literals_folded g V c h.1)

clauses_folded : (g : KoreSignature) (V : KorePattern → Type 0) (cs : List (List Literal)) → AllByRecursion (AllByRecursion (Formed g V)) cs → AllByRecursion (AllByRecursion (λ l. IsFoldedAtom g l.atom)) cs
clauses_folded g V [] h = tt
clauses_folded g V (c ∷ cs) h = (literals_folded g V c h.0, clauses_folded g V cs h.1)

literals_sorted : (g : KoreSignature) (hand : List SortedName) (c : List Literal) → AllByRecursion (Good g hand) c → AllByRecursion (λ l. IsWellSortedAtom g l.atom) c
literals_sorted g hand [] h = tt
literals_sorted g hand (l ∷ c) h = (h.0.0, literals_sorted g hand c h.1)

clauses_sorted : (g : KoreSignature) (hand : List SortedName) (cs : List (List Literal)) → AllByRecursion (AllByRecursion (Good g hand)) cs → AllByRecursion (AllByRecursion (λ l. IsWellSortedAtom g l.atom)) cs
clauses_sorted g hand [] h = tt
clauses_sorted g hand (c ∷ cs) h = (literals_sorted g hand c h.0, clauses_sorted g hand cs h.1)

literals_at_hand : (g : KoreSignature) (hand : List SortedName) (c : List Literal) → AllByRecursion (Good g hand) c → AreAtHand (clause_variables c) hand
literals_at_hand g hand [] h = tt
literals_at_hand g hand (l ∷ c) h = all_both (λ x. Contains hand x) _ (clause_variables c) h.0.1 (literals_at_hand g hand c h.1)

clauses_at_hand : (g : KoreSignature) (hand : List SortedName) (cs : List (List Literal)) → AllByRecursion (AllByRecursion (Good g hand)) cs → AllByRecursion (λ c. AreAtHand (clause_variables c) hand) cs
clauses_at_hand g hand [] h = tt
clauses_at_hand g hand (c ∷ cs) h = (literals_at_hand g hand c h.0, clauses_at_hand g hand cs h.1)

pub tidy_well_formed : (g : KoreSignature) (s : SymbolicState) → IsTidyState g s → IsWellFormed g s
tidy_well_formed g s k = record {
  term = k.sorted.term;
  literals = clauses_sorted g s.variables s.clauses k.sorted.literals;
  folded_term = normal_folded g s.term k.formed.term;
  folded_clauses = clauses_folded g IsPredicate s.clauses k.formed.literals;
  term_at_hand = k.sorted.term_at_hand;
  clauses_at_hand = clauses_at_hand g s.variables s.clauses k.sorted.literals;
  one_sort_each = k.sorted.one_sort_each;
}

pub read_well_formed : (g : KoreSignature) (c : Place) (p : KorePattern) (s : SymbolicState) → first_fault g c p ≡ None → none_within (has_foreign_head g) p ≡ true → AllByRecursion (λ q. is_predicate q ≡ true) (conjoined_predicates p) → IsReadAs g p s → IsWellFormed g s
read_well_formed g c p s e k b r = tidy_well_formed g s (read_tidy g c p s e k b r)
