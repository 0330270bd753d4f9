-- What is written for a state has its instances, where each of its literals is written right.
use Rattle.std.proofs.Common.{◌≡◌, refl, sym, ◌∙◌, ap, subst, inl, inr, Bool, true, false, not, List, [], ◌∷◌, ◌++◌, ◌↔◌}
use Rattle.std.specs.List.{AllByRecursion, Contains, flat_map, filter, list_all}
use Rattle.std.proofs.lemmas.List.Folds.{list_all-append}
use Rattle.kp_kore.specs.Syntax.{KoreSort, KorePattern, variable, application, literal, negation, conjunction, equals, next_pattern}
use Rattle.kp_kore.specs.Parts.{SortedName, is_term, free_variables, subpatterns, all_subpatterns}
use Rattle.kp_kore.specs.Signature.{KoreSignature, injection, meaning_of}
use Rattle.kp_kore.specs.Instance.{Valuation, GivesSorts, instance, IsTrueUnder, AllTrueUnder, are_predicates, conjuncts, conjoined_terms, conjoined_predicates, IsInstanceOfOne, IsInstance}
use Rattle.kp_kore.specs.Value.{Value}
use Rattle.kp_kore.proofs.Conjuncts.{filter_none, filter_all, no_terms, truth_of, of_truth}
use Rattle.kp_kore.proofs.ClaimRuleLemmas.{met_of, conjunction_of}
use Rattle.kp_compile.specs.Spelled.{injection_name, has_two_sorts}
use Rattle.kp_compile.proofs.SpelledForms.{both_true}
use Rattle.kp_compile.proofs.SpelledMeaning.{InjectsWell}
use Rattle.kp_symbolic.specs.Terms.{SymbolicTerm, unknown, offset, known, headed, Replaced, replacement_for, term_instance}
use Rattle.kp_symbolic.specs.States.{one_head, head_of_sort, Atom, same, has_head, quoted, atom_variables, variables_for, AreGiven, Literal, SymbolicState, AreTrue, IsStateInstance}
use Rattle.kp_symbolic.specs.WellFormed.{IsWellSortedAtom, AreAtHand}
use Rattle.kp_symbolic.specs.Writing.{IsSaid, written_term, written_atom, written_signed, written_literal, is_solved_by, is_second_solved, turned_if, written_literals, written_clause, written_clauses, written_state}
use Rattle.kp_symbolic.proofs.Distribution.{all_first, all_second}
use Rattle.kp_symbolic.proofs.Facts.{Good}
use Rattle.kp_symbolic.proofs.Written.{written_is, equality_is_said, clause_said, clauses_said, turned, injects_right, injects_left}
use Rattle.kp_symbolic_laws.specs.Runs.{IsPredicateAtom, IsWrittenAtom, IsWrittenRight, IsSortedState}
use Rattle.kp_symbolic_laws.proofs.HeadTests.{constructor_said, sort_said}
use Rattle.kp_symbolic_laws.proofs.Step.{at_hand_given}
use Rattle.kp_symbolic_laws.proofs.WrittenUnder.{Well, well_behind, written_is_term, written_says}
use Rattle.kp_symbolic_laws.proofs.WrittenForms.{clauses_are_predicates}

-- the variables that are at hand have values of their sorts, also those that stand for others
pub stand_given : (g : KoreSignature) (v : Valuation) (hand : List SortedName) (rs : List Replaced) (xs : List SortedName) → GivesSorts g v hand → AreAtHand (flat_map (λ x. variables_for x (replacement_for rs x.name)) xs) hand → AreGiven g rs v xs
stand_given g v hand rs [] h a = tt
stand_given g v hand rs (x ∷ xs) h a =
    let At = λ (z : SortedName). Contains hand z in
    let these = variables_for x (replacement_for rs x.name) in
    let others = flat_map (λ z. variables_for z (replacement_for rs z.name)) xs in
    (at_hand_given g v hand these h (all_first At these others a), stand_given g v hand rs xs h (all_second At these others a))

atom_said : (g : KoreSignature) (v : Valuation) (hand : List SortedName) (sort : KoreSort) (a : Atom) → Well g (written_atom g sort a) → GivesSorts g v hand → IsWellSortedAtom g a → AreAtHand (atom_variables a) hand → IsWrittenAtom g a → IsSaid g v sort a
atom_said g v hand sort (same s t u) i h w a o =
    let j = well_behind g (written_atom g sort (same s t u)) (subpatterns (written_term g s t) ++ subpatterns (written_term g s u)) i in
    equality_is_said g v sort s t u w.0 w.1 (injects_left g (subpatterns (written_term g s t)) (subpatterns (written_term g s u)) j) (injects_right g (subpatterns (written_term g s t)) (subpatterns (written_term g s u)) j)
atom_said g v hand sort (has_head x (one_head c)) i h w a o = constructor_said g v sort x c (at_hand_given g v hand (x ∷ []) h a).0 i o.0 o.1
atom_said g v hand sort (has_head x (head_of_sort s)) i h w a o = sort_said g v sort s x (at_hand_given g v hand (x ∷ []) h a).0 i
atom_said g v hand sort (quoted p rs) i h w a o = written_says g rs v p i (record { predicate = o.0.0; sound = o.0.1; placed = w; given = stand_given g v hand rs (free_variables p) h a }) o.1

signed_well : (g : KoreSignature) (sort : KoreSort) (b : Bool) (p : KorePattern) → Well g (written_signed sort b p) → Well g p
signed_well g sort true p j = j
signed_well g sort false p j = well_behind g (negation sort p) (subpatterns p) j

literals_said : (g : KoreSignature) (v : Valuation) (hand : List SortedName) (sort : KoreSort) (c : List Literal) → InjectsWell g (all_subpatterns (written_literals g sort c)) → GivesSorts g v hand → AllByRecursion (Good g hand) c → AllByRecursion (λ l. IsWrittenAtom g l.atom) c → AllByRecursion (λ l. IsSaid g v sort l.atom) c
literals_said g v hand sort [] i h w o = tt
literals_said g v hand sort (l ∷ c) i h w o =
    let these = subpatterns (written_literal g sort l) in
    let others = all_subpatterns (written_literals g sort c) in
    (atom_said g v hand sort l.atom (signed_well g sort l.holds (written_atom g sort l.atom) (injects_left g these others i)) h w.0.0 w.0.1 o.0, literals_said g v hand sort c (injects_right g these others i) h w.1 o.1)

-- an equation whose variable stands first has the sides that it had
pub joined_well : (g : KoreSignature) (ps qs : List KorePattern) → InjectsWell g ps → InjectsWell g qs → InjectsWell g (ps ++ qs)
joined_well g ps qs (inl e) j = inl e
joined_well g ps qs (inr e) (inl f) = inl f
joined_well g ps qs (inr e) (inr f) = inr (list_all-append (λ q. not (has_two_sorts q)) ps qs ∙ both_true (list_all (λ q. not (has_two_sorts q)) ps) (list_all (λ q. not (has_two_sorts q)) qs) e f)

before_well : (g : KoreSignature) (a sort : KoreSort) (p q : KorePattern) → InjectsWell g (subpatterns p ++ subpatterns q) → Well g (equals a sort p q)
before_well g a sort p q (inl e) = inl e
before_well g a sort p q (inr e) = inr e

name_well : (g : KoreSignature) (sort s : KoreSort) (t u : SymbolicTerm) (b : Bool) → Well g (written_atom g sort (turned_if b s t u)) → Well g (written_atom g sort (same s t u))
name_well g sort s t u true i =
    let first = subpatterns (written_term g s u) in
    let second = subpatterns (written_term g s t) in
    let j = well_behind g (written_atom g sort (same s u t)) (first ++ second) i in
    before_well g s sort (written_term g s t) (written_term g s u) (joined_well g second first (injects_right g first second j) (injects_left g first second j))
name_well g sort s t u false i = i

turned_well : (g : KoreSignature) (sort : KoreSort) (b : Bool) (a : Atom) → Well g (written_literal g sort (turned g b a)) → Well g (written_atom g sort a)
turned_well g sort true (same s (unknown x) (unknown y)) i = name_well g sort s (unknown x) (unknown y) (is_second_solved g x y) i
turned_well g sort true (same s (offset x k) (unknown y)) i = name_well g sort s (offset x k) (unknown y) (is_solved_by g y (offset x k)) i
turned_well g sort true (same s (known w) (unknown y)) i = name_well g sort s (known w) (unknown y) (is_solved_by g y (known w)) i
turned_well g sort true (same s (headed h us) (unknown y)) i = name_well g sort s (headed h us) (unknown y) (is_solved_by g y (headed h us)) i
turned_well g sort true (same s (unknown x) (offset y c)) i = i
turned_well g sort true (same s (unknown x) (known u)) i = i
turned_well g sort true (same s (unknown x) (headed f ts)) i = i
turned_well g sort true (same s (offset x k) (offset y c)) i = i
turned_well g sort true (same s (offset x k) (known u)) i = i
turned_well g sort true (same s (offset x k) (headed f ts)) i = i
turned_well g sort true (same s (known w) (offset y c)) i = i
turned_well g sort true (same s (known w) (known u)) i = i
turned_well g sort true (same s (known w) (headed f ts)) i = i
turned_well g sort true (same s (headed h us) (offset y c)) i = i
turned_well g sort true (same s (headed h us) (known u)) i = i
turned_well g sort true (same s (headed h us) (headed f ts)) i = i
turned_well g sort true (has_head x test) i = i
turned_well g sort true (quoted p rs) i = i
turned_well g sort false a i = signed_well g sort false (written_atom g sort a) i

clause_well : (g : KoreSignature) (v : Valuation) (hand : List SortedName) (sort : KoreSort) (c : List Literal) → Well g (written_clause g sort c) → GivesSorts g v hand → AllByRecursion (Good g hand) c → AllByRecursion (λ l. IsWrittenAtom g l.atom) c → AllByRecursion (λ l. IsSaid g v sort l.atom) c
clause_well g v hand sort [] i h w o = tt
clause_well g v hand sort (l ∷ []) i h w o = (atom_said g v hand sort l.atom (turned_well g sort l.holds l.atom i) h w.0.0 w.0.1 o.0, tt)
clause_well g v hand sort (l ∷ m ∷ c) i h w o = literals_said g v hand sort (l ∷ m ∷ c) (well_behind g (written_clause g sort (l ∷ m ∷ c)) (all_subpatterns (written_literals g sort (l ∷ m ∷ c))) i) h w o

pub clause_says : (g : KoreSignature) (v : Valuation) (s : SymbolicState) (c : List Literal) → Well g (written_clause g s.sort c) → GivesSorts g v s.variables → AllByRecursion (Good g s.variables) c → AllByRecursion (λ l. IsWrittenAtom g l.atom) c → IsWrittenRight g v s c
clause_says g v s c i h w o = clause_said g v s.sort c (clause_well g v s.variables s.sort c i h w o)

all_said : (g : KoreSignature) (v : Valuation) (hand : List SortedName) (sort : KoreSort) (cs : List (List Literal)) → InjectsWell g (all_subpatterns (written_clauses g sort cs)) → GivesSorts g v hand → AllByRecursion (AllByRecursion (Good g hand)) cs → AllByRecursion (AllByRecursion (λ l. IsWrittenAtom g l.atom)) cs → AllByRecursion (AllByRecursion (λ l. IsSaid g v sort l.atom)) cs
all_said g v hand sort [] i h w o = tt
all_said g v hand sort (c ∷ cs) i h w o =
    let these = subpatterns (written_clause g sort c) in
    let others = all_subpatterns (written_clauses g sort cs) in
    (clause_well g v hand sort c (injects_left g these others i) h w.0 o.0, all_said g v hand sort cs (injects_right g these others i) h w.1 o.1)

-- inj is what it should be
pub clause_right : (g : KoreSignature) (v : Valuation) (s : SymbolicState) (c : List Literal) → meaning_of g injection_name ≡ injection → GivesSorts g v s.variables → AllByRecursion (Good g s.variables) c → AllByRecursion (λ l. IsWrittenAtom g l.atom) c → IsWrittenRight g v s c
clause_right g v s c i h w o = clause_says g v s c (inl i) h w o

pub clauses_say : (g : KoreSignature) (v : Valuation) (s : SymbolicState) → InjectsWell g (all_subpatterns (written_clauses g s.sort s.clauses)) → GivesSorts g v s.variables → IsSortedState g s → AllByRecursion (AllByRecursion (λ l. IsWrittenAtom g l.atom)) s.clauses → AllTrueUnder g v (written_clauses g s.sort s.clauses) ↔ AreTrue g v s.clauses
clauses_say g v s i h w o = clauses_said g v s.sort s.clauses (all_said g v s.variables s.sort s.clauses i h w.literals o)

-- ---- what isn't opened is a predicate

written_predicate : (g : KoreSignature) (a : Atom) → IsWrittenAtom g a → IsPredicateAtom a
written_predicate g (same s t u) o = tt
written_predicate g (has_head x test) o = tt
written_predicate g (quoted p rs) o = o.0.0

pub written_predicates : (g : KoreSignature) (c : List Literal) → AllByRecursion (λ l. IsWrittenAtom g l.atom) c → AllByRecursion (λ l. IsPredicateAtom l.atom) c
written_predicates g [] o = tt
written_predicates g (l ∷ c) o = (written_predicate g l.atom o.0, written_predicates g c o.1)

all_written_predicates : (g : KoreSignature) (cs : List (List Literal)) → AllByRecursion (AllByRecursion (λ l. IsWrittenAtom g l.atom)) cs → AllByRecursion (AllByRecursion (λ l. IsPredicateAtom l.atom)) cs
all_written_predicates g [] o = tt
all_written_predicates g (c ∷ cs) o = (written_predicates g c o.0, all_written_predicates g cs o.1)

-- ---- the whole state

term_alone : (p : KorePattern) → is_term p ≡ true → conjuncts p ≡ p ∷ []
term_alone (variable x s) h = refl
term_alone (literal s x) h = refl
term_alone (application f ss ps) h = refl
term_alone _ h = absurd (cc)

pub not_terms : (qs : List KorePattern) → AllByRecursion (λ q. is_term q ≡ false) qs → AllByRecursion (λ q. not (is_term q) ≡ true) qs
not_terms [] a = tt
not_terms (q ∷ qs) a = (rw (a.0) refl, not_terms qs a.1)

-- a term and predicates: the term alone is the one term, and the predicates are all others
one_term : (t : KorePattern) (qs : List KorePattern) → is_term t ≡ true → AllByRecursion (λ q. is_term q ≡ false) qs → filter is_term (t ∷ qs) ≡ t ∷ []
one_term t qs e a = rw e (ap (λ zs. t ∷ zs) (filter_none is_term qs a))

the_others : (t : KorePattern) (qs : List KorePattern) → is_term t ≡ true → AllByRecursion (λ q. is_term q ≡ false) qs → filter (λ q. not (is_term q)) (t ∷ qs) ≡ qs
the_others t qs e a = rw e (filter_all (λ q. not (is_term q)) qs (not_terms qs a))

-- a pattern whose conjuncts are a term and others that are none
joined_instance : (g : KoreSignature) (v : Valuation) (p t : KorePattern) (qs : List KorePattern) (u : Value) → conjuncts p ≡ t ∷ qs → is_term t ≡ true → AllByRecursion (λ q. is_term q ≡ false) qs →
    IsInstance g v p u ↔ ((u ≡ instance g v t) × AllByRecursion (IsTrueUnder g v) qs)
joined_instance g v p t qs u c e a =
    let one : conjoined_terms p ≡ t ∷ [] = ap (filter is_term) c ∙ one_term t qs e a in
    let others : conjoined_predicates p ≡ qs = ap (filter (λ q. not (is_term q))) c ∙ the_others t qs e a in (
      (λ i. let d = conjunction_of g v p t u one i in (subst (λ ts. IsInstanceOfOne g v ts u) one d.term, subst (AllByRecursion (IsTrueUnder g v)) others d.predicates)),
      (λ h. met_of g v p t u one (record { term = subst (λ ts. IsInstanceOfOne g v ts u) (sym one) h.0; predicates = subst (AllByRecursion (IsTrueUnder g v)) (sym others) h.1 })),
    )

written_by : (g : KoreSignature) (v : Valuation) (s : SymbolicState) (cs : List (List Literal)) (u : Value) → s.clauses ≡ cs → AllTrueUnder g v (written_clauses g s.sort cs) ↔ AreTrue g v cs → are_predicates (written_clauses g s.sort cs) ≡ true → instance g v (written_term g s.sort s.term) ≡ term_instance g v s.term
    → IsInstance g v (written_state g s) u ↔ ((u ≡ term_instance g v s.term) × AreTrue g v cs)
written_by g v s [] u e w b t =
    let i = joined_instance g v (written_term g s.sort s.term) (written_term g s.sort s.term) [] u (term_alone (written_term g s.sort s.term) (written_is_term g s.sort s.term)) (written_is_term g s.sort s.term) tt in
    rw e ((λ h. let d = i.0 h in (d.0 ∙ t, tt)), (λ h. i.1 (h.0 ∙ sym t, tt)))
written_by g v s (c ∷ cs) u e w b t =
    let p = written_term g s.sort s.term in
    let ps = written_clauses g s.sort (c ∷ cs) in
    let i = joined_instance g v (conjunction s.sort (next_pattern p ps)) p (conjuncts (conjunction s.sort ps)) u (ap (λ zs. zs ++ conjuncts (conjunction s.sort ps)) (term_alone p (written_is_term g s.sort s.term))) (written_is_term g s.sort s.term) (no_terms (conjunction s.sort ps) b) in
    rw e ((λ h. let d = i.0 h in (d.0 ∙ t, w.0 (truth_of g v (conjunction s.sort ps) d.1))), (λ h. i.1 (h.0 ∙ sym t, of_truth g v (conjunction s.sort ps) (w.1 h.1))))

-- the term and the clauses of what is written
state_well : (g : KoreSignature) (s : SymbolicState) (cs : List (List Literal)) → s.clauses ≡ cs → Well g (written_state g s) → Well g (written_term g s.sort s.term) × InjectsWell g (all_subpatterns (written_clauses g s.sort cs))
state_well g s [] e j = (subst (Well g) (alone s e) j, inr refl)
  where
    alone : (s : SymbolicState) → s.clauses ≡ [] → written_state g s ≡ written_term g s.sort s.term
    alone s e = rw e refl
state_well g s (c ∷ cs) e j =
    let term = subpatterns (written_term g s.sort s.term) in
    let others = all_subpatterns (written_clauses g s.sort (c ∷ cs)) in
    let p = conjunction s.sort (next_pattern (written_term g s.sort s.term) (written_clauses g s.sort (c ∷ cs))) in
    let k = well_behind g p (term ++ others) (subst (Well g) (several s e) j) in
    (injects_left g term others k, injects_right g term others k)
  where
    several : (s : SymbolicState) → s.clauses ≡ c ∷ cs → written_state g s ≡ conjunction s.sort (next_pattern (written_term g s.sort s.term) (written_clauses g s.sort (c ∷ cs)))
    several s e = rw e refl

pub state_says : (g : KoreSignature) (v : Valuation) (s : SymbolicState) (u : Value) → Well g (written_state g s) → GivesSorts g v s.variables → IsSortedState g s → AllByRecursion (AllByRecursion (λ l. IsWrittenAtom g l.atom)) s.clauses → IsInstance g v (written_state g s) u ↔ IsStateInstance g v s u
state_says g v s u i h w o =
    let well = state_well g s s.clauses refl i in
    let k = written_by g v s s.clauses u refl (clauses_say g v s well.1 h w o) (clauses_are_predicates g s.sort s.clauses (all_written_predicates g s.clauses o)) (written_is g v s.sort s.term w.term well.0) in
    ((λ m. let d = k.0 m in record { term = d.0; clauses = d.1 }), (λ m. k.1 (m.term, m.clauses)))

-- inj is what it should be
pub state_right : (g : KoreSignature) (v : Valuation) (s : SymbolicState) (u : Value) → meaning_of g injection_name ≡ injection → GivesSorts g v s.variables → IsSortedState g s → AllByRecursion (AllByRecursion (λ l. IsWrittenAtom g l.atom)) s.clauses → IsInstance g v (written_state g s) u ↔ IsStateInstance g v s u
state_right g v s u i h w o = state_says g v s u (inl i) h w o
