-- What is written for clauses are predicates.
use Rattle.std.proofs.Common.{◌≡◌, refl, ◌∙◌, Bool, true, false, ◌&&◌, ◌||◌, List, [], ◌∷◌}
use Rattle.std.specs.Prelude.{unwrap_or}
use Rattle.std.specs.List.{AllByRecursion}
use Rattle.kp_kore.specs.Syntax.{KoreSort, no_sorts, KorePattern, KorePatterns, variable, application, literal, top, bottom, negation, conjunction, disjunction, implication, equivalence, exists, forall, ceil, floor, equals, membership, no_patterns, next_pattern}
use Rattle.kp_kore.specs.Parts.{SortedName, is_term, are_terms}
use Rattle.kp_kore.specs.Signature.{KoreSignature}
use Rattle.kp_kore.specs.Sorting.{result_sort}
use Rattle.kp_kore.specs.Instance.{is_predicate, are_predicates, is_conjoined_pair}
use Rattle.kp_kore.proofs.InstanceLemmas.{first_true, second_true}
use Rattle.kp_compile.specs.Spelled.{places_of}
use Rattle.kp_symbolic.specs.Terms.{SymbolicTerm, unknown, offset, known, headed, Replaced}
use Rattle.kp_symbolic.specs.States.{one_head, head_of_sort, Atom, same, has_head, quoted, Literal}
use Rattle.kp_symbolic.specs.Writing.{least_fresh, new_variables, under_exists, variables_of, bound_name, renamed, written_under, all_written_under, written_atom, written_signed, written_literal, is_solved_by, is_second_solved, turned_if, written_literals, written_clause, written_clauses}
use Rattle.kp_symbolic.proofs.Written.{turned}
use Rattle.kp_symbolic.proofs.Read.{three_tests, two_tests}
use Rattle.kp_symbolic_laws.specs.Runs.{IsPredicateAtom}
use Rattle.kp_symbolic_laws.proofs.WrittenUnder.{term_form, two_of_three, placed_term, written_is_term, term_kept, pair_kept}

both : (a b : Bool) → a ≡ true → b ≡ true → a && b ≡ true
both true b e f = f
both false b e f = absurd (cc)

-- ---- quoted predicates

-- by which of the three a form is
by_form : (a b c d e f : Bool) → d ≡ a → f ≡ c → (a ≡ false → c ≡ false → e ≡ true) → d || e || f ≡ true
by_form true b c true e f i j k = refl
by_form true b c false e f i j k = absurd (cc)
by_form false b true d true f i j k = either d f
  where
    either : (d f : Bool) → d || true || f ≡ true
    either true f = refl
    either false f = refl
by_form false b true d false true i j k = last d
  where
    last : (d : Bool) → d || false || true ≡ true
    last true = refl
    last false = refl
by_form false b true d false false i j k = absurd (cc)
by_form false b false d e f i j k = rw (k refl refl) (either d f)
  where
    either : (d f : Bool) → d || true || f ≡ true
    either true f = refl
    either false f = refl

by_two : (a d e : Bool) → d ≡ a → (a ≡ false → e ≡ true) → d || e ≡ true
by_two true true e i k = refl
by_two true false e i k = absurd (cc)
by_two false true e i k = refl
by_two false false e i k = k refl

two_sides : (g : KoreSignature) (rs : List Replaced) (p q : KorePattern) → is_term p && is_term q ≡ true → is_term (written_under g rs p) && is_term (written_under g rs q) ≡ true
two_sides g rs p q h =
    let i = first_true (is_term p) (is_term q) h in
    let j = second_true (is_term p) (is_term q) h in
    both (is_term (written_under g rs p)) (is_term (written_under g rs q)) (term_kept g rs p (term_form p i) ∙ i) (term_kept g rs q (term_form q j) ∙ j)

mutual
  pub under_predicate : (g : KoreSignature) (rs : List Replaced) (p : KorePattern) → is_predicate p ≡ true → is_predicate (written_under g rs p) ≡ true
  under_predicate g rs (top s) h = refl
  under_predicate g rs (bottom s) h = refl
  under_predicate g rs (negation s p) h = under_predicate g rs p h
  under_predicate g rs (conjunction s ps) h = under_predicates g rs ps h
  under_predicate g rs (disjunction s ps) h = under_predicates g rs ps h
  under_predicate g rs (implication s p q) h = both (is_predicate (written_under g rs p)) (is_predicate (written_under g rs q)) (under_predicate g rs p (first_true (is_predicate p) (is_predicate q) h)) (under_predicate g rs q (second_true (is_predicate p) (is_predicate q) h))
  under_predicate g rs (equivalence s p q) h = both (is_predicate (written_under g rs p)) (is_predicate (written_under g rs q)) (under_predicate g rs p (first_true (is_predicate p) (is_predicate q) h)) (under_predicate g rs q (second_true (is_predicate p) (is_predicate q) h))
  under_predicate g rs (exists s x t p) h = under_predicate g (renamed x (bound_name rs x p) t rs) p h
  under_predicate g rs (forall s x t p) h = under_predicate g (renamed x (bound_name rs x p) t rs) p h
  under_predicate g rs (ceil a s p) h = by_form (is_term p) (is_predicate p) (is_conjoined_pair p) (is_term (written_under g rs p)) (is_predicate (written_under g rs p)) (is_conjoined_pair (written_under g rs p)) (term_kept g rs p h) (pair_kept g rs p h)
      (λ e f. under_predicate g rs p (three_tests (is_term p) (is_predicate p) (is_conjoined_pair p) h e f))
  under_predicate g rs (floor a s p) h = by_two (is_term p) (is_term (written_under g rs p)) (is_predicate (written_under g rs p)) (term_kept g rs p (two_of_three (is_term p) (is_predicate p) (is_conjoined_pair p) h)) (λ e. under_predicate g rs p (two_tests (is_term p) (is_predicate p) h e))
  under_predicate g rs (equals a s p q) h = two_sides g rs p q h
  under_predicate g rs (membership a s p q) h = two_sides g rs p q h
  under_predicate g rs (variable x s) h = absurd (cc)
  under_predicate g rs (literal s t) h = absurd (cc)
  under_predicate g rs (application f ss ps) h = absurd (cc)
  under_predicate g rs _ h = h

  under_predicates : (g : KoreSignature) (rs : List Replaced) (ps : KorePatterns) → are_predicates ps ≡ true → are_predicates (all_written_under g rs ps) ≡ true
  under_predicates g rs no_patterns h = refl
  under_predicates g rs (next_pattern p ps) h = both (is_predicate (written_under g rs p)) (are_predicates (all_written_under g rs ps)) (under_predicate g rs p (first_true (is_predicate p) (are_predicates ps) h)) (under_predicates g rs ps (second_true (is_predicate p) (are_predicates ps) h))

-- ---- literals

under_all : (sort : KoreSort) (xs : List SortedName) (p : KorePattern) → is_predicate p ≡ true → is_predicate (under_exists sort xs p) ≡ true
under_all sort [] p h = h
under_all sort (x ∷ xs) p h = under_all sort xs p h

pub variables_are_terms : (xs : List SortedName) → are_terms (variables_of xs) ≡ true
variables_are_terms [] = refl
variables_are_terms (x ∷ xs) = variables_are_terms xs

pub atom_predicate : (g : KoreSignature) (sort : KoreSort) (a : Atom) → IsPredicateAtom a → is_predicate (written_atom g sort a) ≡ true
atom_predicate g sort (same s t u) o = both _ _ (written_is_term g s t) (written_is_term g s u)
atom_predicate g sort (has_head x (one_head c)) o =
    let xs = new_variables (x.name ∷ []) (places_of g c) in
    under_all sort xs _ (placed_term (unwrap_or (result_sort g c no_sorts) x.sort) x.sort (application c no_sorts (variables_of xs)) (variables_are_terms xs))
atom_predicate g sort (has_head x (head_of_sort s)) o = placed_term s x.sort (variable (least_fresh (x.name ∷ [])) s) refl
atom_predicate g sort (quoted p rs) o = under_predicate g rs p o

signed_predicate : (sort : KoreSort) (b : Bool) (p : KorePattern) → is_predicate p ≡ true → is_predicate (written_signed sort b p) ≡ true
signed_predicate sort true p h = h
signed_predicate sort false p h = h

by_name : (g : KoreSignature) (sort s : KoreSort) (t u : SymbolicTerm) (b : Bool) → is_predicate (written_atom g sort (turned_if b s t u)) ≡ true
by_name g sort s t u true = both _ _ (written_is_term g s u) (written_is_term g s t)
by_name g sort s t u false = both _ _ (written_is_term g s t) (written_is_term g s u)

turned_predicate : (g : KoreSignature) (sort : KoreSort) (b : Bool) (a : Atom) → IsPredicateAtom a → is_predicate (written_literal g sort (turned g b a)) ≡ true
turned_predicate g sort true (same s (unknown x) (unknown y)) o = by_name g sort s (unknown x) (unknown y) (is_second_solved g x y)
turned_predicate g sort true (same s (offset x c) (unknown y)) o = by_name g sort s (offset x c) (unknown y) (is_solved_by g y (offset x c))
turned_predicate g sort true (same s (known u) (unknown y)) o = by_name g sort s (known u) (unknown y) (is_solved_by g y (known u))
turned_predicate g sort true (same s (headed f ts) (unknown y)) o = by_name g sort s (headed f ts) (unknown y) (is_solved_by g y (headed f ts))
turned_predicate g sort true (same s (unknown x) (offset y c)) o = atom_predicate g sort (same s (unknown x) (offset y c)) o
turned_predicate g sort true (same s (unknown x) (known u)) o = atom_predicate g sort (same s (unknown x) (known u)) o
turned_predicate g sort true (same s (unknown x) (headed f ts)) o = atom_predicate g sort (same s (unknown x) (headed f ts)) o
turned_predicate g sort true (same s (offset x k) (offset y c)) o = atom_predicate g sort (same s (offset x k) (offset y c)) o
turned_predicate g sort true (same s (offset x k) (known u)) o = atom_predicate g sort (same s (offset x k) (known u)) o
turned_predicate g sort true (same s (offset x k) (headed f ts)) o = atom_predicate g sort (same s (offset x k) (headed f ts)) o
turned_predicate g sort true (same s (known w) (offset y c)) o = atom_predicate g sort (same s (known w) (offset y c)) o
turned_predicate g sort true (same s (known w) (known u)) o = atom_predicate g sort (same s (known w) (known u)) o
turned_predicate g sort true (same s (known w) (headed f ts)) o = atom_predicate g sort (same s (known w) (headed f ts)) o
turned_predicate g sort true (same s (headed h us) (offset y c)) o = atom_predicate g sort (same s (headed h us) (offset y c)) o
turned_predicate g sort true (same s (headed h us) (known u)) o = atom_predicate g sort (same s (headed h us) (known u)) o
turned_predicate g sort true (same s (headed h us) (headed f ts)) o = atom_predicate g sort (same s (headed h us) (headed f ts)) o
turned_predicate g sort true (has_head x test) o = atom_predicate g sort (has_head x test) o
turned_predicate g sort true (quoted p rs) o = atom_predicate g sort (quoted p rs) o
turned_predicate g sort false a o = signed_predicate sort false (written_atom g sort a) (atom_predicate g sort a o)

literals_are : (g : KoreSignature) (sort : KoreSort) (c : List Literal) → AllByRecursion (λ l. IsPredicateAtom l.atom) c → are_predicates (written_literals g sort c) ≡ true
literals_are g sort [] o = refl
literals_are g sort (l ∷ c) o = both _ _ (signed_predicate sort l.holds (written_atom g sort l.atom) (atom_predicate g sort l.atom o.0)) (literals_are g sort c o.1)

pub clause_predicate : (g : KoreSignature) (sort : KoreSort) (c : List Literal) → AllByRecursion (λ l. IsPredicateAtom l.atom) c → is_predicate (written_clause g sort c) ≡ true
clause_predicate g sort [] o = refl
clause_predicate g sort (l ∷ []) o = turned_predicate g sort l.holds l.atom o.0
clause_predicate g sort (l ∷ m ∷ c) o = literals_are g sort (l ∷ m ∷ c) o

pub clauses_are_predicates : (g : KoreSignature) (sort : KoreSort) (cs : List (List Literal)) → AllByRecursion (AllByRecursion (λ l. IsPredicateAtom l.atom)) cs → are_predicates (written_clauses g sort cs) ≡ true
clauses_are_predicates g sort [] o = refl
clauses_are_predicates g sort (c ∷ cs) o = both _ _ (clause_predicate g sort c o.0) (clauses_are_predicates g sort cs o.1)
