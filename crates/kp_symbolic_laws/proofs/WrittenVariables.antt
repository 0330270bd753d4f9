-- What is written for a clause has no other variables than the clause.
use Rattle.std.proofs.Common.{◌≡◌, refl, ◌∙◌, not, ◌&&◌, ◌||◌, sym, subst, ℤ, pos, neg_ℤ, Bool, true, false, List, [], ◌∷◌, ◌++◌, Option, Some, None}
use Rattle.std.specs.Prelude.{if◌then◌else◌, cond, int_lt, unwrap_or}
use Rattle.std.specs.List.{AllByRecursion, Contains, flat_map}
use Rattle.std.specs.Str.{bytes_eq}
use Rattle.std.proofs.lemmas.Slice.Eq.{bytes_eq-Decides}
use Rattle.kp_kore.specs.Syntax.{Text, KoreSort, sort_variable, KoreSorts, no_sorts, next_sort, KorePattern, KorePatterns, variable, application, literal, top, bottom, negation, conjunction, disjunction, implication, equivalence, exists, forall, ceil, floor, equals, membership, no_patterns, next_pattern}
use Rattle.kp_kore.specs.Hooks.{addition, subtraction}
use Rattle.kp_kore.specs.Parts.{SortedName, is_term, free_variables, all_free_variables, without_name}
use Rattle.kp_kore.specs.Signature.{KoreSignature}
use Rattle.kp_kore.specs.Sorting.{result_sort}
use Rattle.kp_kore.specs.Instance.{is_predicate, are_predicates, is_conjoined_pair}
use Rattle.kp_kore.proofs.InstanceLemmas.{first_true, second_true}
use Rattle.kp_kore.proofs.ListLemmas.{all_map}
use Rattle.kp_compile.specs.Spelled.{places_of}
use Rattle.kp_compile.proofs.SpelledForms.{spelling_closed}
use Rattle.kp_symbolic.specs.Terms.{SymbolicTerm, unknown, offset, known, headed, SymbolicTerms, no_terms, next_term, term_variables, all_term_variables, Replaced, replacement_for}
use Rattle.kp_symbolic.specs.Folding.{least_symbol, folded}
use Rattle.kp_symbolic.specs.States.{Atom, same, has_head, quoted, atom_variables, variables_for, Literal, clause_variables, SymbolicState}
use Rattle.kp_symbolic.specs.Writing.{bound_name, renamed, written_under, all_written_under, written_call, written_sum, written_term, written_terms, written_atom, written_signed, written_literal, is_solved_by, is_second_solved, turned_if, written_literals, written_clause, written_clauses, written_state}
use Rattle.kp_symbolic.proofs.Distribution.{all_both, all_first, all_second}
use Rattle.kp_symbolic.proofs.Folded.{OfEach, folded_variables}
use Rattle.kp_symbolic.proofs.Facts.{Good}
use Rattle.kp_symbolic.proofs.Written.{turned}
use Rattle.kp_symbolic_laws.specs.Runs.{IsPredicateAtom, IsSortedState, IsWrittenOfThese}
use Rattle.kp_symbolic_laws.proofs.Binders.{other_way}
use Rattle.kp_symbolic_laws.proofs.HeadTests.{placed_variables, test_variables}

call_variables : (Q : SortedName → Type 0) (o : Option Text) (x : SortedName) (n : ℤ) → Q x → AllByRecursion Q (free_variables (written_call o x n))
call_variables Q (Some f) x n q = (q, tt)
call_variables Q None x n q = (q, tt)

sum_variables : (g : KoreSignature) (Q : SortedName → Type 0) (x : SortedName) (c : ℤ) → Q x → AllByRecursion Q (free_variables (written_sum g x c))
sum_variables g Q x c q = by (int_lt (pos 0) c)
  where
    by : (b : Bool) → AllByRecursion Q (free_variables (if b then written_call (least_symbol g addition) x c else written_call (least_symbol g subtraction) x (neg_ℤ c)))
    by true = call_variables Q (least_symbol g addition) x c q
    by false = call_variables Q (least_symbol g subtraction) x (neg_ℤ c) q

mutual
  written_variables : (g : KoreSignature) (Q : SortedName → Type 0) (s : KoreSort) (t : SymbolicTerm) → AllByRecursion Q (term_variables t) → AllByRecursion Q (free_variables (written_term g s t))
  written_variables g Q s (unknown x) a = placed_variables Q x.sort s (variable x.name x.sort) (a.0, tt)
  written_variables g Q s (offset x c) a = placed_variables Q x.sort s (written_sum g x c) (sum_variables g Q x c a.0)
  written_variables g Q s (known u) a = subst (AllByRecursion Q) (sym (spelling_closed g s u)) tt
  written_variables g Q s (headed f ts) a = placed_variables Q (unwrap_or (result_sort g f no_sorts) s) s (application f no_sorts (written_terms g (places_of g f) ts)) (all_written_variables g Q (places_of g f) ts a)

  all_written_variables : (g : KoreSignature) (Q : SortedName → Type 0) (ss : KoreSorts) (ts : SymbolicTerms) → AllByRecursion Q (all_term_variables ts) → AllByRecursion Q (all_free_variables (written_terms g ss ts))
  all_written_variables g Q no_sorts ts a = tt
  all_written_variables g Q (next_sort s ss) no_terms a = tt
  all_written_variables g Q (next_sort s ss) (next_term t ts) a = all_both Q (free_variables (written_term g s t)) (all_free_variables (written_terms g ss ts)) (written_variables g Q s t (all_first Q (term_variables t) (all_term_variables ts) a)) (all_written_variables g Q ss ts (all_second Q (term_variables t) (all_term_variables ts) a))

-- ---- predicates that aren't opened

bound_all : (Q : SortedName → Type 0) (x : Text) (zs : List SortedName) → AllByRecursion (λ z. bytes_eq z.name x ≡ false → Q z) zs → AllByRecursion Q (without_name x zs)
bound_all Q x [] a = tt
bound_all Q x (z ∷ zs) a = by (bytes_eq z.name x) refl (bound_all Q x zs a.1)
  where
    by : (b : Bool) → bytes_eq z.name x ≡ b → AllByRecursion Q (without_name x zs) → AllByRecursion Q (cond (not b) (z ∷ without_name x zs) (without_name x zs))
    by true e r = r
    by false e r = (a.0 e, r)

abbrev IsOther : (SortedName → Type 0) → Text → SortedName → Type 0
IsOther Q y z = bytes_eq z.name y ≡ false → Q z

itself_named : (y : Text) → bytes_eq y y ≡ false → ⊥
itself_named y e = same_not (sym ((bytes_eq-Decides y y).1 refl) ∙ e)
  where
    same_not : true ≡ false → ⊥
    same_not h = cc

-- under a binder of x, which is named y now
under_each : (Q : SortedName → Type 0) (rs : List Replaced) (x y : Text) (t : KoreSort) (zs : List SortedName) → OfEach rs Q (without_name x zs) → OfEach (renamed x y t rs) (IsOther Q y) zs
under_each Q rs x y t [] a = tt
under_each Q rs x y t (z ∷ zs) a = by (bytes_eq z.name x) refl a (under_each Q rs x y t zs)
  where
    here : (b : Bool) → bytes_eq x z.name ≡ b → AllByRecursion (IsOther Q y) (variables_for z (if b then Some (unknown (record { name = y; sort = t })) else replacement_for rs z.name)) → AllByRecursion (IsOther Q y) (variables_for z (replacement_for (renamed x y t rs) z.name))
    here b e h = subst (λ c. AllByRecursion (IsOther Q y) (variables_for z (if c then Some (unknown (record { name = y; sort = t })) else replacement_for rs z.name))) (sym e) h

    by : (b : Bool) → bytes_eq z.name x ≡ b → OfEach rs Q (cond (not b) (z ∷ without_name x zs) (without_name x zs)) → (OfEach rs Q (without_name x zs) → OfEach (renamed x y t rs) (IsOther Q y) zs) → OfEach (renamed x y t rs) (IsOther Q y) (z ∷ zs)
    by true e i r = (here true (other_way z.name x true e) ((λ h. absurd (itself_named y h)), tt), r i)
    by false e i r = (here false (other_way z.name x false e) (all_map Q (IsOther Q y) (variables_for z (replacement_for rs z.name)) (λ w q h. q) i.0), r i.1)

side_variables : (g : KoreSignature) (Q : SortedName → Type 0) (rs : List Replaced) (p : KorePattern) → is_term p ≡ true → OfEach rs Q (free_variables p) → AllByRecursion Q (free_variables (written_under g rs p))
side_variables g Q rs (variable x s) h a = written_variables g Q s (folded g rs (variable x s)) (folded_variables g rs Q (variable x s) a)
side_variables g Q rs (literal s x) h a = written_variables g Q s (folded g rs (literal s x)) (folded_variables g rs Q (literal s x) a)
side_variables g Q rs (application f ss ps) h a = written_variables g Q (unwrap_or (result_sort g f ss) (sort_variable [])) (folded g rs (application f ss ps)) (folded_variables g rs Q (application f ss ps) a)
side_variables g Q rs _ h a = absurd (cc)

abbrev Each : List Replaced → (SortedName → Type 0) → SortedName → Type 0
Each rs Q x = AllByRecursion Q (variables_for x (replacement_for rs x.name))

two_variables : (g : KoreSignature) (Q : SortedName → Type 0) (rs : List Replaced) (p q : KorePattern) → is_term p && is_term q ≡ true → OfEach rs Q (free_variables p ++ free_variables q) → AllByRecursion Q (free_variables (written_under g rs p) ++ free_variables (written_under g rs q))
two_variables g Q rs p q h a = all_both Q (free_variables (written_under g rs p)) (free_variables (written_under g rs q))
    (side_variables g Q rs p (first_true (is_term p) (is_term q) h) (all_first (Each rs Q) (free_variables p) (free_variables q) a))
    (side_variables g Q rs q (second_true (is_term p) (is_term q) h) (all_second (Each rs Q) (free_variables p) (free_variables q) a))

pair_variables : (g : KoreSignature) (Q : SortedName → Type 0) (rs : List Replaced) (p : KorePattern) → is_conjoined_pair p ≡ true → OfEach rs Q (free_variables p) → AllByRecursion Q (free_variables (written_under g rs p))
pair_variables g Q rs (conjunction s (next_pattern p (next_pattern q no_patterns))) h a =
    let rest = all_second (Each rs Q) (free_variables p) (all_free_variables (next_pattern q no_patterns)) a in
    all_both Q (free_variables (written_under g rs p)) (all_free_variables (next_pattern (written_under g rs q) no_patterns))
    (side_variables g Q rs p (first_true (is_term p) (is_term q) h) (all_first (Each rs Q) (free_variables p) (all_free_variables (next_pattern q no_patterns)) a))
    (all_both Q (free_variables (written_under g rs q)) [] (side_variables g Q rs q (second_true (is_term p) (is_term q) h) (all_first (Each rs Q) (free_variables q) [] rest)) tt)
pair_variables g Q rs _ h a = absurd (cc)

by_three : (R : Type 0) (a b c : Bool) → a || b || c ≡ true → (a ≡ true → R) → (b ≡ true → R) → (c ≡ true → R) → R
by_three R true b c e i j k = i refl
by_three R false true c e i j k = j refl
by_three R false false true e i j k = k refl
by_three R false false false e i j k = absurd (cc)

by_two : (R : Type 0) (a b : Bool) → a || b ≡ true → (a ≡ true → R) → (b ≡ true → R) → R
by_two R true b e i j = i refl
by_two R false true e i j = j refl
by_two R false false e i j = absurd (cc)

mutual
  pub under_variables : (g : KoreSignature) (Q : SortedName → Type 0) (rs : List Replaced) (p : KorePattern) → is_predicate p ≡ true → OfEach rs Q (free_variables p) → AllByRecursion Q (free_variables (written_under g rs p))
  under_variables g Q rs (top s) h a = tt
  under_variables g Q rs (bottom s) h a = tt
  under_variables g Q rs (negation s p) h a = under_variables g Q rs p h a
  under_variables g Q rs (conjunction s ps) h a = all_under_variables g Q rs ps h a
  under_variables g Q rs (disjunction s ps) h a = all_under_variables g Q rs ps h a
  under_variables g Q rs (implication s p q) h a = all_both Q (free_variables (written_under g rs p)) (free_variables (written_under g rs q))
      (under_variables g Q rs p (first_true (is_predicate p) (is_predicate q) h) (all_first (Each rs Q) (free_variables p) (free_variables q) a))
      (under_variables g Q rs q (second_true (is_predicate p) (is_predicate q) h) (all_second (Each rs Q) (free_variables p) (free_variables q) a))
  under_variables g Q rs (equivalence s p q) h a = all_both Q (free_variables (written_under g rs p)) (free_variables (written_under g rs q))
      (under_variables g Q rs p (first_true (is_predicate p) (is_predicate q) h) (all_first (Each rs Q) (free_variables p) (free_variables q) a))
      (under_variables g Q rs q (second_true (is_predicate p) (is_predicate q) h) (all_second (Each rs Q) (free_variables p) (free_variables q) a))
  under_variables g Q rs (exists s x t p) h a =
      let y = bound_name rs x p in
      bound_all Q y (free_variables (written_under g (renamed x y t rs) p)) (under_variables g (IsOther Q y) (renamed x y t rs) p h (under_each Q rs x y t (free_variables p) a))
  under_variables g Q rs (forall s x t p) h a =
      let y = bound_name rs x p in
      bound_all Q y (free_variables (written_under g (renamed x y t rs) p)) (under_variables g (IsOther Q y) (renamed x y t rs) p h (under_each Q rs x y t (free_variables p) a))
  under_variables g Q rs (ceil b s p) h a = by_three _ (is_term p) (is_predicate p) (is_conjoined_pair p) h (λ e. side_variables g Q rs p e a) (λ e. under_variables g Q rs p e a) (λ e. pair_variables g Q rs p e a)
  under_variables g Q rs (floor b s p) h a = by_two _ (is_term p) (is_predicate p) h (λ e. side_variables g Q rs p e a) (λ e. under_variables g Q rs p e a)
  under_variables g Q rs (equals b s p q) h a = two_variables g Q rs p q h a
  under_variables g Q rs (membership b s p q) h a = two_variables g Q rs p q h a
  under_variables g Q rs _ h a = absurd (cc)

  all_under_variables : (g : KoreSignature) (Q : SortedName → Type 0) (rs : List Replaced) (ps : KorePatterns) → are_predicates ps ≡ true → OfEach rs Q (all_free_variables ps) → AllByRecursion Q (all_free_variables (all_written_under g rs ps))
  all_under_variables g Q rs no_patterns h a = tt
  all_under_variables g Q rs (next_pattern p ps) h a = all_both Q (free_variables (written_under g rs p)) (all_free_variables (all_written_under g rs ps))
      (under_variables g Q rs p (first_true (is_predicate p) (are_predicates ps) h) (all_first (Each rs Q) (free_variables p) (all_free_variables ps) a))
      (all_under_variables g Q rs ps (second_true (is_predicate p) (are_predicates ps) h) (all_second (Each rs Q) (free_variables p) (all_free_variables ps) a))

each_of : (Q : SortedName → Type 0) (rs : List Replaced) (xs : List SortedName) → AllByRecursion Q (flat_map (λ x. variables_for x (replacement_for rs x.name)) xs) → OfEach rs Q xs
each_of Q rs [] a = tt
each_of Q rs (x ∷ xs) a =
    let these = variables_for x (replacement_for rs x.name) in
    let others = flat_map (λ z. variables_for z (replacement_for rs z.name)) xs in
    (all_first Q these others a, each_of Q rs xs (all_second Q these others a))

-- ---- literals and clauses

sides_written : (g : KoreSignature) (Q : SortedName → Type 0) (s : KoreSort) (t u : SymbolicTerm) → AllByRecursion Q (term_variables t) → AllByRecursion Q (term_variables u) → AllByRecursion Q (free_variables (written_term g s t) ++ free_variables (written_term g s u))
sides_written g Q s t u a b = all_both Q (free_variables (written_term g s t)) (free_variables (written_term g s u)) (written_variables g Q s t a) (written_variables g Q s u b)

atom_written : (g : KoreSignature) (Q : SortedName → Type 0) (sort : KoreSort) (a : Atom) → IsPredicateAtom a → AllByRecursion Q (atom_variables a) → AllByRecursion Q (free_variables (written_atom g sort a))
atom_written g Q sort (same s t u) o a = sides_written g Q s t u (all_first Q (term_variables t) (term_variables u) a) (all_second Q (term_variables t) (term_variables u) a)
atom_written g Q sort (has_head x test) o a = test_variables g Q sort x test a.0
atom_written g Q sort (quoted p rs) o a = under_variables g Q rs p o (each_of Q rs (free_variables p) a)

signed_written : (g : KoreSignature) (Q : SortedName → Type 0) (sort : KoreSort) (b : Bool) (a : Atom) → AllByRecursion Q (free_variables (written_atom g sort a)) → AllByRecursion Q (free_variables (written_signed sort b (written_atom g sort a)))
signed_written g Q sort true a h = h
signed_written g Q sort false a h = h

literals_written : (g : KoreSignature) (Q : SortedName → Type 0) (sort : KoreSort) (c : List Literal) → AllByRecursion (λ l. IsPredicateAtom l.atom) c → AllByRecursion Q (clause_variables c) → AllByRecursion Q (all_free_variables (written_literals g sort c))
literals_written g Q sort [] o a = tt
literals_written g Q sort (l ∷ c) o a = all_both Q (free_variables (written_literal g sort l)) (all_free_variables (written_literals g sort c))
    (signed_written g Q sort l.holds l.atom (atom_written g Q sort l.atom o.0 (all_first Q (atom_variables l.atom) (clause_variables c) a)))
    (literals_written g Q sort c o.1 (all_second Q (atom_variables l.atom) (clause_variables c) a))

by_name : (g : KoreSignature) (Q : SortedName → Type 0) (sort s : KoreSort) (b : Bool) (t u : SymbolicTerm) → AllByRecursion Q (term_variables t ++ term_variables u) → AllByRecursion Q (free_variables (written_atom g sort (turned_if b s t u)))
by_name g Q sort s true t u a = sides_written g Q s u t (all_second Q (term_variables t) (term_variables u) a) (all_first Q (term_variables t) (term_variables u) a)
by_name g Q sort s false t u a = sides_written g Q s t u (all_first Q (term_variables t) (term_variables u) a) (all_second Q (term_variables t) (term_variables u) a)

turned_written : (g : KoreSignature) (Q : SortedName → Type 0) (sort : KoreSort) (b : Bool) (a : Atom) → IsPredicateAtom a → AllByRecursion Q (atom_variables a) → AllByRecursion Q (free_variables (written_literal g sort (turned g b a)))
turned_written g Q sort true (same s (unknown x) (unknown y)) o a = by_name g Q sort s (is_second_solved g x y) (unknown x) (unknown y) a
turned_written g Q sort true (same s (offset x c) (unknown y)) o a = by_name g Q sort s (is_solved_by g y (offset x c)) (offset x c) (unknown y) a
turned_written g Q sort true (same s (known u) (unknown y)) o a = by_name g Q sort s (is_solved_by g y (known u)) (known u) (unknown y) a
turned_written g Q sort true (same s (headed f ts) (unknown y)) o a = by_name g Q sort s (is_solved_by g y (headed f ts)) (headed f ts) (unknown y) a
turned_written g Q sort true (same s (unknown x) (offset y c)) o a = by_name g Q sort s false (unknown x) (offset y c) a
turned_written g Q sort true (same s (unknown x) (known u)) o a = by_name g Q sort s false (unknown x) (known u) a
turned_written g Q sort true (same s (unknown x) (headed f ts)) o a = by_name g Q sort s false (unknown x) (headed f ts) a
turned_written g Q sort true (same s (offset x k) (offset y c)) o a = by_name g Q sort s false (offset x k) (offset y c) a
turned_written g Q sort true (same s (offset x k) (known u)) o a = by_name g Q sort s false (offset x k) (known u) a
turned_written g Q sort true (same s (offset x k) (headed f ts)) o a = by_name g Q sort s false (offset x k) (headed f ts) a
turned_written g Q sort true (same s (known w) (offset y c)) o a = by_name g Q sort s false (known w) (offset y c) a
turned_written g Q sort true (same s (known w) (known u)) o a = by_name g Q sort s false (known w) (known u) a
turned_written g Q sort true (same s (known w) (headed f ts)) o a = by_name g Q sort s false (known w) (headed f ts) a
turned_written g Q sort true (same s (headed h us) (offset y c)) o a = by_name g Q sort s false (headed h us) (offset y c) a
turned_written g Q sort true (same s (headed h us) (known u)) o a = by_name g Q sort s false (headed h us) (known u) a
turned_written g Q sort true (same s (headed h us) (headed f ts)) o a = by_name g Q sort s false (headed h us) (headed f ts) a
turned_written g Q sort true (has_head x test) o a = atom_written g Q sort (has_head x test) o a
turned_written g Q sort true (quoted p rs) o a = atom_written g Q sort (quoted p rs) o a
turned_written g Q sort false a o h = signed_written g Q sort false a (atom_written g Q sort a o h)

clause_written : (g : KoreSignature) (Q : SortedName → Type 0) (sort : KoreSort) (c : List Literal) → AllByRecursion (λ l. IsPredicateAtom l.atom) c → AllByRecursion Q (clause_variables c) → AllByRecursion Q (free_variables (written_clause g sort c))
clause_written g Q sort [] o a = tt
clause_written g Q sort (l ∷ []) o a = turned_written g Q sort l.holds l.atom o.0 (all_first Q (atom_variables l.atom) [] a)
clause_written g Q sort (l ∷ m ∷ c) o a = literals_written g Q sort (l ∷ m ∷ c) o a

all_at_hand : (g : KoreSignature) (hand : List SortedName) (c : List Literal) → AllByRecursion (Good g hand) c → AllByRecursion (λ x. Contains hand x) (clause_variables c)
all_at_hand g hand [] h = tt
all_at_hand g hand (l ∷ c) h = all_both (λ x. Contains hand x) (atom_variables l.atom) (clause_variables c) h.0.1 (all_at_hand g hand c h.1)

pub written_of_these : (g : KoreSignature) (s : SymbolicState) (c : List Literal) → AllByRecursion (Good g s.variables) c → AllByRecursion (λ l. IsPredicateAtom l.atom) c → IsWrittenOfThese g s c
written_of_these g s c h o = clause_written g (λ x. Contains s.variables x) s.sort c o (all_at_hand g s.variables c h)

-- ---- states

all_written_of_these : (g : KoreSignature) (s : SymbolicState) (cs : List (List Literal)) → AllByRecursion (AllByRecursion (Good g s.variables)) cs → AllByRecursion (AllByRecursion (λ l. IsPredicateAtom l.atom)) cs → AllByRecursion (λ x. Contains s.variables x) (all_free_variables (written_clauses g s.sort cs))
all_written_of_these g s [] h o = tt
all_written_of_these g s (c ∷ cs) h o = all_both (λ x. Contains s.variables x) (free_variables (written_clause g s.sort c)) (all_free_variables (written_clauses g s.sort cs)) (written_of_these g s c h.0 o.0) (all_written_of_these g s cs h.1 o.1)

beside_term : (g : KoreSignature) (s : SymbolicState) (cs : List (List Literal)) → s.clauses ≡ cs → IsSortedState g s → AllByRecursion (λ x. Contains s.variables x) (all_free_variables (written_clauses g s.sort cs)) → AllByRecursion (λ x. Contains s.variables x) (free_variables (written_state g s))
beside_term g s [] e k a = rw e (written_variables g (λ x. Contains s.variables x) s.sort s.term k.term_at_hand)
beside_term g s (c ∷ cs) e k a = rw e (all_both (λ x. Contains s.variables x) (free_variables (written_term g s.sort s.term)) (all_free_variables (written_clauses g s.sort (c ∷ cs))) (written_variables g (λ x. Contains s.variables x) s.sort s.term k.term_at_hand) a)

pub state_of_these : (g : KoreSignature) (s : SymbolicState) → IsSortedState g s → AllByRecursion (AllByRecursion (λ l. IsPredicateAtom l.atom)) s.clauses → AllByRecursion (λ x. Contains s.variables x) (free_variables (written_state g s))
state_of_these g s k o = beside_term g s s.clauses refl k (all_written_of_these g s s.clauses k.literals o)
