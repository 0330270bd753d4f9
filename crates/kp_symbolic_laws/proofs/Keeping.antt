-- A literal, a clause, a state with the sorts of its places keeps them where an equation is solved.
use Rattle.std.proofs.Common.{◌≡◌, refl, subst, ℕ, zero, suc, ◌+◌, Bool, true, false, not, ◌&&◌, List, [], ◌∷◌, ◌++◌, map, length, Option, Some, None}
use Rattle.std.specs.Prelude.{if◌then◌else◌, is_some}
use Rattle.std.specs.Bool.{beq}
use Rattle.std.specs.List.{AllByRecursion, Contains, flat_map}
use Rattle.std.specs.Str.{bytes_eq}
use Rattle.std.proofs.lemmas.Slice.Eq.{bytes_eq-Decides}
use Rattle.kp_kore.specs.Syntax.{KoreSort}
use Rattle.kp_kore.specs.Parts.{SortedName, free_variables}
use Rattle.kp_kore.specs.Signature.{KoreSignature, meaning_of, integers, itself}
use Rattle.kp_kore.specs.Value.{head_of}
use Rattle.kp_kore.specs.Instance.{is_named}
use Rattle.kp_symbolic.specs.Terms.{SymbolicTerm, unknown, offset, known, headed, term_variables, Replaced, replacement_for}
use Rattle.kp_symbolic.specs.Formulas.{Formula}
use Rattle.kp_symbolic.specs.States.{HeadTest, Atom, same, has_head, quoted, atom_variables, variables_for, Literal, clause_variables}
use Rattle.kp_symbolic.specs.WellFormed.{IsWellSorted, IsWellSortedAtom, AreWellPlaced, AreAtHand}
use Rattle.kp_symbolic.specs.Folding.{term_for, replaced}
use Rattle.kp_symbolic.specs.Heads.{passes_head, head_answer}
use Rattle.kp_symbolic.specs.Opening.{fixed, literal_fact, opened_test}
use Rattle.kp_symbolic.specs.Clauses.{distributed, is_too_large}
use Rattle.kp_symbolic.specs.Writing.{written_clause}
use Rattle.kp_symbolic.specs.Solving.{Equation, replacement, opened_with, all_opened_with, is_single, opened_clause, solved_clause, literals_in, solved_clauses}
use Rattle.kp_symbolic.proofs.Distribution.{all_both, all_first, all_second}
use Rattle.kp_symbolic.proofs.Folded.{OfEach}
use Rattle.kp_symbolic.proofs.Replacing.{replaced_variables}
use Rattle.kp_symbolic.proofs.WellSorted.{sorted_written}
use Rattle.kp_symbolic.proofs.SortedFolding.{replaced_sorted}
use Rattle.kp_symbolic.proofs.Facts.{AllFacts, AllIn, clauses_have, Good, GoodTerm, opened_same_good, fixed_or_good}
use Rattle.kp_symbolic.proofs.KeptFacts.{test_by}
use Rattle.kp_symbolic_laws.specs.Runs.{HasOneSortEach, kept_whole, IfKeptWhole, OfKeptWhole}
use Rattle.kp_symbolic_laws.proofs.RightEquations.{IsRightEquation}

-- ---- what is put in a variable's place

abbrev pub IsPut : KoreSignature → List SortedName → SortedName → Option SymbolicTerm → Type 0
IsPut g hand x o = IsWellSorted g x.sort (term_for x o) × AreAtHand (variables_for x o) hand

pub one_put : (g : KoreSignature) (hand : List SortedName) (e : Equation) (x : SortedName) → HasOneSortEach hand → IsRightEquation g hand e → Contains hand x → IsPut g hand x (replacement_for (replacement e) x.name)
one_put g hand e x one r c = by (bytes_eq e.variable.name x.name) refl
  where
    by : (b : Bool) → bytes_eq e.variable.name x.name ≡ b → IsPut g hand x (if b then Some e.term else None)
    by true i = (subst (λ s. IsWellSorted g s e.term) (one e.variable x r.variable c ((bytes_eq-Decides e.variable.name x.name).0 i)) r.sorted, r.at_hand)
    by false i = (itself x.sort, (c, tt))

pub all_placed : (g : KoreSignature) (hand : List SortedName) (e : Equation) (xs : List SortedName) → HasOneSortEach hand → IsRightEquation g hand e → AreAtHand xs hand → AreWellPlaced g (replacement e) xs
all_placed g hand e [] one r a = tt
all_placed g hand e (x ∷ xs) one r a = ((one_put g hand e x one r a.0).0, all_placed g hand e xs one r a.1)

pub all_given : (g : KoreSignature) (hand : List SortedName) (e : Equation) (xs : List SortedName) → HasOneSortEach hand → IsRightEquation g hand e → AreAtHand xs hand → OfEach (replacement e) (λ x. Contains hand x) xs
all_given g hand e [] one r a = tt
all_given g hand e (x ∷ xs) one r a = ((one_put g hand e x one r a.0).1, all_given g hand e xs one r a.1)

pub put_in : (g : KoreSignature) (hand : List SortedName) (e : Equation) (s : KoreSort) (t : SymbolicTerm) → HasOneSortEach hand → IsRightEquation g hand e → GoodTerm g hand s t → GoodTerm g hand s (replaced g (replacement e) t)
put_in g hand e s t one r i = (
  replaced_sorted g (replacement e) s t i.0 (all_placed g hand e (term_variables t) one r i.1),
  replaced_variables g (replacement e) (λ x. Contains hand x) t (sorted_written g s t i.0) (all_given g hand e (term_variables t) one r i.1),
)

-- ---- tests of heads

fixed_good : (P : Literal → Type 0) (b : Bool) → AllFacts P (fixed b)
fixed_good P true = tt
fixed_good P false = tt

pub test_good : (g : KoreSignature) (hand : List SortedName) (b : Bool) (test : HeadTest) (kept : Formula Literal) (t : SymbolicTerm) → AllFacts (Good g hand) kept → AreAtHand (term_variables t) hand → AllFacts (Good g hand) (opened_test g b test kept t)
test_good g hand b test kept (unknown x) k a = fixed_or_good (Good g hand) (head_answer g x.sort test) b (literal_fact b (has_head x test)) (tt, (a.0, tt))
test_good g hand b test kept (offset x c) k a = fixed_good (Good g hand) (beq (passes_head g test integers) b)
test_good g hand b test kept (known u) k a = fixed_good (Good g hand) (beq (passes_head g test (head_of u)) b)
test_good g hand b test kept (headed f ts) k a = test_by g (Good g hand) b test kept f (meaning_of g f) k

-- ---- quoted predicates

abbrev pub put_into : KoreSignature → Equation → List Replaced → List Replaced
put_into g e rs = map (λ r. record { name = r.name; term = replaced g (replacement e) r.term }) rs

after_put : (g : KoreSignature) (hand : List SortedName) (e : Equation) (rs tail : List Replaced) (x : SortedName) → HasOneSortEach hand → IsRightEquation g hand e → IsPut g hand x (replacement_for rs x.name) → (Contains hand x → IsPut g hand x (replacement_for tail x.name)) → IsPut g hand x (replacement_for (put_into g e rs ++ tail) x.name)
after_put g hand e [] tail x one r i k = k i.1.0
after_put g hand e (q ∷ rs) tail x one r i k = by (bytes_eq q.name x.name) i (λ j. after_put g hand e rs tail x one r j k)
  where
    by : (b : Bool) → IsPut g hand x (if b then Some q.term else replacement_for rs x.name) → (IsPut g hand x (replacement_for rs x.name) → IsPut g hand x (replacement_for (put_into g e rs ++ tail) x.name)) → IsPut g hand x (if b then Some (replaced g (replacement e) q.term) else replacement_for (put_into g e rs ++ tail) x.name)
    by true j f = put_in g hand e x.sort q.term one r j
    by false j f = f j

tail_put : (g : KoreSignature) (hand : List SortedName) (e : Equation) (b : Bool) (x : SortedName) → HasOneSortEach hand → IsRightEquation g hand e → Contains hand x → IsPut g hand x (replacement_for (if b then replacement e else []) x.name)
tail_put g hand e true x one r c = one_put g hand e x one r c
tail_put g hand e false x one r c = (itself x.sort, (c, tt))

abbrev variables_in : List Replaced → List SortedName → List SortedName
variables_in rs xs = flat_map (λ x. variables_for x (replacement_for rs x.name)) xs

all_after : (g : KoreSignature) (hand : List SortedName) (e : Equation) (b : Bool) (rs : List Replaced) (xs : List SortedName) → HasOneSortEach hand → IsRightEquation g hand e → AreWellPlaced g rs xs → AreAtHand (variables_in rs xs) hand
    → AreWellPlaced g (put_into g e rs ++ (if b then replacement e else [])) xs × AreAtHand (variables_in (put_into g e rs ++ (if b then replacement e else [])) xs) hand
all_after g hand e b rs [] one r w a = (tt, tt)
all_after g hand e b rs (x ∷ xs) one r w a =
    let At = λ (y : SortedName). Contains hand y in
    let after = put_into g e rs ++ (if b then replacement e else []) in
    let here = after_put g hand e rs (if b then replacement e else []) x one r (w.0, all_first At (variables_for x (replacement_for rs x.name)) (variables_in rs xs) a) (tail_put g hand e b x one r) in
    let rest = all_after g hand e b rs xs one r w.1 (all_second At (variables_for x (replacement_for rs x.name)) (variables_in rs xs) a) in
    ((here.0, rest.0), all_both At (variables_for x (replacement_for after x.name)) (variables_in after xs) here.1 rest.1)

-- ---- atoms

pub atom_keeps : (g : KoreSignature) (hand : List SortedName) (e : Equation) (alone b : Bool) (a : Atom) → HasOneSortEach hand → IsRightEquation g hand e → IsWellSortedAtom g a × AreAtHand (atom_variables a) hand → AllFacts (Good g hand) (opened_with g e alone b a)
atom_keeps g hand e alone b (same s t u) one r i =
    let At = λ (x : SortedName). Contains hand x in
    opened_same_good g hand alone b s (replaced g (replacement e) t) (replaced g (replacement e) u)
    (put_in g hand e s t one r (i.0.0, all_first At (term_variables t) (term_variables u) i.1))
    (put_in g hand e s u one r (i.0.1, all_second At (term_variables t) (term_variables u) i.1))
atom_keeps g hand e alone b (has_head x test) one r i = test_good g hand b test (literal_fact b (has_head x test)) (replaced g (replacement e) (unknown x)) (tt, i.1) (put_in g hand e x.sort (unknown x) one r (itself x.sort, i.1)).1
atom_keeps g hand e alone b (quoted p rs) one r i = all_after g hand e (is_named e.variable.name (free_variables p) && not (is_some (replacement_for rs e.variable.name))) rs (free_variables p) one r i.0 i.1

literals_keep : (g : KoreSignature) (hand : List SortedName) (e : Equation) (alone : Bool) (c : List Literal) → HasOneSortEach hand → IsRightEquation g hand e → AllByRecursion (Good g hand) c → AllIn (Good g hand) (all_opened_with g e alone c)
literals_keep g hand e alone [] one r i = tt
literals_keep g hand e alone (l ∷ c) one r i = (atom_keeps g hand e alone l.holds l.atom one r i.0, literals_keep g hand e alone c one r i.1)

-- ---- clauses

flattened : (Q : SortedName → Type 0) (rs : List Replaced) (xs : List SortedName) → OfEach rs Q xs → AllByRecursion Q (variables_in rs xs)
flattened Q rs [] a = tt
flattened Q rs (x ∷ xs) a = all_both Q (variables_for x (replacement_for rs x.name)) (variables_in rs xs) a.0 (flattened Q rs xs a.1)

kept_good : (g : KoreSignature) (hand : List SortedName) (sort : KoreSort) (e : Equation) (c : List Literal) → HasOneSortEach hand → IsRightEquation g hand e → AreAtHand (free_variables (written_clause g sort c)) hand → AllByRecursion (Good g hand) (kept_whole g sort e c)
kept_good g hand sort e c one r a =
    let xs = free_variables (written_clause g sort c) in
    ((all_placed g hand e xs one r a, flattened (λ x. Contains hand x) (replacement e) xs (all_given g hand e xs one r a)), tt)

-- by what becomes of a clause: it stays, it is kept as one literal, or it is opened again
pub by_case : (R : List (List Literal) → Type 0) (W : Type 0) (b d : Bool) (c k : List Literal) (ds : List (List Literal)) → (b ≡ true → d ≡ true → W) → R (c ∷ []) → (W → R (k ∷ [])) → R ds → R (if not b then c ∷ [] else if d then k ∷ [] else ds)
by_case R W false d c k ds w i f j = i
by_case R W true true c k ds w i f j = f (w refl refl)
by_case R W true false c k ds w i f j = j

clause_keeps : (g : KoreSignature) (hand : List SortedName) (sort : KoreSort) (e : Equation) (n : ℕ) (c : List Literal) → HasOneSortEach hand → IsRightEquation g hand e → IfKeptWhole g e (λ d. AreAtHand (free_variables (written_clause g sort d)) hand) n c → AllByRecursion (Good g hand) c → AllByRecursion (AllByRecursion (Good g hand)) (solved_clause g sort e n c)
clause_keeps g hand sort e n c one r w i = by_case (AllByRecursion (AllByRecursion (Good g hand))) (AreAtHand (free_variables (written_clause g sort c)) hand) (is_named e.variable.name (clause_variables c)) (is_too_large n (opened_clause g e c)) c (kept_whole g sort e c) (distributed (opened_clause g e c)) w
    (i, tt)
    (λ a. (kept_good g hand sort e c one r a, tt))
    (clauses_have (Good g hand) (opened_clause g e c) (literals_keep g hand e (is_single c) c one r i))

pub clauses_keep : (g : KoreSignature) (hand : List SortedName) (sort : KoreSort) (e : Equation) (n : ℕ) (o : Option ℕ) (cs : List (List Literal)) → HasOneSortEach hand → IsRightEquation g hand e → OfKeptWhole g sort e (λ c. AreAtHand (free_variables (written_clause g sort c)) hand) n o cs → AllByRecursion (AllByRecursion (Good g hand)) cs → AllByRecursion (AllByRecursion (Good g hand)) (solved_clauses g sort e n o cs)
clauses_keep g hand sort e n o [] one r w i = tt
clauses_keep g hand sort e n (Some zero) (c ∷ cs) one r w i = (i.0, clauses_keep g hand sort e (n + length c) None cs one r w i.1)
clauses_keep g hand sort e n (Some (suc j)) (c ∷ cs) one r w i =
    let first = solved_clause g sort e n c in
    let m = n + literals_in first in
    all_both (AllByRecursion (Good g hand)) first (solved_clauses g sort e m (Some j) cs) (clause_keeps g hand sort e n c one r w.0 i.0) (clauses_keep g hand sort e m (Some j) cs one r w.1 i.1)
clauses_keep g hand sort e n None (c ∷ cs) one r w i =
    let first = solved_clause g sort e n c in
    let m = n + literals_in first in
    all_both (AllByRecursion (Good g hand)) first (solved_clauses g sort e m None cs) (clause_keeps g hand sort e n c one r w.0 i.0) (clauses_keep g hand sort e m None cs one r w.1 i.1)

-- ---- what holds of the clauses that are kept as one literal

pub whole_of_all : (g : KoreSignature) (sort : KoreSort) (e : Equation) (P R : List Literal → Type 0) (n : ℕ) (o : Option ℕ) (cs : List (List Literal)) → ((c : List Literal) → R c → P c) → AllByRecursion R cs → OfKeptWhole g sort e P n o cs
whole_of_all g sort e P R n o [] f a = tt
whole_of_all g sort e P R n (Some zero) (c ∷ cs) f a = whole_of_all g sort e P R (n + length c) None cs f a.1
whole_of_all g sort e P R n (Some (suc i)) (c ∷ cs) f a = ((λ x y. f c a.0), whole_of_all g sort e P R (n + literals_in (solved_clause g sort e n c)) (Some i) cs f a.1)
whole_of_all g sort e P R n None (c ∷ cs) f a = ((λ x y. f c a.0), whole_of_all g sort e P R (n + literals_in (solved_clause g sort e n c)) None cs f a.1)

pub whole_also : (g : KoreSignature) (sort : KoreSort) (e : Equation) (P Q R : List Literal → Type 0) (n : ℕ) (o : Option ℕ) (cs : List (List Literal)) → ((c : List Literal) → R c → P c → Q c) → AllByRecursion R cs → OfKeptWhole g sort e P n o cs → OfKeptWhole g sort e Q n o cs
whole_also g sort e P Q R n o [] f a w = tt
whole_also g sort e P Q R n (Some zero) (c ∷ cs) f a w = whole_also g sort e P Q R (n + length c) None cs f a.1 w
whole_also g sort e P Q R n (Some (suc i)) (c ∷ cs) f a w = ((λ x y. f c a.0 (w.0 x y)), whole_also g sort e P Q R (n + literals_in (solved_clause g sort e n c)) (Some i) cs f a.1 w.1)
whole_also g sort e P Q R n None (c ∷ cs) f a w = ((λ x y. f c a.0 (w.0 x y)), whole_also g sort e P Q R (n + literals_in (solved_clause g sort e n c)) None cs f a.1 w.1)
