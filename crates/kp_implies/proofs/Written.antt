-- The equalities that may be written have the sorts of their places, and are true where the clauses are from which they come.
use Rattle.std.specs.Prelude.{◌≡◌, ℤ, neg_ℤ, ◌+ℤ◌, Bool, true, false, not, ◌&&◌, List, [], ◌∷◌, Option, Some, None, if◌then◌else◌, ⊤}
use Rattle.std.specs.List.{AllByRecursion, Contains}
use Rattle.std.specs.Str.{bytes_eq}
use Rattle.std.proofs.Common.{refl, sym, ◌∙◌, ap, subst}
use Rattle.std.proofs.lemmas.Slice.Eq.{bytes_eq-Decides}
use Rattle.kp_kore.specs.Syntax.{KoreSort}
use Rattle.kp_kore.specs.Attributes.{sorts_equal}
use Rattle.kp_kore.specs.Forms.{two}
use Rattle.kp_kore.specs.Hooks.{whole_arithmetic, addition}
use Rattle.kp_kore.specs.Interpretation.{interpreted}
use Rattle.kp_kore.specs.Parts.{SortedName}
use Rattle.kp_kore.specs.Signature.{KoreSignature, itself}
use Rattle.kp_kore.specs.Value.{whole}
use Rattle.kp_kore.specs.Instance.{Valuation, GivesSorts, is_named}
use Rattle.kp_kore.proofs.InstanceLemmas.{first_true, second_true}
use Rattle.kp_kore.proofs.SameLemmas.{sorts_equal-Decides}
use Rattle.kp_symbolic.specs.Terms.{SymbolicTerm, unknown, offset, known, headed, term_instance, term_variables}
use Rattle.kp_symbolic.specs.States.{Atom, same, IsAtomTrue, Literal, IsClauseTrue, AreTrue}
use Rattle.kp_symbolic.specs.WellFormed.{term_sort, is_sort_below}
use Rattle.kp_symbolic.specs.Opening.{opened_same}
use Rattle.kp_symbolic.specs.Clauses.{distributed, is_too_large}
use Rattle.kp_symbolic.specs.Writing.{is_solved_by}
use Rattle.kp_symbolic.proofs.Distribution.{all_both, all_first, all_second}
use Rattle.kp_symbolic.proofs.Facts.{Good, GoodTerm, clauses_have, opened_same_good}
use Rattle.kp_symbolic_laws.proofs.RightEquations.{term_at}
use Rattle.kp_goals.specs.Gives.{shifted}
use Rattle.kp_goals.proofs.Assembled.{equality_says}
use Rattle.kp_goals.proofs.GivenSays.{side_number, alone_says}
use Rattle.kp_goals.proofs.GoodGivens.{shifted_good}
use Rattle.kp_goals.proofs.OpenPlaces.{summed_apart}
use Rattle.kp_goals.proofs.ShiftLemmas.{IsShift, shifted_says, plus_number, back}
use Rattle.kp_implies.specs.Printed.{at_variable, alone_first, oriented, only_atom, equality_in, equalities_in, Matched, is_constructed, matched_in, with_match, first_of, exchanged_for, exchanged_one, exchanged, equalities}

-- an equality of terms with the sorts of their places, of variables at hand
abbrev pub IsRightEquality : KoreSignature → List SortedName → Atom → Type 0
IsRightEquality g hand (same s t u) = GoodTerm g hand s t × GoodTerm g hand s u
IsRightEquality g hand a = ⊥

-- ---- how an equality is written

below_of : (g : KoreSignature) (x : SortedName) (t : SymbolicTerm) → is_solved_by g x t ≡ true → is_sort_below g (term_sort g t) x.sort ≡ true
below_of g x t e = second_true (not (is_named x.name (term_variables t))) (is_sort_below g (term_sort g t) x.sort) e

variable_right : (g : KoreSignature) (hand : List SortedName) (s : KoreSort) (x : SortedName) (u : SymbolicTerm) → GoodTerm g hand s (unknown x) → GoodTerm g hand s u → IsRightEquality g hand (at_variable g s (unknown x) u)
variable_right g hand s x u i j = by_test (is_solved_by g x u) refl
  where
    by_test : (b : Bool) → is_solved_by g x u ≡ b → IsRightEquality g hand (if b then same x.sort (unknown x) u else same s (unknown x) u)
    by_test true e = ((itself x.sort, i.1), (term_at g s x.sort u j.0 (below_of g x u e), j.1))
    by_test false e = (i, j)

at_variable_right : (g : KoreSignature) (hand : List SortedName) (s : KoreSort) (t u : SymbolicTerm) → GoodTerm g hand s t → GoodTerm g hand s u → IsRightEquality g hand (at_variable g s t u)
at_variable_right g hand s (unknown x) u i j = variable_right g hand s x u i j
at_variable_right g hand s (offset x c) u i j = (i, j)
at_variable_right g hand s (known w) u i j = (i, j)
at_variable_right g hand s (headed f ts) u i j = (i, j)

at_variable_true : (g : KoreSignature) (v : Valuation) (s : KoreSort) (t u : SymbolicTerm) → term_instance g v t ≡ term_instance g v u → IsAtomTrue g v (at_variable g s t u)
at_variable_true g v s (unknown x) u e = by_test (is_solved_by g x u)
  where
    by_test : (b : Bool) → IsAtomTrue g v (if b then same x.sort (unknown x) u else same s (unknown x) u)
    by_test true = e
    by_test false = e
at_variable_true g v s (offset x c) u e = e
at_variable_true g v s (known w) u e = e
at_variable_true g v s (headed f ts) u e = e

alone_right : (g : KoreSignature) (hand : List SortedName) (s : KoreSort) (t u : SymbolicTerm) (y : SortedName) (o : Option SymbolicTerm) → GoodTerm g hand s t → GoodTerm g hand s u → Contains hand y →
    ((n : SymbolicTerm) → o ≡ Some n → (d : KoreSort) × GoodTerm g hand d n) → IsRightEquality g hand (alone_first g s t u y o)
alone_right g hand s t u y None i j has k = at_variable_right g hand s t u i j
alone_right g hand s t u y (Some n) i j has k = by_test (is_solved_by g y n) refl
  where
    by_test : (b : Bool) → is_solved_by g y n ≡ b → IsRightEquality g hand (if b then same y.sort (unknown y) n else at_variable g s t u)
    by_test true e = let m = k n refl in ((itself y.sort, (has, tt)), (term_at g m.0 y.sort n m.1.0 (below_of g y n e), m.1.1))
    by_test false e = at_variable_right g hand s t u i j

alone_true : (g : KoreSignature) (v : Valuation) (s : KoreSort) (t u : SymbolicTerm) (y : SortedName) (o : Option SymbolicTerm) → term_instance g v t ≡ term_instance g v u →
    ((n : SymbolicTerm) → o ≡ Some n → v y.name ≡ term_instance g v n) → IsAtomTrue g v (alone_first g s t u y o)
alone_true g v s t u y None e k = at_variable_true g v s t u e
alone_true g v s t u y (Some n) e k = by_test (is_solved_by g y n)
  where
    by_test : (b : Bool) → IsAtomTrue g v (if b then same y.sort (unknown y) n else at_variable g s t u)
    by_test true = k n refl
    by_test false = at_variable_true g v s t u e

some_is : {A : Type 0} {a b : A} → Some a ≡ Some b → a ≡ b
some_is e = cc

oriented_right : (g : KoreSignature) (hand : List SortedName) (s : KoreSort) (t u : SymbolicTerm) → GoodTerm g hand s t → GoodTerm g hand s u → IsRightEquality g hand (oriented g s t u)
oriented_right g hand s t (unknown y) i j = alone_right g hand s t (unknown y) y (Some t) i j j.1.0 (λ n e. (s, subst (GoodTerm g hand s) (some_is e) i))
oriented_right g hand s t (offset y c) i j = alone_right g hand s t (offset y c) y (shifted g (neg_ℤ c) t) i j j.1.0 (λ n e. let m = shifted_good g hand (neg_ℤ c) s t n i e in (m.sort, m.good))
oriented_right g hand s t (known w) i j = at_variable_right g hand s t (known w) i j
oriented_right g hand s t (headed f ts) i j = at_variable_right g hand s t (headed f ts) i j

-- t is y with c added, so y is t less c
less_is : (g : KoreSignature) (hand : List SortedName) (v : Valuation) (s : KoreSort) (t n : SymbolicTerm) (y : SortedName) (c : ℤ) → GivesSorts g v hand → GoodTerm g hand s t → GoodTerm g hand s (offset y c) →
    term_instance g v t ≡ term_instance g v (offset y c) → shifted g (neg_ℤ c) t ≡ Some n → v y.name ≡ term_instance g v n
less_is g hand v s t n y c sorts i j e q =
    let k : IsShift g v (neg_ℤ c) t n = shifted_says g v (neg_ℤ c) t n (side_number g hand v s t sorts i) q in
    let there : interpreted (whole_arithmetic addition) (two (term_instance g v n) (whole c)) ≡ term_instance g v t = plus_number (term_instance g v n) (k.number +ℤ neg_ℤ c) c k.shifted ∙ ap whole (back k.number c) ∙ sym k.is in
    summed_apart (v y.name) (term_instance g v n) c (side_number g hand v s (offset y c) sorts j) (k.number +ℤ neg_ℤ c, k.shifted) (sym e ∙ sym there)

oriented_true : (g : KoreSignature) (hand : List SortedName) (v : Valuation) (s : KoreSort) (t u : SymbolicTerm) → GivesSorts g v hand → GoodTerm g hand s t → GoodTerm g hand s u → term_instance g v t ≡ term_instance g v u → IsAtomTrue g v (oriented g s t u)
oriented_true g hand v s t (unknown y) sorts i j e = alone_true g v s t (unknown y) y (Some t) e (λ n q. sym (subst (λ z. term_instance g v z ≡ v y.name) (some_is q) e))
oriented_true g hand v s t (offset y c) sorts i j e = alone_true g v s t (offset y c) y (shifted g (neg_ℤ c) t) e (λ n q. less_is g hand v s t n y c sorts i j e q)
oriented_true g hand v s t (known w) sorts i j e = at_variable_true g v s t (known w) e
oriented_true g hand v s t (headed f ts) sorts i j e = at_variable_true g v s t (headed f ts) e

-- ---- clauses that are one equality

-- how an equality is written keeps its sorts, and what it says
record IsWriter (g : KoreSignature) (hand : List SortedName) (write : KoreSort → SymbolicTerm → SymbolicTerm → Atom) : Type 0 where
  right : (s : KoreSort) (t u : SymbolicTerm) → GoodTerm g hand s t → GoodTerm g hand s u → IsRightEquality g hand (write s t u)
  says : (v : Valuation) (s : KoreSort) (t u : SymbolicTerm) → GivesSorts g v hand → GoodTerm g hand s t → GoodTerm g hand s u → term_instance g v t ≡ term_instance g v u → IsAtomTrue g v (write s t u)

oriented_writer : (g : KoreSignature) (hand : List SortedName) → IsWriter g hand (oriented g)
oriented_writer g hand = record { right = oriented_right g hand; says = oriented_true g hand }

as_it_stands : (g : KoreSignature) (hand : List SortedName) → IsWriter g hand same
as_it_stands g hand = record { right = λ s t u i j. (i, j); says = λ v s t u sorts i j e. e }

abbrev alone : Bool → Atom → List Literal
alone b a = record { holds = b; atom = a } ∷ []

left_good : (g : KoreSignature) (hand : List SortedName) (b : Bool) (s : KoreSort) (t u : SymbolicTerm) → AllByRecursion (Good g hand) (alone b (same s t u)) → GoodTerm g hand s t
left_good g hand b s t u h = (h.0.0.0, all_first (λ (x : SortedName). Contains hand x) (term_variables t) (term_variables u) h.0.1)

right_good : (g : KoreSignature) (hand : List SortedName) (b : Bool) (s : KoreSort) (t u : SymbolicTerm) → AllByRecursion (Good g hand) (alone b (same s t u)) → GoodTerm g hand s u
right_good g hand b s t u h = (h.0.0.1, all_second (λ (x : SortedName). Contains hand x) (term_variables t) (term_variables u) h.0.1)

-- what holds of a clause's only literal
record IsOnly (P : List Literal → Type 0) (o : Option Atom) : Type 0 where
  has : (a : Atom) → o ≡ Some a → P (alone true a)

only_has : (P : List Literal → Type 0) (c : List Literal) → P c → IsOnly P (only_atom c)
only_has P [] h = record { has = λ a e. absurd (cc) }
only_has P (l ∷ []) h = by l.holds refl
  where
    by : (b : Bool) → l.holds ≡ b → IsOnly P (if b then Some l.atom else None)
    by true i = record { has = λ a e. subst (λ q. P (alone true q)) (some_is e) (subst (λ d. P (alone d l.atom)) i h) }
    by false i = record { has = λ a e. absurd (cc) }
only_has P (l ∷ m ∷ c) h = record { has = λ a e. absurd (cc) }

in_right : (g : KoreSignature) (hand : List SortedName) (write : KoreSort → SymbolicTerm → SymbolicTerm → Atom) → IsWriter g hand write → (o : Option Atom) → IsOnly (AllByRecursion (Good g hand)) o → AllByRecursion (IsRightEquality g hand) (equality_in write o)
in_right g hand write w (Some (same s t u)) i = let h = i.has (same s t u) refl in (w.right s t u (left_good g hand true s t u h) (right_good g hand true s t u h), tt)
in_right g hand write w o i = tt

all_in_right : (g : KoreSignature) (hand : List SortedName) (write : KoreSort → SymbolicTerm → SymbolicTerm → Atom) → IsWriter g hand write → (cs : List (List Literal)) → AllByRecursion (AllByRecursion (Good g hand)) cs → AllByRecursion (IsRightEquality g hand) (equalities_in write cs)
all_in_right g hand write w [] h = tt
all_in_right g hand write w (c ∷ cs) h = all_both (IsRightEquality g hand) (equality_in write (only_atom c)) (equalities_in write cs) (in_right g hand write w (only_atom c) (only_has (AllByRecursion (Good g hand)) c h.0)) (all_in_right g hand write w cs h.1)

in_true : (g : KoreSignature) (hand : List SortedName) (write : KoreSort → SymbolicTerm → SymbolicTerm → Atom) (v : Valuation) → IsWriter g hand write → GivesSorts g v hand → (o : Option Atom) → IsOnly (AllByRecursion (Good g hand)) o → IsOnly (IsClauseTrue g v) o → AllByRecursion (IsAtomTrue g v) (equality_in write o)
in_true g hand write v w sorts (Some (same s t u)) i j =
    let h = i.has (same s t u) refl in
    (w.says v s t u sorts (left_good g hand true s t u h) (right_good g hand true s t u h) ((alone_says g v s t u).0 (j.has (same s t u) refl)), tt)
in_true g hand write v w sorts o i j = tt

all_in_true : (g : KoreSignature) (hand : List SortedName) (write : KoreSort → SymbolicTerm → SymbolicTerm → Atom) (v : Valuation) → IsWriter g hand write → GivesSorts g v hand → (cs : List (List Literal)) → AllByRecursion (AllByRecursion (Good g hand)) cs → AreTrue g v cs → AllByRecursion (IsAtomTrue g v) (equalities_in write cs)
all_in_true g hand write v w sorts [] h e = tt
all_in_true g hand write v w sorts (c ∷ cs) h e = all_both (IsAtomTrue g v) (equality_in write (only_atom c)) (equalities_in write cs) (in_true g hand write v w sorts (only_atom c) (only_has (AllByRecursion (Good g hand)) c h.0) (only_has (IsClauseTrue g v) c e.0)) (all_in_true g hand write v w sorts cs h.1 e.1)

-- ---- a variable that is matched twice

abbrev IsGoodMatch : KoreSignature → List SortedName → Matched → Type 0
IsGoodMatch g hand m = GoodTerm g hand m.sort m.term

abbrev IsTrueMatch : KoreSignature → Valuation → Matched → Type 0
IsTrueMatch g v m = v m.variable.name ≡ term_instance g v m.term

-- what holds of a match, if there is one
abbrev OfMatch : (Matched → Type 0) → Option Matched → Type 0
OfMatch P (Some m) = P m
OfMatch P None = ⊤

matched_when : (P : Matched → Type 0) (m : Matched) (b : Bool) → P m → OfMatch P (if b then Some m else None)
matched_when P m true h = h
matched_when P m false h = tt

good_at : (g : KoreSignature) (hand : List SortedName) (o : Option Atom) → IsOnly (AllByRecursion (Good g hand)) o → OfMatch (IsGoodMatch g hand) (matched_in g o)
good_at g hand (Some (same s (unknown x) t)) i = matched_when (IsGoodMatch g hand) (record { variable = x; sort = s; term = t }) (is_constructed g t) (right_good g hand true s (unknown x) t (i.has (same s (unknown x) t) refl))
good_at g hand o i = tt

matched_good : (g : KoreSignature) (hand : List SortedName) (c : List Literal) → AllByRecursion (Good g hand) c → OfMatch (IsGoodMatch g hand) (matched_in g (only_atom c))
matched_good g hand c h = good_at g hand (only_atom c) (only_has (AllByRecursion (Good g hand)) c h)

true_at : (g : KoreSignature) (v : Valuation) (o : Option Atom) → IsOnly (IsClauseTrue g v) o → OfMatch (IsTrueMatch g v) (matched_in g o)
true_at g v (Some (same s (unknown x) t)) i = matched_when (IsTrueMatch g v) (record { variable = x; sort = s; term = t }) (is_constructed g t) ((alone_says g v s (unknown x) t).0 (i.has (same s (unknown x) t) refl))
true_at g v o i = tt

matched_true : (g : KoreSignature) (v : Valuation) (c : List Literal) → IsClauseTrue g v c → OfMatch (IsTrueMatch g v) (matched_in g (only_atom c))
matched_true g v c e = true_at g v (only_atom c) (only_has (IsClauseTrue g v) c e)

with_this : (P : Matched → Type 0) (before : List Matched) (o : Option Matched) → AllByRecursion P before → OfMatch P o → AllByRecursion P (with_match before o)
with_this P before (Some m) h i = all_both P before (m ∷ []) h (i, tt)
with_this P before None h i = h

-- what is found of what was matched before is of the same variable and sort
record IsFirst (P : Matched → Type 0) (m : Matched) (t : SymbolicTerm) : Type 0 where
  match : Matched
  name : match.variable.name ≡ m.variable.name
  sort : match.sort ≡ m.sort
  term : match.term ≡ t
  has : P match

first_is : (P : Matched → Type 0) (before : List Matched) (m : Matched) (t : SymbolicTerm) → AllByRecursion P before → first_of before m ≡ Some t → IsFirst P m t
first_is P [] m t h e = absurd (cc)
first_is P (n ∷ before) m t h e = by_test (bytes_eq n.variable.name m.variable.name && sorts_equal n.sort m.sort) refl e (first_is P before m t h.1)
  where
    by_test : (b : Bool) → bytes_eq n.variable.name m.variable.name && sorts_equal n.sort m.sort ≡ b → (if b then Some n.term else first_of before m) ≡ Some t → (first_of before m ≡ Some t → IsFirst P m t) → IsFirst P m t
    by_test true i e later = record {
      match = n;
      name = (bytes_eq-Decides n.variable.name m.variable.name).0 (first_true (bytes_eq n.variable.name m.variable.name) (sorts_equal n.sort m.sort) i);
      sort = (sorts_equal-Decides n.sort m.sort).0 (second_true (bytes_eq n.variable.name m.variable.name) (sorts_equal n.sort m.sort) i);
      term = some_is e;
      has = h.0;
    }
    by_test false i e later = later e

equality_good : (g : KoreSignature) (hand : List SortedName) (s : KoreSort) (t u : SymbolicTerm) → GoodTerm g hand s t → GoodTerm g hand s u →
    AllByRecursion (AllByRecursion (Good g hand)) (if is_too_large 0 (opened_same g true true s t u) then (record { holds = true; atom = same s t u } ∷ []) ∷ [] else distributed (opened_same g true true s t u))
equality_good g hand s t u i j = by (is_too_large 0 (opened_same g true true s t u))
  where
    by : (b : Bool) → AllByRecursion (AllByRecursion (Good g hand)) (if b then (record { holds = true; atom = same s t u } ∷ []) ∷ [] else distributed (opened_same g true true s t u))
    by true = ((((i.0, j.0), all_both (λ (x : SortedName). Contains hand x) (term_variables t) (term_variables u) i.1 j.1), tt), tt)
    by false = clauses_have (Good g hand) (opened_same g true true s t u) (opened_same_good g hand true true s t u i j)

first_good : (g : KoreSignature) (hand : List SortedName) (m : Matched) (t : SymbolicTerm) → IsFirst (IsGoodMatch g hand) m t → GoodTerm g hand m.sort t
first_good g hand m t i = subst (λ s. GoodTerm g hand s t) i.sort (subst (GoodTerm g hand i.match.sort) i.term i.has)

first_true_is : (g : KoreSignature) (v : Valuation) (m : Matched) (t : SymbolicTerm) → IsFirst (IsTrueMatch g v) m t → v m.variable.name ≡ term_instance g v t
first_true_is g v m t i = ap v (sym i.name) ∙ i.has ∙ ap (term_instance g v) i.term

one_good : (g : KoreSignature) (hand : List SortedName) (before : List Matched) (c : List Literal) (o : Option Matched) → AllByRecursion (IsGoodMatch g hand) before → AllByRecursion (Good g hand) c → OfMatch (IsGoodMatch g hand) o →
    AllByRecursion (AllByRecursion (Good g hand)) (exchanged_one g before c o)
one_good g hand before c None seen h i = (h, tt)
one_good g hand before c (Some m) seen h i = by (first_of before m) refl
  where
    by : (o : Option SymbolicTerm) → first_of before m ≡ o → AllByRecursion (AllByRecursion (Good g hand)) (exchanged_for g c m o)
    by None e = (h, tt)
    by (Some t) e = equality_good g hand m.sort t m.term (first_good g hand m t (first_is (IsGoodMatch g hand) before m t seen e)) i

exchanged_good : (g : KoreSignature) (hand : List SortedName) (before : List Matched) (cs : List (List Literal)) → AllByRecursion (IsGoodMatch g hand) before → AllByRecursion (AllByRecursion (Good g hand)) cs → AllByRecursion (AllByRecursion (Good g hand)) (exchanged g before cs)
exchanged_good g hand before [] seen h = tt
exchanged_good g hand before (c ∷ cs) seen h =
    let this = matched_in g (only_atom c) in
    let i = matched_good g hand c h.0 in
    all_both (AllByRecursion (Good g hand)) (exchanged_one g before c this) (exchanged g (with_match before this) cs)
    (one_good g hand before c this seen h.0 i)
    (exchanged_good g hand (with_match before this) cs (with_this (IsGoodMatch g hand) before this seen i) h.1)

one_true : (g : KoreSignature) (hand : List SortedName) (v : Valuation) (before : List Matched) (c : List Literal) (o : Option Matched) → GivesSorts g v hand → AllByRecursion (IsGoodMatch g hand) before → AllByRecursion (IsTrueMatch g v) before →
    OfMatch (IsGoodMatch g hand) o → OfMatch (IsTrueMatch g v) o → IsClauseTrue g v c → AreTrue g v (exchanged_one g before c o)
one_true g hand v before c None sorts seen true_before i j h = (h, tt)
one_true g hand v before c (Some m) sorts seen true_before i j h = by (first_of before m) refl
  where
    by : (o : Option SymbolicTerm) → first_of before m ≡ o → AreTrue g v (exchanged_for g c m o)
    by None e = (h, tt)
    by (Some t) e = (equality_says g hand v m.sort t m.term sorts (first_good g hand m t (first_is (IsGoodMatch g hand) before m t seen e)) i).1
        (sym (first_true_is g v m t (first_is (IsTrueMatch g v) before m t true_before e)) ∙ j)

exchanged_true : (g : KoreSignature) (hand : List SortedName) (v : Valuation) (before : List Matched) (cs : List (List Literal)) → GivesSorts g v hand → AllByRecursion (IsGoodMatch g hand) before → AllByRecursion (IsTrueMatch g v) before →
    AllByRecursion (AllByRecursion (Good g hand)) cs → AreTrue g v cs → AreTrue g v (exchanged g before cs)
exchanged_true g hand v before [] sorts seen true_before h e = tt
exchanged_true g hand v before (c ∷ cs) sorts seen true_before h e =
    let this = matched_in g (only_atom c) in
    let i = matched_good g hand c h.0 in
    let j = matched_true g v c e.0 in
    all_both (IsClauseTrue g v) (exchanged_one g before c this) (exchanged g (with_match before this) cs)
    (one_true g hand v before c this sorts seen true_before i j e.0)
    (exchanged_true g hand v (with_match before this) cs sorts (with_this (IsGoodMatch g hand) before this seen i) (with_this (IsTrueMatch g v) before this true_before j) h.1 e.1)

-- ---- all of them

pub equalities_right : (g : KoreSignature) (hand : List SortedName) (match asked : List (List Literal)) → AllByRecursion (AllByRecursion (Good g hand)) match → AllByRecursion (AllByRecursion (Good g hand)) asked → AllByRecursion (IsRightEquality g hand) (equalities g match asked)
equalities_right g hand match asked h i =
    all_both (IsRightEquality g hand) (equalities_in (oriented g) (exchanged g [] match)) (equalities_in same asked)
    (all_in_right g hand (oriented g) (oriented_writer g hand) (exchanged g [] match) (exchanged_good g hand [] match tt h))
    (all_in_right g hand same (as_it_stands g hand) asked i)

pub equalities_true : (g : KoreSignature) (hand : List SortedName) (v : Valuation) (match asked : List (List Literal)) → GivesSorts g v hand → AllByRecursion (AllByRecursion (Good g hand)) match → AllByRecursion (AllByRecursion (Good g hand)) asked →
    AreTrue g v match → AreTrue g v asked → AllByRecursion (IsAtomTrue g v) (equalities g match asked)
equalities_true g hand v match asked sorts h i e f =
    all_both (IsAtomTrue g v) (equalities_in (oriented g) (exchanged g [] match)) (equalities_in same asked)
    (all_in_true g hand (oriented g) v (oriented_writer g hand) sorts (exchanged g [] match) (exchanged_good g hand [] match tt h) (exchanged_true g hand v [] match sorts tt tt h e))
    (all_in_true g hand same v (as_it_stands g hand) sorts asked i f)
