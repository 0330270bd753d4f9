-- The equation of a clause with the sorts of its places: its variable is at hand, its term has the variable's sort.
use Rattle.std.proofs.Common.{◌≡◌, refl, subst, Bool, true, false, not, ◌&&◌, ◌||◌, List, [], ◌∷◌, Option, Some, None}
use Rattle.std.specs.Prelude.{if◌then◌else◌, option_map}
use Rattle.std.specs.Bool.{beq}
use Rattle.std.specs.List.{AllByRecursion, Contains}
use Rattle.kp_kore.specs.Syntax.{KoreSort, KoreSorts, no_sorts, next_sort}
use Rattle.kp_kore.specs.Attributes.{sorts_equal}
use Rattle.kp_kore.specs.Parts.{SortedName}
use Rattle.kp_kore.specs.Signature.{KoreSignature, meaning_of, is_below, IsBelow}
use Rattle.kp_kore.specs.Value.{Value, whole, truth, token, constructed, HasSort}
use Rattle.kp_kore.specs.Instance.{is_named}
use Rattle.kp_kore.proofs.InstanceLemmas.{second_true}
use Rattle.kp_signature.proofs.Below.{is_below-Decides}
use Rattle.kp_compile.specs.Spelled.{own_sort, places_of}
use Rattle.kp_symbolic.specs.Terms.{SymbolicTerm, unknown, offset, known, headed, no_terms, next_term, term_variables}
use Rattle.kp_symbolic.specs.States.{Atom, same, has_head, quoted, atom_variables, Literal}
use Rattle.kp_symbolic.specs.WellFormed.{term_sort, is_sort_below, IsWellSorted, AreWellSorted, IsWellSortedAtom, AreAtHand}
use Rattle.kp_symbolic.specs.Folding.{is_text_before}
use Rattle.kp_symbolic.specs.Writing.{is_solved_by}
use Rattle.kp_symbolic.specs.Solving.{Equation, equation_if, first_equation, equation_of_sides, tells_equal, tells_different, equation_of_truth, equation_of_atom, equation_of}
use Rattle.kp_symbolic.proofs.Distribution.{all_first, all_second}
use Rattle.kp_symbolic.proofs.Facts.{Good, GoodTerm}

some_inside : {A : Type 0} {a b : A} → Some a ≡ Some b → a ≡ b
some_inside e = cc

none_is_some : {A : Type 0} {a : A} → None ≡ Some a → ⊥
none_is_some e = cc

-- ---- a well-sorted term at a sort that its own is below

below : (g : KoreSignature) (a b : KoreSort) → is_below g.subsorts a b ≡ true → IsBelow g.subsorts a b
below g a b e = (is_below-Decides g.subsorts a b).0 e

pub value_at : (g : KoreSignature) (s a : KoreSort) (u : Value) → HasSort g s u → is_sort_below g (own_sort g u) a ≡ true → HasSort g a u
value_at g s a (whole n) h e = (h.0, h.1, below g h.0 a (subst (λ o. is_sort_below g o a ≡ true) h.1 e))
value_at g s a (truth b) h e = (h.0, h.1, below g h.0 a (subst (λ o. is_sort_below g o a ≡ true) h.1 e))
value_at g s a (token t x) h e = (h.0, h.1, below g h.0 a (subst (λ z. is_below g.subsorts z a ≡ true) h.1.0 e))
value_at g s a (constructed c us) h e =
    let d = h.0.1.0 in
    let declared : is_below g.subsorts d.result a ≡ true = subst (λ o. is_sort_below g (option_map (λ k. k.result) o) a ≡ true) h.0.1.1 e in
    ((h.0.0, h.0.1, below g h.0.0 a (subst (λ z. is_below g.subsorts z a ≡ true) h.0.1.3 declared)), h.1, h.2, h.3)

pub term_at : (g : KoreSignature) (s a : KoreSort) (t : SymbolicTerm) → IsWellSorted g s t → is_sort_below g (term_sort g t) a ≡ true → IsWellSorted g a t
term_at g s a (unknown x) w e = below g x.sort a e
term_at g s a (offset x c) w e = (w.0, w.1, below g x.sort a e)
term_at g s a (known u) w e = (value_at g s a u w.0 e, w.1)
term_at g s a (headed f ts) w e = (w.0, (w.1.0, w.1.1, below g w.1.0 a (subst (λ o. is_sort_below g o a ≡ true) w.1.1 e)), w.2)

-- ---- equations

pub record IsRightEquation (g : KoreSignature) (hand : List SortedName) (e : Equation) : Type 0 where
  pub variable : Contains hand e.variable
  pub at_hand : AreAtHand (term_variables e.term) hand
  pub sorted : IsWellSorted g e.variable.sort e.term

right_if : (g : KoreSignature) (hand : List SortedName) (s : KoreSort) (x : SortedName) (t : SymbolicTerm) (b : Bool) (e : Equation) → Contains hand x → GoodTerm g hand s t → (b ≡ true → is_sort_below g (term_sort g t) x.sort ≡ true) → (if b then Some (record { variable = x; term = t }) else None) ≡ Some e → IsRightEquation g hand e
right_if g hand s x t true e c i k q = subst (IsRightEquation g hand) (some_inside q) (record { variable = c; at_hand = i.1; sorted = term_at g s x.sort t i.0 (k refl) })
right_if g hand s x t false e c i k q = absurd (none_is_some q)

right_equation : (g : KoreSignature) (hand : List SortedName) (s : KoreSort) (x : SortedName) (t : SymbolicTerm) (e : Equation) → Contains hand x → GoodTerm g hand s t → equation_if g x t ≡ Some e → IsRightEquation g hand e
right_equation g hand s x t e c i q = right_if g hand s x t (is_solved_by g x t) e c i (λ k. second_true (not (is_named x.name (term_variables t))) (is_sort_below g (term_sort g t) x.sort) k) q

right_first : (g : KoreSignature) (hand : List SortedName) (o p : Option Equation) (e : Equation) → ((d : Equation) → o ≡ Some d → IsRightEquation g hand d) → ((d : Equation) → p ≡ Some d → IsRightEquation g hand d) → first_equation o p ≡ Some e → IsRightEquation g hand e
right_first g hand (Some d) p e i j q = i e q
right_first g hand None p e i j q = j e q

right_by : (g : KoreSignature) (hand : List SortedName) (b : Bool) (o p : Option Equation) (e : Equation) → ((d : Equation) → o ≡ Some d → IsRightEquation g hand d) → ((d : Equation) → p ≡ Some d → IsRightEquation g hand d) → (if b then o else p) ≡ Some e → IsRightEquation g hand e
right_by g hand true o p e i j q = i e q
right_by g hand false o p e i j q = j e q

right_sides : (g : KoreSignature) (hand : List SortedName) (s z : KoreSort) (t u : SymbolicTerm) (e : Equation) → GoodTerm g hand s t → GoodTerm g hand z u → equation_of_sides g t u ≡ Some e → IsRightEquation g hand e
right_sides g hand s z (unknown x) (unknown y) e i j q =
    right_by g hand (sorts_equal x.sort y.sort && is_text_before y.name x.name) (equation_if g y (unknown x)) (first_equation (equation_if g x (unknown y)) (equation_if g y (unknown x))) e
    (λ d. right_equation g hand s y (unknown x) d j.1.0 i)
    (λ d. right_first g hand (equation_if g x (unknown y)) (equation_if g y (unknown x)) d (λ k. right_equation g hand z x (unknown y) k i.1.0 j) (λ k. right_equation g hand s y (unknown x) k j.1.0 i)) q
right_sides g hand s z (unknown x) (offset y c) e i j q = right_equation g hand z x (offset y c) e i.1.0 j q
right_sides g hand s z (unknown x) (known u) e i j q = right_equation g hand z x (known u) e i.1.0 j q
right_sides g hand s z (unknown x) (headed f ts) e i j q = right_equation g hand z x (headed f ts) e i.1.0 j q
right_sides g hand s z (offset x c) (unknown y) e i j q = right_equation g hand s y (offset x c) e j.1.0 i q
right_sides g hand s z (known u) (unknown y) e i j q = right_equation g hand s y (known u) e j.1.0 i q
right_sides g hand s z (headed f ts) (unknown y) e i j q = right_equation g hand s y (headed f ts) e j.1.0 i q
right_sides g hand s z (offset x c) (offset y d) e i j q = absurd (none_is_some q)
right_sides g hand s z (offset x c) (known u) e i j q = absurd (none_is_some q)
right_sides g hand s z (offset x c) (headed f ts) e i j q = absurd (none_is_some q)
right_sides g hand s z (known u) (offset y d) e i j q = absurd (none_is_some q)
right_sides g hand s z (known u) (known w) e i j q = absurd (none_is_some q)
right_sides g hand s z (known u) (headed f ts) e i j q = absurd (none_is_some q)
right_sides g hand s z (headed f ts) (offset y d) e i j q = absurd (none_is_some q)
right_sides g hand s z (headed f ts) (known u) e i j q = absurd (none_is_some q)
right_sides g hand s z (headed f ts) (headed k us) e i j q = absurd (none_is_some q)

-- ---- calls that tell equality

record AreGoodSides (g : KoreSignature) (hand : List SortedName) (t u : SymbolicTerm) : Type 0 where
  first_sort : KoreSort
  second_sort : KoreSort
  first : GoodTerm g hand first_sort t
  second : GoodTerm g hand second_sort u

two_sides : (g : KoreSignature) (hand : List SortedName) (ss : KoreSorts) (t u : SymbolicTerm) → AreWellSorted g ss (next_term t (next_term u no_terms)) → AreAtHand (term_variables t) hand → AreAtHand (term_variables u) hand → AreGoodSides g hand t u
two_sides g hand (next_sort a (next_sort b ss)) t u w i j = record { first_sort = a; second_sort = b; first = (w.0, i); second = (w.1.0, j) }
two_sides g hand (next_sort a no_sorts) t u w i j = absurd w.1
two_sides g hand no_sorts t u w i j = absurd w

right_told : (g : KoreSignature) (hand : List SortedName) (t u : SymbolicTerm) (b : Bool) (e : Equation) → AreGoodSides g hand t u → (if b then equation_of_sides g t u else None) ≡ Some e → IsRightEquation g hand e
right_told g hand t u true e k q = right_sides g hand k.first_sort k.second_sort t u e k.first k.second q
right_told g hand t u false e k q = absurd (none_is_some q)

right_truth : (g : KoreSignature) (hand : List SortedName) (s : KoreSort) (b : Bool) (t : SymbolicTerm) (e : Equation) → GoodTerm g hand s t → equation_of_truth g b t ≡ Some e → IsRightEquation g hand e
right_truth g hand s b (headed f (next_term t (next_term u no_terms))) e i q =
    let At = λ (x : SortedName). Contains hand x in
    right_told g hand t u ((b && tells_equal (meaning_of g f)) || (not b && tells_different (meaning_of g f))) e
    (two_sides g hand (places_of g f) t u i.0.2 (all_first At (term_variables t) _ i.1) (all_first At (term_variables u) [] (all_second At (term_variables t) _ i.1))) q
right_truth g hand s b (headed f no_terms) e i q = absurd (none_is_some q)
right_truth g hand s b (headed f (next_term t no_terms)) e i q = absurd (none_is_some q)
right_truth g hand s b (headed f (next_term t (next_term u (next_term k ts)))) e i q = absurd (none_is_some q)
right_truth g hand s b (unknown x) e i q = absurd (none_is_some q)
right_truth g hand s b (offset x c) e i q = absurd (none_is_some q)
right_truth g hand s b (known u) e i q = absurd (none_is_some q)

-- ---- literals

right_value : (g : KoreSignature) (hand : List SortedName) (s : KoreSort) (a b : Bool) (t : SymbolicTerm) (o : Option Equation) (e : Equation) → GoodTerm g hand s t → ((d : Equation) → o ≡ Some d → IsRightEquation g hand d) → first_equation (equation_of_truth g (beq a b) t) (if b then o else None) ≡ Some e → IsRightEquation g hand e
right_value g hand s a b t o e i k q = right_first g hand (equation_of_truth g (beq a b) t) (if b then o else None) e (λ d j. right_truth g hand s (beq a b) t d i j) (λ d j. right_by g hand b o None d k (λ c n. absurd (none_is_some n)) j) q

sides_of : (g : KoreSignature) (hand : List SortedName) (s : KoreSort) (t u : SymbolicTerm) → IsWellSortedAtom g (same s t u) × AreAtHand (atom_variables (same s t u)) hand → GoodTerm g hand s t × GoodTerm g hand s u
sides_of g hand s t u h = let At = λ (x : SortedName). Contains hand x in ((h.0.0, all_first At (term_variables t) (term_variables u) h.1), (h.0.1, all_second At (term_variables t) (term_variables u) h.1))

right_atom : (g : KoreSignature) (hand : List SortedName) (b : Bool) (a : Atom) (e : Equation) → IsWellSortedAtom g a × AreAtHand (atom_variables a) hand → equation_of_atom g b a ≡ Some e → IsRightEquation g hand e
right_atom g hand b (same s t (known (truth a))) e h q = let k = sides_of g hand s t (known (truth a)) h in right_value g hand s a b t (equation_of_sides g t (known (truth a))) e k.0 (λ d n. right_sides g hand s s t (known (truth a)) d k.0 k.1 n) q
right_atom g hand b (same s (known (truth a)) u) e h q = let k = sides_of g hand s (known (truth a)) u h in right_value g hand s a b u (equation_of_sides g (known (truth a)) u) e k.1 (λ d n. right_sides g hand s s (known (truth a)) u d k.0 k.1 n) q
right_atom g hand true (same s t u) e h q = let k = sides_of g hand s t u h in right_sides g hand s s t u e k.0 k.1 q
right_atom g hand false (same s t u) e h q = absurd (none_is_some q)
right_atom g hand b (has_head x test) e h q = absurd (none_is_some q)
right_atom g hand b (quoted p rs) e h q = absurd (none_is_some q)

pub right_clause : (g : KoreSignature) (hand : List SortedName) (c : List Literal) (e : Equation) → AllByRecursion (Good g hand) c → equation_of g c ≡ Some e → IsRightEquation g hand e
right_clause g hand (l ∷ []) e h q = right_atom g hand l.holds l.atom e h.0 q
right_clause g hand [] e h q = absurd (none_is_some q)
right_clause g hand (l ∷ m ∷ c) e h q = absurd (none_is_some q)
