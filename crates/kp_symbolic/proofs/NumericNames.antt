-- The numeric variables of a state's bounds are among its whole-number variables at hand.
use Rattle.std.proofs.Common.{◌≡◌, refl, sym, ◌∙◌, ap, subst, arith, inl, inr, ℕ, zero, suc, ◌+◌, ◌<◌, ◌≤◌, ℤ, pos, Bool, true, false, not, cond, ◌||◌, List, [], ◌∷◌, ◌++◌, map, length, slice_index_or, Option, Some, None}
use Rattle.std.specs.Prelude.{if◌then◌else◌, ⊤}
use Rattle.std.specs.Bool.{beq}
use Rattle.std.specs.List.{list_any, filter, flat_map, filter_map, AllByRecursion, Contains}
use Rattle.std.specs.Str.{bytes_eq}
use Rattle.std.proofs.lemmas.Slice.Eq.{bytes_eq-Decides}
use Rattle.kp_kore.specs.Syntax.{Text}
use Rattle.kp_kore.specs.Hooks.{Comparison, equal, different, less, at_most, greater, at_least, whole_comparison, values_equal, values_different}
use Rattle.kp_kore.specs.Parts.{SortedName}
use Rattle.kp_kore.specs.Signature.{KoreSignature, SymbolMeaning, interpretation, meaning_of, is_truth_sort, has_only_numbers, has_only_truths}
use Rattle.kp_kore.specs.Steps.{AnyByRecursion}
use Rattle.kp_kore.specs.Value.{whole, truth, token, constructed, no_values}
use Rattle.kp_symbolic.specs.Terms.{SymbolicTerm, unknown, offset, known, headed, no_terms, next_term, term_variables, all_term_variables}
use Rattle.kp_symbolic.specs.States.{Atom, same, has_head, quoted, atom_variables, clause_variables, Literal, SymbolicState}
use Rattle.kp_symbolic.specs.WellFormed.{AreAtHand}
use Rattle.kp_symbolic.specs.Solving.{Equation, equation_of}
use Rattle.kp_symbolic.specs.Plain.{WholePart, whole_part, TokenPart, token_part, Form, compares, is_truth, equates, asks, gives, comparing, equating, first_form, equality_form, call_form, truth_form, same_form, form_of, head_form, head_by_sides, head_by_truth, head_by_call, constant_form, solved_form, stands_in_none, own_form, ReadLiteral, read_clause, read_from, read_clauses}
use Rattle.kp_symbolic.specs.Weights.{DifferenceBound, bounds_of, forms_in, all_bounds, each_once, name_in, numeric_names}
use Rattle.kp_symbolic.specs.Shown.{whole_variables, numeric_count}
use Rattle.kp_symbolic.proofs.Distribution.{all_both, all_first, all_second}

-- ---- a list without repeats, each among others, isn't longer than they

abbrev Holds : List Text → Text → Type 0
Holds ys x = list_any (bytes_eq x) ys ≡ true

abbrev AreDistinct : List Text → Type 0
AreDistinct [] = ⊤
AreDistinct (x ∷ xs) = (list_any (bytes_eq x) xs ≡ false) × AreDistinct xs

abbrev without_one : Text → List Text → List Text
without_one x [] = []
without_one x (y ∷ ys) = if bytes_eq x y then ys else y ∷ without_one x ys

one_less : (x : Text) (ys : List Text) → Holds ys x → length ys ≡ suc (length (without_one x ys))
one_less x [] h = absurd (cc)
one_less x (y ∷ ys) h = by (bytes_eq x y) h (one_less x ys)
  where
    by : (b : Bool) → b || list_any (bytes_eq x) ys ≡ true → (Holds ys x → length ys ≡ suc (length (without_one x ys))) → suc (length ys) ≡ suc (length (if b then ys else y ∷ without_one x ys))
    by true h k = refl
    by false h k = ap suc (k h)

differ : (x z : Text) → bytes_eq x z ≡ false → (y : Text) → bytes_eq x y ≡ true → bytes_eq z y ≡ true → ⊥
differ x z n y e f = not_both (sym n ∙ (bytes_eq-Decides x z).1 ((bytes_eq-Decides x y).0 e ∙ sym ((bytes_eq-Decides z y).0 f)))
  where
    not_both : false ≡ true → ⊥
    not_both h = cc

still_holds : (x z : Text) (ys : List Text) → bytes_eq x z ≡ false → Holds ys z → Holds (without_one x ys) z
still_holds x z [] n h = absurd (cc)
still_holds x z (y ∷ ys) n h = by (bytes_eq x y) (bytes_eq z y) refl refl h (still_holds x z ys n)
  where
    by : (b c : Bool) → bytes_eq x y ≡ b → bytes_eq z y ≡ c → c || list_any (bytes_eq z) ys ≡ true → (Holds ys z → Holds (without_one x ys) z) → list_any (bytes_eq z) (if b then ys else y ∷ without_one x ys) ≡ true
    by true true e f h k = absurd (differ x z n y e f)
    by true false e f h k = h
    by false true e f h k = rw f refl
    by false false e f h k = rw f (k h)

other_holds : (x : Text) (xs ys : List Text) → list_any (bytes_eq x) xs ≡ false → AllByRecursion (Holds ys) xs → AllByRecursion (Holds (without_one x ys)) xs
other_holds x [] ys n a = tt
other_holds x (z ∷ xs) ys n a = let e = either_false (bytes_eq x z) (list_any (bytes_eq x) xs) n in (still_holds x z ys e.0 a.0, other_holds x xs ys e.1 a.1)
  where
    either_false : (a b : Bool) → a || b ≡ false → (a ≡ false) × (b ≡ false)
    either_false true b e = absurd (cc)
    either_false false b e = (refl, e)

pub not_longer : (xs ys : List Text) → AreDistinct xs → AllByRecursion (Holds ys) xs → length xs ≤ length ys
not_longer [] ys d a = omega arith
not_longer (x ∷ xs) ys d a =
    let i : length xs ≤ length (without_one x ys) = not_longer xs (without_one x ys) d.1 (other_holds x xs ys d.0 a.1) in
    let e : length ys ≡ suc (length (without_one x ys)) = one_less x ys a.0 in
    omega arith

-- ---- each once

or_right : (a b : Bool) → b ≡ true → a || b ≡ true
or_right true b e = refl
or_right false b e = e

or_maps : (a b c : Bool) → (b ≡ true → c ≡ true) → a || b ≡ true → a || c ≡ true
or_maps true b c f e = refl
or_maps false b c f e = f e

once_among : (z : Text) (xs : List Text) → Holds (each_once xs) z → Holds xs z
once_among z [] h = h
once_among z (x ∷ xs) h = by (list_any (bytes_eq x) xs) (once_among z xs) h
  where
    by : (b : Bool) → (Holds (each_once xs) z → Holds xs z) → Holds (if b then each_once xs else x ∷ each_once xs) z → bytes_eq z x || list_any (bytes_eq z) xs ≡ true
    by true k h = or_right (bytes_eq z x) (list_any (bytes_eq z) xs) (k h)
    by false k h = or_maps (bytes_eq z x) (list_any (bytes_eq z) (each_once xs)) (list_any (bytes_eq z) xs) k h

no_longer_there : (b c : Bool) → (c ≡ true → b ≡ true) → b ≡ false → c ≡ false
no_longer_there b true f e = absurd (both_ways (sym (f refl) ∙ e))
  where
    both_ways : true ≡ false → ⊥
    both_ways h = cc
no_longer_there b false f e = refl

once_distinct : (xs : List Text) → AreDistinct (each_once xs)
once_distinct [] = tt
once_distinct (x ∷ xs) = by (list_any (bytes_eq x) xs) refl (once_distinct xs)
  where
    by : (b : Bool) → list_any (bytes_eq x) xs ≡ b → AreDistinct (each_once xs) → AreDistinct (if b then each_once xs else x ∷ each_once xs)
    by true e d = d
    by false e d = (no_longer_there (list_any (bytes_eq x) xs) (list_any (bytes_eq x) (each_once xs)) (once_among x xs) e, d)

either_of : (a b : Bool) (C : Type 0) → (a ≡ true → C) → (b ≡ true → C) → a || b ≡ true → C
either_of true b C f h e = f refl
either_of false b C f h e = h e

once_holds : (z : Text) (xs : List Text) → Holds xs z → Holds (each_once xs) z
once_holds z [] h = h
once_holds z (x ∷ xs) h = by (list_any (bytes_eq x) xs) refl (once_holds z xs) h
  where
    by : (b : Bool) → list_any (bytes_eq x) xs ≡ b → (Holds xs z → Holds (each_once xs) z) → bytes_eq z x || list_any (bytes_eq z) xs ≡ true → Holds (if b then each_once xs else x ∷ each_once xs) z
    by true e k h = either_of (bytes_eq z x) (list_any (bytes_eq z) xs) (Holds (each_once xs) z) (λ i. k (subst (Holds xs) (sym ((bytes_eq-Decides z x).0 i)) e)) k h
    by false e k h = or_maps (bytes_eq z x) (list_any (bytes_eq z) xs) (list_any (bytes_eq z) (each_once xs)) k h

once_all : (Q : Text → Type 0) (xs : List Text) → AllByRecursion Q xs → AllByRecursion Q (each_once xs)
once_all Q [] a = tt
once_all Q (x ∷ xs) a = by (list_any (bytes_eq x) xs) (once_all Q xs a.1)
  where
    by : (b : Bool) → AllByRecursion Q (each_once xs) → AllByRecursion Q (if b then each_once xs else x ∷ each_once xs)
    by true k = k
    by false k = (a.0, k)

weaker : {X : Type 0} (P Q : X → Type 0) (xs : List X) → ((x : X) → P x → Q x) → AllByRecursion P xs → AllByRecursion Q xs
weaker P Q [] f a = tt
weaker P Q (x ∷ xs) f a = (f x a.0, weaker P Q xs f a.1)

pub once_not_longer : (xs ys : List Text) → AllByRecursion (Holds ys) xs → length (each_once xs) ≤ length (each_once ys)
once_not_longer xs ys a = not_longer (each_once xs) (each_once ys) (once_distinct xs) (weaker (Holds ys) (Holds (each_once ys)) (each_once xs) (λ z. once_holds z ys) (once_all (Holds ys) xs a))

-- ---- whole-number variables at hand

abbrev counted : KoreSignature → List SortedName → List Text
counted g hand = map (λ x. x.name) (filter (λ x. has_only_numbers g x.sort) hand)

abbrev IsCounted : KoreSignature → List SortedName → Text → Type 0
IsCounted g hand = Holds (counted g hand)

-- it is one of the list
abbrev Among : {X : Type 0} → X → List X → Type 0
Among x xs = AnyByRecursion (λ y. y ≡ x) xs

contained : {X : Type 0} (xs : List X) (x : X) (k : ℕ) → k < length xs → slice_index_or xs k x ≡ x → Among x xs
contained [] x k l e = absurd (omega (arith, l))
contained (y ∷ xs) x zero l e = inl e
contained (y ∷ xs) x (suc k) l e = inr (contained xs x k (omega (arith, l)) e)

counted_among : (g : KoreSignature) (hand : List SortedName) (x : SortedName) → has_only_numbers g x.sort ≡ true → Among x hand → IsCounted g hand x.name
counted_among g [] x n a = absurd a
counted_among g (y ∷ hand) x n (inl e) = first (has_only_numbers g y.sort) (subst (λ z. has_only_numbers g z.sort ≡ true) (sym e) n)
  where
    first : (b : Bool) → b ≡ true → Holds (map (λ x. x.name) (cond b (y ∷ filter (λ x. has_only_numbers g x.sort) hand) (filter (λ x. has_only_numbers g x.sort) hand))) x.name
    first true i = rw ((bytes_eq-Decides x.name y.name).1 (ap (λ z. z.name) (sym e))) refl
    first false i = absurd (cc)
counted_among g (y ∷ hand) x n (inr a) = later (has_only_numbers g y.sort) (counted_among g hand x n a)
  where
    later : (b : Bool) → IsCounted g hand x.name → Holds (map (λ x. x.name) (cond b (y ∷ filter (λ x. has_only_numbers g x.sort) hand) (filter (λ x. has_only_numbers g x.sort) hand))) x.name
    later true h = or_right (bytes_eq x.name y.name) (list_any (bytes_eq x.name) (counted g hand)) h
    later false h = h

is_counted : (g : KoreSignature) (hand : List SortedName) (x : SortedName) → has_only_numbers g x.sort ≡ true → Contains hand x → IsCounted g hand x.name
is_counted g hand x n h = counted_among g hand x n (contained hand x h.0 h.1 h.2)

-- ---- what forms speak of

abbrev PartCounted : KoreSignature → List SortedName → WholePart → Type 0
PartCounted g hand m = AllByRecursion (IsCounted g hand) (name_in m.variable)

abbrev FormCounted : KoreSignature → List SortedName → Form → Type 0
FormCounted g hand (compares c m n) = PartCounted g hand m × PartCounted g hand n
FormCounted g hand f = ⊤

abbrev MaybeCounted : KoreSignature → List SortedName → Option Form → Type 0
MaybeCounted g hand (Some f) = FormCounted g hand f
MaybeCounted g hand None = ⊤

abbrev MaybePart : KoreSignature → List SortedName → Option WholePart → Type 0
MaybePart g hand (Some m) = PartCounted g hand m
MaybePart g hand None = ⊤

part_of : (g : KoreSignature) (hand : List SortedName) (x : SortedName) (c : ℤ) (b : Bool) → (b ≡ true → IsCounted g hand x.name) → MaybePart g hand (if b then Some (record { variable = Some x.name; constant = c }) else None)
part_of g hand x c true i = (i refl, tt)
part_of g hand x c false i = tt

part_counted : (g : KoreSignature) (hand : List SortedName) (t : SymbolicTerm) → AreAtHand (term_variables t) hand → MaybePart g hand (whole_part g t)
part_counted g hand (unknown x) a = part_of g hand x (pos 0) (has_only_numbers g x.sort) (λ n. is_counted g hand x n a.0)
part_counted g hand (offset x c) a = part_of g hand x c (has_only_numbers g x.sort) (λ n. is_counted g hand x n a.0)
part_counted g hand (known (whole n)) a = tt
part_counted g hand (known (truth b)) a = tt
part_counted g hand (known (token s x)) a = tt
part_counted g hand (known (constructed f us)) a = tt
part_counted g hand (headed f ts) a = tt

comparing_counted : (g : KoreSignature) (hand : List SortedName) (b : Bool) (c : Comparison) (o p : Option WholePart) → MaybePart g hand o → MaybePart g hand p → MaybeCounted g hand (comparing b c o p)
comparing_counted g hand b c (Some m) (Some n) i j = (i, j)
comparing_counted g hand b c (Some m) None i j = tt
comparing_counted g hand b c None p i j = tt

equating_counted : (g : KoreSignature) (hand : List SortedName) (b : Bool) (o p : Option TokenPart) → MaybeCounted g hand (equating b o p)
equating_counted g hand b (Some m) (Some n) = tt
equating_counted g hand b (Some m) None = tt
equating_counted g hand b None p = tt

first_counted : (g : KoreSignature) (hand : List SortedName) (o p : Option Form) → MaybeCounted g hand o → MaybeCounted g hand p → MaybeCounted g hand (first_form o p)
first_counted g hand (Some f) p i j = i
first_counted g hand None p i j = j

abbrev BothAtHand : SymbolicTerm → SymbolicTerm → List SortedName → Type 0
BothAtHand t u hand = AreAtHand (term_variables t) hand × AreAtHand (term_variables u) hand

comparison_counted : (g : KoreSignature) (hand : List SortedName) (b : Bool) (c : Comparison) (t u : SymbolicTerm) → BothAtHand t u hand → MaybeCounted g hand (comparing b c (whole_part g t) (whole_part g u))
comparison_counted g hand b c t u a = comparing_counted g hand b c (whole_part g t) (whole_part g u) (part_counted g hand t a.0) (part_counted g hand u a.1)

equality_counted : (g : KoreSignature) (hand : List SortedName) (b : Bool) (t u : SymbolicTerm) → BothAtHand t u hand → MaybeCounted g hand (equality_form g b t u)
equality_counted g hand b t u a = first_counted g hand (comparing b equal (whole_part g t) (whole_part g u)) (equating b (token_part g t) (token_part g u)) (comparison_counted g hand b equal t u a) (equating_counted g hand b (token_part g t) (token_part g u))

call_counted : (g : KoreSignature) (hand : List SortedName) (b : Bool) (m : SymbolMeaning) (t u : SymbolicTerm) → BothAtHand t u hand → MaybeCounted g hand (call_form g b m t u)
call_counted g hand b (interpretation (whole_comparison c)) t u a = comparison_counted g hand b c t u a
call_counted g hand b (interpretation values_equal) t u a = equality_counted g hand b t u a
call_counted g hand b (interpretation values_different) t u a = equality_counted g hand (not b) t u a
call_counted g hand b _ t u a = tt

truth_if : (g : KoreSignature) (hand : List SortedName) (x : Text) (b c : Bool) → MaybeCounted g hand (if c then Some (is_truth x b) else None)
truth_if g hand x b true = tt
truth_if g hand x b false = tt

truth_counted : (g : KoreSignature) (hand : List SortedName) (b : Bool) (t : SymbolicTerm) → AreAtHand (term_variables t) hand → MaybeCounted g hand (truth_form g b t)
truth_counted g hand b (unknown x) a = truth_if g hand x.name b (has_only_truths g x.sort)
truth_counted g hand b (headed f (next_term t (next_term u no_terms))) a =
    let At = λ (x : SortedName). Contains hand x in
    call_counted g hand b (meaning_of g f) t u (all_first At (term_variables t) (all_term_variables (next_term u no_terms)) a, all_first At (term_variables u) [] (all_second At (term_variables t) (all_term_variables (next_term u no_terms)) a))
truth_counted g hand b (headed f no_terms) a = tt
truth_counted g hand b (headed f (next_term t no_terms)) a = tt
truth_counted g hand b (headed f (next_term t (next_term u (next_term w ts)))) a = tt
truth_counted g hand b (offset x c) a = tt
truth_counted g hand b (known u) a = tt

same_counted : (g : KoreSignature) (hand : List SortedName) (s b : Bool) (t u : SymbolicTerm) → BothAtHand t u hand → MaybeCounted g hand (same_form g s b t u)
same_counted g hand true b t (known (truth c)) a = truth_counted g hand (beq b c) t a.0
same_counted g hand true b (known (truth c)) u a = truth_counted g hand (beq b c) u a.1
same_counted g hand true b t u a = tt
same_counted g hand false b t u a = equality_counted g hand b t u a

abbrev form_of_atom : KoreSignature → Bool → Atom → Option Form
form_of_atom g b (same s t u) = same_form g (is_truth_sort g s) b t u
form_of_atom g b (has_head x test) = None
form_of_atom g b (quoted p rs) = None

atom_counted : (g : KoreSignature) (hand : List SortedName) (b : Bool) (a : Atom) → AreAtHand (atom_variables a) hand → MaybeCounted g hand (form_of_atom g b a)
atom_counted g hand b (same s t u) a = let At = λ (x : SortedName). Contains hand x in same_counted g hand (is_truth_sort g s) b t u (all_first At (term_variables t) (term_variables u) a, all_second At (term_variables t) (term_variables u) a)
atom_counted g hand b (has_head x test) a = tt
atom_counted g hand b (quoted p rs) a = tt

form_counted : (g : KoreSignature) (hand : List SortedName) (l : Literal) → AreAtHand (atom_variables l.atom) hand → MaybeCounted g hand (form_of g l)
form_counted g hand l a = atom_counted g hand l.holds l.atom a

constant_counted : (g : KoreSignature) (hand : List SortedName) (b : Bool) (t u : SymbolicTerm) → MaybeCounted g hand (constant_form b t u)
constant_counted g hand b (unknown x) (known (constructed c no_values)) = tt
constant_counted g hand b (known (constructed c no_values)) (unknown x) = tt
constant_counted g hand b _ _ = tt

head_call_counted : (g : KoreSignature) (hand : List SortedName) (b : Bool) (m : SymbolMeaning) (t u : SymbolicTerm) → MaybeCounted g hand (head_by_call b m t u)
head_call_counted g hand b (interpretation values_equal) t u = constant_counted g hand b t u
head_call_counted g hand b (interpretation values_different) t u = constant_counted g hand (not b) t u
head_call_counted g hand b _ t u = tt

head_truth_counted : (g : KoreSignature) (hand : List SortedName) (b : Bool) (t : SymbolicTerm) → MaybeCounted g hand (head_by_truth g b t)
head_truth_counted g hand b (headed f (next_term t (next_term u no_terms))) = head_call_counted g hand b (meaning_of g f) t u
head_truth_counted g hand b _ = tt

head_sides_counted : (g : KoreSignature) (hand : List SortedName) (b : Bool) (t u : SymbolicTerm) → MaybeCounted g hand (head_by_sides g b t u)
head_sides_counted g hand b t (known (truth c)) = head_truth_counted g hand (beq b c) t
head_sides_counted g hand b (known (truth c)) u = head_truth_counted g hand (beq b c) u
head_sides_counted g hand b t u = constant_counted g hand b t u

abbrev head_form_of : KoreSignature → Bool → Atom → Option Form
head_form_of g b (has_head x test) = Some (asks x test b)
head_form_of g b (same s t u) = head_by_sides g b t u
head_form_of g b (quoted p rs) = None

head_counted_of : (g : KoreSignature) (hand : List SortedName) (b : Bool) (a : Atom) → MaybeCounted g hand (head_form_of g b a)
head_counted_of g hand b (has_head x test) = tt
head_counted_of g hand b (same s t u) = head_sides_counted g hand b t u
head_counted_of g hand b (quoted p rs) = tt

solved_if : (g : KoreSignature) (hand : List SortedName) (e : Equation) (b : Bool) → MaybeCounted g hand (if b then None else Some (gives e))
solved_if g hand e true = tt
solved_if g hand e false = tt

solved_counted : (g : KoreSignature) (hand : List SortedName) (s : SymbolicState) (others : List (List Literal)) (o : Option Equation) → MaybeCounted g hand (solved_form g s others o)
solved_counted g hand s others (Some e) = solved_if g hand e (has_only_numbers g e.variable.sort || not (stands_in_none others e.variable.name))
solved_counted g hand s others None = tt

own_counted : (g : KoreSignature) (hand : List SortedName) (s : SymbolicState) (others : List (List Literal)) (l : Literal) → AreAtHand (atom_variables l.atom) hand → MaybeCounted g hand (own_form g s others l)
own_counted g hand s others l a = first_counted g hand (form_of g l) (first_form (head_form g l) (solved_form g s others (equation_of g (l ∷ [])))) (form_counted g hand l a)
    (first_counted g hand (head_form g l) (solved_form g s others (equation_of g (l ∷ []))) (head_counted_of g hand l.holds l.atom) (solved_counted g hand s others (equation_of g (l ∷ []))))

-- ---- the clauses

abbrev ReadCounted : KoreSignature → List SortedName → List ReadLiteral → Type 0
ReadCounted g hand = AllByRecursion (λ l. MaybeCounted g hand l.form)

mapped_counted : (g : KoreSignature) (hand : List SortedName) (c : List Literal) → AreAtHand (clause_variables c) hand → ReadCounted g hand (map (λ l. record { literal = l; form = form_of g l }) c)
mapped_counted g hand [] a = tt
mapped_counted g hand (l ∷ c) a = let At = λ (x : SortedName). Contains hand x in (form_counted g hand l (all_first At (atom_variables l.atom) (clause_variables c) a), mapped_counted g hand c (all_second At (atom_variables l.atom) (clause_variables c) a))

clause_counted : (g : KoreSignature) (hand : List SortedName) (s : SymbolicState) (others : List (List Literal)) (c : List Literal) → AreAtHand (clause_variables c) hand → ReadCounted g hand (read_clause g s others c)
clause_counted g hand s others [] a = tt
clause_counted g hand s others (l ∷ []) a = (own_counted g hand s others l (all_first (λ x. Contains hand x) (atom_variables l.atom) [] a), tt)
clause_counted g hand s others (l ∷ m ∷ c) a = mapped_counted g hand (l ∷ m ∷ c) a

clauses_counted : (g : KoreSignature) (hand : List SortedName) (s : SymbolicState) (before cs : List (List Literal)) → AllByRecursion (λ c. AreAtHand (clause_variables c) hand) cs → AllByRecursion (ReadCounted g hand) (read_from g s before cs)
clauses_counted g hand s before [] a = tt
clauses_counted g hand s before (c ∷ cs) a = (clause_counted g hand s (before ++ cs) c a.0, clauses_counted g hand s (before ++ c ∷ []) cs a.1)

-- ---- bounds

abbrev BoundCounted : KoreSignature → List SortedName → DifferenceBound → Type 0
BoundCounted g hand b = AllByRecursion (IsCounted g hand) (name_in b.first ++ name_in b.second)

both_names : (g : KoreSignature) (hand : List SortedName) (m n : WholePart) → PartCounted g hand m → PartCounted g hand n → AllByRecursion (IsCounted g hand) (name_in m.variable ++ name_in n.variable)
both_names g hand m n i j = all_both (IsCounted g hand) (name_in m.variable) (name_in n.variable) i j

form_bounds : (g : KoreSignature) (hand : List SortedName) (f : Form) → FormCounted g hand f → AllByRecursion (BoundCounted g hand) (bounds_of f)
form_bounds g hand (compares at_most m n) i = (both_names g hand m n i.0 i.1, tt)
form_bounds g hand (compares less m n) i = (both_names g hand m n i.0 i.1, tt)
form_bounds g hand (compares at_least m n) i = (both_names g hand n m i.1 i.0, tt)
form_bounds g hand (compares greater m n) i = (both_names g hand n m i.1 i.0, tt)
form_bounds g hand (compares equal m n) i = (both_names g hand m n i.0 i.1, (both_names g hand n m i.1 i.0, tt))
form_bounds g hand (compares different m n) i = (both_names g hand m n i.0 i.1, (both_names g hand n m i.1 i.0, tt))
form_bounds g hand (is_truth x b) i = tt
form_bounds g hand (equates b p q) i = tt
form_bounds g hand (asks x test b) i = tt
form_bounds g hand (gives e) i = tt

all_flat : {X Y : Type 0} (P : X → Type 0) (Q : Y → Type 0) (f : X → List Y) (xs : List X) → ((x : X) → P x → AllByRecursion Q (f x)) → AllByRecursion P xs → AllByRecursion Q (flat_map f xs)
all_flat P Q f [] k a = tt
all_flat P Q f (x ∷ xs) k a = all_both Q (f x) (flat_map f xs) (k x a.0) (all_flat P Q f xs k a.1)

forms_counted : (g : KoreSignature) (hand : List SortedName) (c : List ReadLiteral) → ReadCounted g hand c → AllByRecursion (FormCounted g hand) (filter_map (λ l. l.form) c)
forms_counted g hand [] a = tt
forms_counted g hand (l ∷ c) a = by l.form refl (forms_counted g hand c a.1)
  where
    by : (o : Option Form) → l.form ≡ o → AllByRecursion (FormCounted g hand) (filter_map (λ l. l.form) c) → AllByRecursion (FormCounted g hand) (filter_map (λ l. l.form) (l ∷ c))
    by (Some f) e rest = rw e (subst (MaybeCounted g hand) e a.0, rest)
    by None e rest = rw e rest

pub names_are_counted : (g : KoreSignature) (s : SymbolicState) → AllByRecursion (λ c. AreAtHand (clause_variables c) s.variables) s.clauses → length (numeric_names (all_bounds (read_clauses g s))) ≤ numeric_count g s []
names_are_counted g s a =
    let hand = s.variables in
    let forms = all_flat (ReadCounted g hand) (FormCounted g hand) (λ c. filter_map (λ l. l.form) c) (read_clauses g s) (forms_counted g hand) (clauses_counted g hand s [] s.clauses a) in
    let bounds = all_flat (FormCounted g hand) (BoundCounted g hand) bounds_of (forms_in (read_clauses g s)) (form_bounds g hand) forms in
    let names = all_flat (BoundCounted g hand) (IsCounted g hand) (λ b. name_in b.first ++ name_in b.second) (all_bounds (read_clauses g s)) (λ b i. i) bounds in
    at_most_more (length (numeric_names (all_bounds (read_clauses g s)))) (whole_variables g s.variables) (once_not_longer (flat_map (λ b. name_in b.first ++ name_in b.second) (all_bounds (read_clauses g s))) (counted g hand) names)
  where
    at_most_more : (m n : ℕ) → m ≤ n → m ≤ n + 0
    at_most_more m n h = omega (arith, h)
