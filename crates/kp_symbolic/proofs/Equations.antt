-- Where a clause that equates a variable with a term is true, the variable stands for the term's instance.
use Rattle.std.proofs.Common.{◌≡◌, refl, sym, ◌∙◌, ap, ap₂, subst, ℤ, Bool, true, false, not, ◌&&◌, ◌||◌, List, [], ◌∷◌, Option, Some, None}
use Rattle.std.specs.Prelude.{if◌then◌else◌, MatchBool}
use Rattle.std.specs.Bool.{beq}
use Rattle.std.specs.Ordering.{int_eq}
use Rattle.std.proofs.lemmas.Bool.Decides.{Decides-int_eq}
use Rattle.kp_kore.specs.Syntax.{Text, KoreSort, KoreSorts, no_sorts, next_sort}
use Rattle.kp_kore.specs.Attributes.{sorts_equal}
use Rattle.kp_kore.specs.Hooks.{Comparison, equal, different, whole_comparison, values_equal, values_different}
use Rattle.kp_kore.specs.Parts.{SortedName}
use Rattle.kp_kore.specs.Signature.{KoreSignature, SymbolMeaning, interpretation, meaning_of, is_number_sort, is_truth_sort, are_two}
use Rattle.kp_kore.specs.Value.{Value, whole, truth, HasSort, HaveSorts}
use Rattle.kp_kore.specs.Forms.{two}
use Rattle.kp_kore.specs.Interpretation.{interpreted}
use Rattle.kp_kore.specs.Instance.{Valuation, GivesSorts, applied}
use Rattle.kp_kore.proofs.InstanceLemmas.{first_true, second_true}
use Rattle.kp_kore.proofs.SameLemmas.{equal_call, different_call}
use Rattle.kp_signature.proofs.NumberLemmas.{number_value}
use Rattle.kp_symbolic.specs.Terms.{SymbolicTerm, unknown, offset, known, headed, no_terms, next_term, term_instance, term_variables}
use Rattle.kp_symbolic.specs.States.{Atom, same, has_head, quoted, IsAtomTrue, Literal, IsClauseTrue, atom_variables}
use Rattle.kp_symbolic.specs.WellFormed.{IsWellSorted, IsWellSortedAtom}
use Rattle.kp_symbolic.specs.Folding.{is_text_before}
use Rattle.kp_symbolic.specs.Writing.{is_solved_by}
use Rattle.kp_symbolic.specs.Solving.{Equation, equation_if, first_equation, equation_of_sides, tells_equal, tells_different, equation_of_truth, equation_of_atom, equation_of}
use Rattle.kp_symbolic.proofs.Distribution.{all_first}
use Rattle.kp_symbolic.proofs.Stable.{stable_literal}
use Rattle.kp_symbolic.proofs.WellSorted.{plain_symbol, places_are, terms_sorted}
use Rattle.kp_symbolic.proofs.SortedFolding.{symbol_fits}

abbrev pub IsMet : KoreSignature → Valuation → Equation → Type 0
IsMet g v e = v e.variable.name ≡ term_instance g v e.term

some_inside : {A : Type 0} {a b : A} → Some a ≡ Some b → a ≡ b
some_inside e = cc

none_is_some : {A : Type 0} {a : A} → None ≡ Some a → ⊥
none_is_some e = cc

-- ---- sides

met_if : (g : KoreSignature) (v : Valuation) (x : SortedName) (t : SymbolicTerm) (b : Bool) (e : Equation) → v x.name ≡ term_instance g v t → (if b then Some (record { variable = x; term = t }) else None) ≡ Some e → IsMet g v e
met_if g v x t true e h q = subst (IsMet g v) (some_inside q) h
met_if g v x t false e h q = absurd (none_is_some q)

met_equation : (g : KoreSignature) (v : Valuation) (x : SortedName) (t : SymbolicTerm) (e : Equation) → v x.name ≡ term_instance g v t → equation_if g x t ≡ Some e → IsMet g v e
met_equation g v x t e h q = met_if g v x t (is_solved_by g x t) e h q

met_first : (g : KoreSignature) (v : Valuation) (o p : Option Equation) (e : Equation) → ((d : Equation) → o ≡ Some d → IsMet g v d) → ((d : Equation) → p ≡ Some d → IsMet g v d) → first_equation o p ≡ Some e → IsMet g v e
met_first g v (Some d) p e i j q = i e q
met_first g v None p e i j q = j e q

met_by : (g : KoreSignature) (v : Valuation) (b : Bool) (o p : Option Equation) (e : Equation) → ((d : Equation) → o ≡ Some d → IsMet g v d) → ((d : Equation) → p ≡ Some d → IsMet g v d) → (if b then o else p) ≡ Some e → IsMet g v e
met_by g v true o p e i j q = i e q
met_by g v false o p e i j q = j e q

met_sides : (g : KoreSignature) (v : Valuation) (t u : SymbolicTerm) (e : Equation) → term_instance g v t ≡ term_instance g v u → equation_of_sides g t u ≡ Some e → IsMet g v e
met_sides g v (unknown x) (unknown y) e h q =
    met_by g v (sorts_equal x.sort y.sort && is_text_before y.name x.name) (equation_if g y (unknown x)) (first_equation (equation_if g x (unknown y)) (equation_if g y (unknown x))) e
    (λ d. met_equation g v y (unknown x) d (sym h))
    (λ d. met_first g v (equation_if g x (unknown y)) (equation_if g y (unknown x)) d (λ k. met_equation g v x (unknown y) k h) (λ k. met_equation g v y (unknown x) k (sym h))) q
met_sides g v (unknown x) (offset y c) e h q = met_equation g v x (offset y c) e h q
met_sides g v (unknown x) (known u) e h q = met_equation g v x (known u) e h q
met_sides g v (unknown x) (headed f ts) e h q = met_equation g v x (headed f ts) e h q
met_sides g v (offset x c) (unknown y) e h q = met_equation g v y (offset x c) e (sym h) q
met_sides g v (known u) (unknown y) e h q = met_equation g v y (known u) e (sym h) q
met_sides g v (headed f ts) (unknown y) e h q = met_equation g v y (headed f ts) e (sym h) q
met_sides g v (offset x c) (offset y d) e h q = absurd (none_is_some q)
met_sides g v (offset x c) (known u) e h q = absurd (none_is_some q)
met_sides g v (offset x c) (headed f ts) e h q = absurd (none_is_some q)
met_sides g v (known u) (offset y d) e h q = absurd (none_is_some q)
met_sides g v (known u) (known w) e h q = absurd (none_is_some q)
met_sides g v (known u) (headed f ts) e h q = absurd (none_is_some q)
met_sides g v (headed f ts) (offset y d) e h q = absurd (none_is_some q)
met_sides g v (headed f ts) (known u) e h q = absurd (none_is_some q)
met_sides g v (headed f ts) (headed k us) e h q = absurd (none_is_some q)

-- ---- calls that tell equality

truth_inside : {a c : Bool} → truth a ≡ truth c → a ≡ c
truth_inside e = cc

true_false : true ≡ false → ⊥
true_false e = cc

equal_numbers : (m n : ℤ) → truth (int_eq m n) ≡ truth true → whole m ≡ whole n
equal_numbers m n h = ap whole ((Decides-int_eq m n).0 (truth_inside h))

no_difference : (b : Bool) → not b ≡ false → b ≡ true
no_difference true e = refl
no_difference false e = absurd (true_false e)

same_numbers : (m n : ℤ) → truth (not (int_eq m n)) ≡ truth false → whole m ≡ whole n
same_numbers m n h = ap whole ((Decides-int_eq m n).0 (no_difference (int_eq m n) (truth_inside h)))

-- both arguments of a comparison are whole numbers
pub record AreNumbers (u w : Value) : Type 0 where
  pub first : ℤ
  pub second : ℤ
  pub first_is : u ≡ whole first
  pub second_is : w ≡ whole second

two_numbers : (g : KoreSignature) (ss : KoreSorts) (u w : Value) → are_two (is_number_sort g) ss ≡ true → HaveSorts g ss (two u w) → AreNumbers u w
two_numbers g no_sorts u w e h = absurd (cc)
two_numbers g (next_sort a no_sorts) u w e h = absurd (cc)
two_numbers g (next_sort a (next_sort b (next_sort c ss))) u w e h = absurd (cc)
two_numbers g (next_sort a (next_sort b no_sorts)) u w e h =
    let m = number_value g a u (first_true (is_number_sort g a) (is_number_sort g b) e) h.0 in
    let n = number_value g b w (second_true (is_number_sort g a) (is_number_sort g b) e) h.1.0 in
    record { first = m.0; second = n.0; first_is = m.1; second_is = n.1 }

pub numbers_of : (g : KoreSignature) (v : Valuation) (s : KoreSort) (f : Text) (t u : SymbolicTerm) (c : Comparison) → meaning_of g f ≡ interpretation (whole_comparison c) → IsWellSorted g s (headed f (next_term t (next_term u no_terms))) → GivesSorts g v (term_variables (headed f (next_term t (next_term u no_terms)))) → AreNumbers (term_instance g v t) (term_instance g v u)
numbers_of g v s f t u c m w h =
    let k = plain_symbol g f w.0 in
    two_numbers g k.declaration.arguments (term_instance g v t) (term_instance g v u) (first_true (are_two (is_number_sort g) k.declaration.arguments) (is_truth_sort g k.declaration.result) (symbol_fits g f k (whole_comparison c) m))
    (subst (λ ss. HaveSorts g ss (two (term_instance g v t) (term_instance g v u))) (places_are g f k) (terms_sorted g v _ (next_term t (next_term u no_terms)) w.2 h))

-- what a call of numbers or values says where it tells equality, or difference
tells : (g : KoreSignature) (v : Valuation) (s : KoreSort) (f : Text) (t u : SymbolicTerm) (m : SymbolicTerm) (a b : Bool) (n : SymbolMeaning) → meaning_of g f ≡ n → IsWellSorted g s (headed f (next_term t (next_term u no_terms))) → GivesSorts g v (term_variables (headed f (next_term t (next_term u no_terms))))
    → (a ≡ true) → a ≡ ((b && tells_equal n) || (not b && tells_different n)) → applied n f (two (term_instance g v t) (term_instance g v u)) ≡ truth b → term_instance g v t ≡ term_instance g v u
tells g v s f t u m a true (interpretation (whole_comparison equal)) e w h p q z =
    let k = numbers_of g v s f t u equal e w h in
    k.first_is ∙ equal_numbers k.first k.second (sym (ap₂ (λ x y. interpreted (whole_comparison equal) (two x y)) k.first_is k.second_is) ∙ z) ∙ sym k.second_is
tells g v s f t u m a false (interpretation (whole_comparison different)) e w h p q z =
    let k = numbers_of g v s f t u different e w h in
    k.first_is ∙ same_numbers k.first k.second (sym (ap₂ (λ x y. interpreted (whole_comparison different) (two x y)) k.first_is k.second_is) ∙ z) ∙ sym k.second_is
tells g v s f t u m a true (interpretation values_equal) e w h p q z = (equal_call (term_instance g v t) (term_instance g v u)).0 z
tells g v s f t u m a false (interpretation values_different) e w h p q z = (different_call (term_instance g v t) (term_instance g v u)).0 z
tells g v s f t u m a true _ e w h p q z = absurd (true_false (sym p ∙ q))
tells g v s f t u m a false _ e w h p q z = absurd (true_false (sym p ∙ q))

met_if_told : (g : KoreSignature) (v : Valuation) (t u : SymbolicTerm) (a : Bool) (e : Equation) → (a ≡ true → term_instance g v t ≡ term_instance g v u) → (if a then equation_of_sides g t u else None) ≡ Some e → IsMet g v e
met_if_told g v t u true e i q = met_sides g v t u e (i refl) q
met_if_told g v t u false e i q = absurd (none_is_some q)

met_truth : (g : KoreSignature) (v : Valuation) (s : KoreSort) (b : Bool) (t : SymbolicTerm) (e : Equation) → IsWellSorted g s t → GivesSorts g v (term_variables t) → term_instance g v t ≡ truth b → equation_of_truth g b t ≡ Some e → IsMet g v e
met_truth g v s b (headed f (next_term t (next_term u no_terms))) e w h z q =
    met_if_told g v t u ((b && tells_equal (meaning_of g f)) || (not b && tells_different (meaning_of g f))) e (λ i. tells g v s f t u t _ b (meaning_of g f) refl w h i refl z) q
met_truth g v s b (headed f no_terms) e w h z q = absurd (none_is_some q)
met_truth g v s b (headed f (next_term t no_terms)) e w h z q = absurd (none_is_some q)
met_truth g v s b (headed f (next_term t (next_term u (next_term k ts)))) e w h z q = absurd (none_is_some q)
met_truth g v s b (unknown x) e w h z q = absurd (none_is_some q)
met_truth g v s b (offset x c) e w h z q = absurd (none_is_some q)
met_truth g v s b (known u) e w h z q = absurd (none_is_some q)

-- ---- what isn't one truth value is the other

abbrev IsTruth : Value → Type 0
IsTruth u = (a : Bool) × (u ≡ truth a)

compared_truth : (c : Comparison) (u w : Value) → IsTruth (interpreted (whole_comparison c) (two u w))
compared_truth c (whole m) (whole n) = (_, refl)
compared_truth c _ _ = (false, refl)

other_truth : (a : Bool) (u : Value) → IsTruth u → ¬ (u ≡ truth a) → u ≡ truth (not a)
other_truth true u i n = by i.0 i.1
  where
    by : (c : Bool) → u ≡ truth c → u ≡ truth false
    by true e = absurd (n e)
    by false e = e
other_truth false u i n = by i.0 i.1
  where
    by : (c : Bool) → u ≡ truth c → u ≡ truth true
    by true e = e
    by false e = absurd (n e)

told_truth : (f : Text) (u w : Value) (b : Bool) (n : SymbolMeaning) → ((b && tells_equal n) || (not b && tells_different n)) ≡ true → IsTruth (applied n f (two u w))
told_truth f u w b (interpretation (whole_comparison c)) p = compared_truth c u w
told_truth f u w b (interpretation values_equal) p = (_, refl)
told_truth f u w b (interpretation values_different) p = (_, refl)
told_truth f u w true _ p = absurd (cc)
told_truth f u w false _ p = absurd (cc)

if_none : (a : Bool) (o : Option Equation) (e : Equation) → (if a then o else None) ≡ Some e → a ≡ true
if_none true o e q = refl
if_none false o e q = absurd (none_is_some q)

call_truth : (g : KoreSignature) (v : Valuation) (b : Bool) (t : SymbolicTerm) (e : Equation) → equation_of_truth g b t ≡ Some e → IsTruth (term_instance g v t)
call_truth g v b (headed f (next_term t (next_term u no_terms))) e q = told_truth f (term_instance g v t) (term_instance g v u) b (meaning_of g f) (if_none ((b && tells_equal (meaning_of g f)) || (not b && tells_different (meaning_of g f))) (equation_of_sides g t u) e q)
call_truth g v b (headed f no_terms) e q = absurd (none_is_some q)
call_truth g v b (headed f (next_term t no_terms)) e q = absurd (none_is_some q)
call_truth g v b (headed f (next_term t (next_term u (next_term k ts)))) e q = absurd (none_is_some q)
call_truth g v b (unknown x) e q = absurd (none_is_some q)
call_truth g v b (offset x c) e q = absurd (none_is_some q)
call_truth g v b (known u) e q = absurd (none_is_some q)

-- ---- literals

by_true : (a : Bool) → beq a true ≡ a
by_true true = refl
by_true false = refl

by_false : (a : Bool) → beq a false ≡ not a
by_false true = refl
by_false false = refl

-- an equality with a truth value, by its sign
met_value : (g : KoreSignature) (v : Valuation) (s : KoreSort) (a b : Bool) (t : SymbolicTerm) (o : Option Equation) (e : Equation) → IsWellSorted g s t → GivesSorts g v (term_variables t) → MatchBool b (term_instance g v t ≡ truth a) (¬ (term_instance g v t ≡ truth a)) → ((d : Equation) → b ≡ true → o ≡ Some d → IsMet g v d)
    → first_equation (equation_of_truth g (beq a b) t) (if b then o else None) ≡ Some e → IsMet g v e
met_value g v s a true t o e w h z i q =
    met_first g v (equation_of_truth g (beq a true) t) o e (λ d k. met_truth g v s (beq a true) t d w h (z ∙ ap truth (sym (by_true a))) k) (λ d k. i d refl k) q
met_value g v s a false t o e w h z i q =
    met_first g v (equation_of_truth g (beq a false) t) None e (λ d k. met_truth g v s (beq a false) t d w h (other_truth a (term_instance g v t) (call_truth g v (beq a false) t d k) z ∙ ap truth (sym (by_false a))) k) (λ d k. absurd (none_is_some k)) q

pub turned : (b : Bool) (u w : Value) → MatchBool b (u ≡ w) (¬ (u ≡ w)) → MatchBool b (w ≡ u) (¬ (w ≡ u))
turned true u w h = sym h
turned false u w n = λ e. n (sym e)

-- what an atom's sides have
abbrev pub AreSides : KoreSignature → Valuation → Atom → Type 0
AreSides g v a = IsWellSortedAtom g a × GivesSorts g v (atom_variables a)

abbrev Given : Valuation → KoreSignature → SortedName → Type 0
Given v g x = HasSort g x.sort (v x.name)

pub met_atom : (g : KoreSignature) (v : Valuation) (b : Bool) (a : Atom) (e : Equation) → AreSides g v a → MatchBool b (IsAtomTrue g v a) (¬ IsAtomTrue g v a) → equation_of_atom g b a ≡ Some e → IsMet g v e
met_atom g v b (same s t (known (truth a))) e h z q = met_value g v s a b t (equation_of_sides g t (known (truth a))) e h.0.0 (all_first (Given v g) (term_variables t) [] h.1) z (λ d i k. met_sides g v t (known (truth a)) d (subst (λ c. MatchBool c (term_instance g v t ≡ truth a) (¬ (term_instance g v t ≡ truth a))) i z) k) q
met_atom g v b (same s (known (truth a)) u) e h z q = met_value g v s a b u (equation_of_sides g (known (truth a)) u) e h.0.1 h.1 (turned b (truth a) (term_instance g v u) z) (λ d i k. met_sides g v (known (truth a)) u d (subst (λ c. MatchBool c (truth a ≡ term_instance g v u) (¬ (truth a ≡ term_instance g v u))) i z) k) q
met_atom g v true (same s t u) e h z q = met_sides g v t u e z q
met_atom g v false (same s t u) e h z q = absurd (none_is_some q)
met_atom g v b (has_head x test) e h z q = absurd (none_is_some q)
met_atom g v b (quoted p rs) e h z q = absurd (none_is_some q)

pub met_clause : (g : KoreSignature) (v : Valuation) (c : List Literal) (e : Equation) → ((l : Literal) → c ≡ l ∷ [] → AreSides g v l.atom) → IsClauseTrue g v c → equation_of g c ≡ Some e → IsMet g v e
met_clause g v (l ∷ []) e h z q = met_atom g v l.holds l.atom e (h l refl) (stable_literal g v l (λ n. z (n, tt))) q
met_clause g v [] e h z q = absurd (none_is_some q)
met_clause g v (l ∷ m ∷ c) e h z q = absurd (none_is_some q)
