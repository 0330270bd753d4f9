-- Where the variable of an equation stands for the instance of its term, the literal that says the equation is true.
use Rattle.std.proofs.Common.{◌≡◌, refl, sym, ◌∙◌, ap, ap₂, subst, ℤ, Bool, true, false, not, ◌&&◌, ◌||◌, [], ◌∷◌, Option, Some, None}
use Rattle.std.specs.Prelude.{if◌then◌else◌, MatchBool}
use Rattle.std.specs.Bool.{beq}
use Rattle.std.specs.Ordering.{int_eq}
use Rattle.std.proofs.lemmas.Bool.Decides.{Decides-int_eq}
use Rattle.kp_kore.specs.Syntax.{Text, KoreSort}
use Rattle.kp_kore.specs.Attributes.{sorts_equal}
use Rattle.kp_kore.specs.Hooks.{equal, different, whole_comparison, values_equal, values_different}
use Rattle.kp_kore.specs.Parts.{SortedName}
use Rattle.kp_kore.specs.Signature.{KoreSignature, SymbolMeaning, interpretation, meaning_of}
use Rattle.kp_kore.specs.Value.{Value, whole, truth, HasSort}
use Rattle.kp_kore.specs.Forms.{two}
use Rattle.kp_kore.specs.Interpretation.{interpreted}
use Rattle.kp_kore.specs.Instance.{Valuation, GivesSorts, applied}
use Rattle.kp_kore.proofs.SameLemmas.{equal_call, different_call}
use Rattle.kp_symbolic.specs.Terms.{SymbolicTerm, unknown, offset, known, headed, no_terms, next_term, term_instance, term_variables}
use Rattle.kp_symbolic.specs.States.{Atom, same, has_head, quoted, IsAtomTrue, Literal, IsLiteralTrue}
use Rattle.kp_symbolic.specs.WellFormed.{IsWellSorted}
use Rattle.kp_symbolic.specs.Folding.{is_text_before}
use Rattle.kp_symbolic.specs.Writing.{is_solved_by}
use Rattle.kp_symbolic.specs.Solving.{Equation, equation_if, first_equation, equation_of_sides, tells_equal, tells_different, equation_of_truth, equation_of_atom, equation_of}
use Rattle.kp_symbolic.proofs.Distribution.{all_first}
use Rattle.kp_symbolic.proofs.Equations.{IsMet, AreSides, numbers_of, turned, AreNumbers}

some_inside : {A : Type 0} {a b : A} → Some a ≡ Some b → a ≡ b
some_inside e = cc

none_is_some : {A : Type 0} {a : A} → None ≡ Some a → ⊥
none_is_some e = cc

-- ---- sides

told_if : (g : KoreSignature) (v : Valuation) (x : SortedName) (t : SymbolicTerm) (b : Bool) (e : Equation) → (if b then Some (record { variable = x; term = t }) else None) ≡ Some e → IsMet g v e → v x.name ≡ term_instance g v t
told_if g v x t true e q h = subst (IsMet g v) (sym (some_inside q)) h
told_if g v x t false e q h = absurd (none_is_some q)

told_equation : (g : KoreSignature) (v : Valuation) (x : SortedName) (t : SymbolicTerm) (e : Equation) → equation_if g x t ≡ Some e → IsMet g v e → v x.name ≡ term_instance g v t
told_equation g v x t e q h = told_if g v x t (is_solved_by g x t) e q h

told_first : (g : KoreSignature) (v : Valuation) (P : Type 0) (o p : Option Equation) (e : Equation) → ((d : Equation) → o ≡ Some d → IsMet g v d → P) → ((d : Equation) → p ≡ Some d → IsMet g v d → P) → first_equation o p ≡ Some e → IsMet g v e → P
told_first g v P (Some d) p e i j q h = i e q h
told_first g v P None p e i j q h = j e q h

told_by : (g : KoreSignature) (v : Valuation) (P : Type 0) (b : Bool) (o p : Option Equation) (e : Equation) → ((d : Equation) → o ≡ Some d → IsMet g v d → P) → ((d : Equation) → p ≡ Some d → IsMet g v d → P) → (if b then o else p) ≡ Some e → IsMet g v e → P
told_by g v P true o p e i j q h = i e q h
told_by g v P false o p e i j q h = j e q h

told_sides : (g : KoreSignature) (v : Valuation) (t u : SymbolicTerm) (e : Equation) → equation_of_sides g t u ≡ Some e → IsMet g v e → term_instance g v t ≡ term_instance g v u
told_sides g v (unknown x) (unknown y) e q h =
    told_by g v (v x.name ≡ v y.name) (sorts_equal x.sort y.sort && is_text_before y.name x.name) (equation_if g y (unknown x)) (first_equation (equation_if g x (unknown y)) (equation_if g y (unknown x))) e
    (λ d k m. sym (told_equation g v y (unknown x) d k m))
    (λ d. told_first g v (v x.name ≡ v y.name) (equation_if g x (unknown y)) (equation_if g y (unknown x)) d (λ k. told_equation g v x (unknown y) k) (λ k i m. sym (told_equation g v y (unknown x) k i m))) q h
told_sides g v (unknown x) (offset y c) e q h = told_equation g v x (offset y c) e q h
told_sides g v (unknown x) (known u) e q h = told_equation g v x (known u) e q h
told_sides g v (unknown x) (headed f ts) e q h = told_equation g v x (headed f ts) e q h
told_sides g v (offset x c) (unknown y) e q h = sym (told_equation g v y (offset x c) e q h)
told_sides g v (known u) (unknown y) e q h = sym (told_equation g v y (known u) e q h)
told_sides g v (headed f ts) (unknown y) e q h = sym (told_equation g v y (headed f ts) e q h)
told_sides g v (offset x c) (offset y d) e q h = absurd (none_is_some q)
told_sides g v (offset x c) (known u) e q h = absurd (none_is_some q)
told_sides g v (offset x c) (headed f ts) e q h = absurd (none_is_some q)
told_sides g v (known u) (offset y d) e q h = absurd (none_is_some q)
told_sides g v (known u) (known w) e q h = absurd (none_is_some q)
told_sides g v (known u) (headed f ts) e q h = absurd (none_is_some q)
told_sides g v (headed f ts) (offset y d) e q h = absurd (none_is_some q)
told_sides g v (headed f ts) (known u) e q h = absurd (none_is_some q)
told_sides g v (headed f ts) (headed k us) e q h = absurd (none_is_some q)

-- ---- calls that tell equality

true_false : true ≡ false → ⊥
true_false e = cc

whole_inside : {m n : ℤ} → whole m ≡ whole n → m ≡ n
whole_inside e = cc

same_inside : {u w : Value} (k : AreNumbers u w) → u ≡ w → int_eq k.first k.second ≡ true
same_inside k e = (Decides-int_eq k.first k.second).1 (whole_inside (sym k.first_is ∙ e ∙ k.second_is))

-- what a call says where its sides are equal
told_call : (g : KoreSignature) (v : Valuation) (s : KoreSort) (f : Text) (t u : SymbolicTerm) (b : Bool) (n : SymbolMeaning) → meaning_of g f ≡ n → IsWellSorted g s (headed f (next_term t (next_term u no_terms))) → GivesSorts g v (term_variables (headed f (next_term t (next_term u no_terms))))
    → ((b && tells_equal n) || (not b && tells_different n)) ≡ true → term_instance g v t ≡ term_instance g v u → applied n f (two (term_instance g v t) (term_instance g v u)) ≡ truth b
told_call g v s f t u true (interpretation (whole_comparison equal)) e w h p z =
    let k = numbers_of g v s f t u equal e w h in
    ap₂ (λ x y. interpreted (whole_comparison equal) (two x y)) k.first_is k.second_is ∙ ap truth (same_inside k z)
told_call g v s f t u false (interpretation (whole_comparison different)) e w h p z =
    let k = numbers_of g v s f t u different e w h in
    ap₂ (λ x y. interpreted (whole_comparison different) (two x y)) k.first_is k.second_is ∙ ap (λ b. truth (not b)) (same_inside k z)
told_call g v s f t u true (interpretation values_equal) e w h p z = (equal_call (term_instance g v t) (term_instance g v u)).1 z
told_call g v s f t u false (interpretation values_different) e w h p z = (different_call (term_instance g v t) (term_instance g v u)).1 z
told_call g v s f t u true _ e w h p z = absurd (cc)
told_call g v s f t u false _ e w h p z = absurd (cc)

if_true : (a : Bool) (o : Option Equation) (e : Equation) → (if a then o else None) ≡ Some e → (a ≡ true) × (o ≡ Some e)
if_true true o e q = (refl, q)
if_true false o e q = absurd (none_is_some q)

told_truth : (g : KoreSignature) (v : Valuation) (s : KoreSort) (b : Bool) (t : SymbolicTerm) (e : Equation) → IsWellSorted g s t → GivesSorts g v (term_variables t) → equation_of_truth g b t ≡ Some e → IsMet g v e → term_instance g v t ≡ truth b
told_truth g v s b (headed f (next_term t (next_term u no_terms))) e w h q m =
    let p = if_true ((b && tells_equal (meaning_of g f)) || (not b && tells_different (meaning_of g f))) (equation_of_sides g t u) e q in
    told_call g v s f t u b (meaning_of g f) refl w h p.0 (told_sides g v t u e p.1 m)
told_truth g v s b (headed f no_terms) e w h q m = absurd (none_is_some q)
told_truth g v s b (headed f (next_term t no_terms)) e w h q m = absurd (none_is_some q)
told_truth g v s b (headed f (next_term t (next_term u (next_term k ts)))) e w h q m = absurd (none_is_some q)
told_truth g v s b (unknown x) e w h q m = absurd (none_is_some q)
told_truth g v s b (offset x c) e w h q m = absurd (none_is_some q)
told_truth g v s b (known u) e w h q m = absurd (none_is_some q)

-- ---- literals

by_true : (a : Bool) → beq a true ≡ a
by_true true = refl
by_true false = refl

truth_inside : {a c : Bool} → truth a ≡ truth c → a ≡ c
truth_inside e = cc

other_truth : (a : Bool) (u : Value) → u ≡ truth (beq a false) → ¬ (u ≡ truth a)
other_truth true u e h = true_false (truth_inside (sym h ∙ e))
other_truth false u e h = true_false (truth_inside (sym e ∙ h))

-- an equality with a truth value, by its sign
told_value : (g : KoreSignature) (v : Valuation) (s : KoreSort) (a b : Bool) (t : SymbolicTerm) (o : Option Equation) (e : Equation) → IsWellSorted g s t → GivesSorts g v (term_variables t) → ((d : Equation) → o ≡ Some d → IsMet g v d → term_instance g v t ≡ truth a)
    → first_equation (equation_of_truth g (beq a b) t) (if b then o else None) ≡ Some e → IsMet g v e → MatchBool b (term_instance g v t ≡ truth a) (¬ (term_instance g v t ≡ truth a))
told_value g v s a true t o e w h i q m =
    told_first g v (term_instance g v t ≡ truth a) (equation_of_truth g (beq a true) t) o e (λ d k n. told_truth g v s (beq a true) t d w h k n ∙ ap truth (by_true a)) i q m
told_value g v s a false t o e w h i q m =
    told_first g v (¬ (term_instance g v t ≡ truth a)) (equation_of_truth g (beq a false) t) None e (λ d k n. other_truth a (term_instance g v t) (told_truth g v s (beq a false) t d w h k n)) (λ d k n. absurd (none_is_some k)) q m

abbrev Given : Valuation → KoreSignature → SortedName → Type 0
Given v g x = HasSort g x.sort (v x.name)

told_atom : (g : KoreSignature) (v : Valuation) (b : Bool) (a : Atom) (e : Equation) → AreSides g v a → equation_of_atom g b a ≡ Some e → IsMet g v e → MatchBool b (IsAtomTrue g v a) (¬ IsAtomTrue g v a)
told_atom g v b (same s t (known (truth a))) e h q m = told_value g v s a b t (equation_of_sides g t (known (truth a))) e h.0.0 (all_first (Given v g) (term_variables t) [] h.1) (λ d k n. told_sides g v t (known (truth a)) d k n) q m
told_atom g v b (same s (known (truth a)) u) e h q m = turned b (term_instance g v u) (truth a) (told_value g v s a b u (equation_of_sides g (known (truth a)) u) e h.0.1 h.1 (λ d k n. sym (told_sides g v (known (truth a)) u d k n)) q m)
told_atom g v true (same s t u) e h q m = told_sides g v t u e q m
told_atom g v false (same s t u) e h q m = absurd (none_is_some q)
told_atom g v b (has_head x test) e h q m = absurd (none_is_some q)
told_atom g v b (quoted p rs) e h q m = absurd (none_is_some q)

pub told_literal : (g : KoreSignature) (v : Valuation) (l : Literal) (e : Equation) → AreSides g v l.atom → equation_of g (l ∷ []) ≡ Some e → IsMet g v e → IsLiteralTrue g v l
told_literal g v l e h q m = told_atom g v l.holds l.atom e h q m
