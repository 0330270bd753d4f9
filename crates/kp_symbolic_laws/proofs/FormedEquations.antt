-- The term of an equation of normal sides is in normal form.
use Rattle.std.proofs.Common.{◌≡◌, subst, Bool, true, false, not, ◌&&◌, ◌||◌, List, [], ◌∷◌, Option, Some, None}
use Rattle.std.specs.Prelude.{if◌then◌else◌}
use Rattle.std.specs.Bool.{beq}
use Rattle.std.specs.List.{AllByRecursion}
use Rattle.kp_kore.specs.Syntax.{KoreSort, KorePattern}
use Rattle.kp_kore.specs.Attributes.{sorts_equal}
use Rattle.kp_kore.specs.Parts.{SortedName}
use Rattle.kp_kore.specs.Signature.{KoreSignature, meaning_of}
use Rattle.kp_kore.specs.Value.{truth}
use Rattle.kp_symbolic.specs.Terms.{SymbolicTerm, unknown, offset, known, headed, no_terms, next_term}
use Rattle.kp_symbolic.specs.States.{Atom, same, has_head, quoted, Literal}
use Rattle.kp_symbolic.specs.Folding.{is_text_before}
use Rattle.kp_symbolic.specs.Writing.{is_solved_by}
use Rattle.kp_symbolic.specs.Solving.{Equation, equation_if, first_equation, equation_of_sides, tells_equal, tells_different, equation_of_truth, equation_of_atom, equation_of}
use Rattle.kp_symbolic_laws.specs.Safe.{Formed, IsNormal}

some_inside : {A : Type 0} {a b : A} → Some a ≡ Some b → a ≡ b
some_inside e = cc

none_is_some : {A : Type 0} {a : A} → None ≡ Some a → ⊥
none_is_some e = cc

abbrev IsOfNormal : KoreSignature → Option Equation → Type 0
IsOfNormal g o = (e : Equation) → o ≡ Some e → IsNormal g e.term

normal_if : (g : KoreSignature) (x : SortedName) (t : SymbolicTerm) (b : Bool) → IsNormal g t → IsOfNormal g (if b then Some (record { variable = x; term = t }) else None)
normal_if g x t true h = λ e q. subst (λ d. IsNormal g d.term) (some_inside q) h
normal_if g x t false h = λ e q. absurd (none_is_some q)

normal_equation : (g : KoreSignature) (x : SortedName) (t : SymbolicTerm) → IsNormal g t → IsOfNormal g (equation_if g x t)
normal_equation g x t h = normal_if g x t (is_solved_by g x t) h

normal_first : (g : KoreSignature) (o p : Option Equation) → IsOfNormal g o → IsOfNormal g p → IsOfNormal g (first_equation o p)
normal_first g (Some d) p i j = i
normal_first g None p i j = j

normal_by : (g : KoreSignature) (b : Bool) (o p : Option Equation) → IsOfNormal g o → IsOfNormal g p → IsOfNormal g (if b then o else p)
normal_by g true o p i j = i
normal_by g false o p i j = j

normal_none : (g : KoreSignature) → IsOfNormal g None
normal_none g = λ e q. absurd (none_is_some q)

normal_sides : (g : KoreSignature) (t u : SymbolicTerm) → IsNormal g t → IsNormal g u → IsOfNormal g (equation_of_sides g t u)
normal_sides g (unknown x) (unknown y) i j =
    normal_by g (sorts_equal x.sort y.sort && is_text_before y.name x.name) (equation_if g y (unknown x)) (first_equation (equation_if g x (unknown y)) (equation_if g y (unknown x)))
    (normal_equation g y (unknown x) i)
    (normal_first g (equation_if g x (unknown y)) (equation_if g y (unknown x)) (normal_equation g x (unknown y) j) (normal_equation g y (unknown x) i))
normal_sides g (unknown x) (offset y c) i j = normal_equation g x (offset y c) j
normal_sides g (unknown x) (known u) i j = normal_equation g x (known u) j
normal_sides g (unknown x) (headed f ts) i j = normal_equation g x (headed f ts) j
normal_sides g (offset x c) (unknown y) i j = normal_equation g y (offset x c) i
normal_sides g (known u) (unknown y) i j = normal_equation g y (known u) i
normal_sides g (headed f ts) (unknown y) i j = normal_equation g y (headed f ts) i
normal_sides g (offset x c) (offset y d) i j = normal_none g
normal_sides g (offset x c) (known u) i j = normal_none g
normal_sides g (offset x c) (headed f ts) i j = normal_none g
normal_sides g (known u) (offset y d) i j = normal_none g
normal_sides g (known u) (known w) i j = normal_none g
normal_sides g (known u) (headed f ts) i j = normal_none g
normal_sides g (headed f ts) (offset y d) i j = normal_none g
normal_sides g (headed f ts) (known u) i j = normal_none g
normal_sides g (headed f ts) (headed k us) i j = normal_none g

normal_truth : (g : KoreSignature) (b : Bool) (t : SymbolicTerm) → IsNormal g t → IsOfNormal g (equation_of_truth g b t)
normal_truth g b (headed f (next_term t (next_term u no_terms))) i = normal_by g ((b && tells_equal (meaning_of g f)) || (not b && tells_different (meaning_of g f))) (equation_of_sides g t u) None (normal_sides g t u i.1.0 i.1.1.0) (normal_none g)
normal_truth g b (headed f no_terms) i = normal_none g
normal_truth g b (headed f (next_term t no_terms)) i = normal_none g
normal_truth g b (headed f (next_term t (next_term u (next_term k ts)))) i = normal_none g
normal_truth g b (unknown x) i = normal_none g
normal_truth g b (offset x c) i = normal_none g
normal_truth g b (known u) i = normal_none g

normal_value : (g : KoreSignature) (a b : Bool) (t : SymbolicTerm) (o : Option Equation) → IsNormal g t → IsOfNormal g o → IsOfNormal g (first_equation (equation_of_truth g (beq a b) t) (if b then o else None))
normal_value g a b t o i k = normal_first g (equation_of_truth g (beq a b) t) (if b then o else None) (normal_truth g (beq a b) t i) (normal_by g b o None k (normal_none g))

normal_atom : (g : KoreSignature) (b : Bool) (s : KoreSort) (t u : SymbolicTerm) → IsNormal g t → IsNormal g u → IsOfNormal g (equation_of_atom g b (same s t u))
normal_atom g b s t (known (truth a)) i j = normal_value g a b t (equation_of_sides g t (known (truth a))) i (normal_sides g t (known (truth a)) i j)
normal_atom g b s (known (truth a)) u i j = normal_value g a b u (equation_of_sides g (known (truth a)) u) j (normal_sides g (known (truth a)) u i j)
normal_atom g true s t u i j = normal_sides g t u i j
normal_atom g false s t u i j = normal_none g

of_literal : (g : KoreSignature) (V : KorePattern → Type 0) (b : Bool) (a : Atom) → Formed g V (record { holds = b; atom = a }) → IsOfNormal g (equation_of_atom g b a)
of_literal g V b (same s t u) h = normal_atom g b s t u h.0 h.1
of_literal g V b (has_head x test) h = normal_none g
of_literal g V b (quoted p rs) h = normal_none g

pub normal_clause : (g : KoreSignature) (V : KorePattern → Type 0) (c : List Literal) (e : Equation) → AllByRecursion (Formed g V) c → equation_of g c ≡ Some e → IsNormal g e.term
normal_clause g V (l ∷ []) e h q = of_literal g V l.holds l.atom h.0 e q
normal_clause g V [] e h q = absurd (none_is_some q)
normal_clause g V (l ∷ m ∷ c) e h q = absurd (none_is_some q)
