-- What holds of the sides of an atom, and of those of a call in it, holds of both sides of its equation.
use Rattle.std.proofs.Common.{◌≡◌, subst, Bool, true, false, not, ◌&&◌, ◌||◌, Option, Some, None}
use Rattle.std.specs.Prelude.{if◌then◌else◌, ⊤}
use Rattle.std.specs.Bool.{beq}
use Rattle.kp_kore.specs.Syntax.{KoreSort}
use Rattle.kp_kore.specs.Attributes.{sorts_equal}
use Rattle.kp_kore.specs.Parts.{SortedName}
use Rattle.kp_kore.specs.Signature.{KoreSignature, meaning_of}
use Rattle.kp_kore.specs.Value.{truth}
use Rattle.kp_symbolic.specs.Terms.{SymbolicTerm, unknown, offset, known, headed, no_terms, next_term}
use Rattle.kp_symbolic.specs.States.{same}
use Rattle.kp_symbolic.specs.Folding.{is_text_before}
use Rattle.kp_symbolic.specs.Writing.{is_solved_by}
use Rattle.kp_symbolic.specs.Solving.{Equation, equation_if, first_equation, equation_of_sides, tells_equal, tells_different, equation_of_truth, equation_of_atom}

some_inside : {A : Type 0} {a b : A} → Some a ≡ Some b → a ≡ b
some_inside e = cc

none_is_some : {A : Type 0} {a : A} → None ≡ Some a → ⊥
none_is_some e = cc

-- ---- of terms that have a property

abbrev pub Has : (SymbolicTerm → Type 0) → Equation → Type 0
Has P e = P (unknown e.variable) × P e.term

abbrev pub IsOf : (SymbolicTerm → Type 0) → Option Equation → Type 0
IsOf P o = (e : Equation) → o ≡ Some e → Has P e

of_none : (P : SymbolicTerm → Type 0) → IsOf P None
of_none P = λ e q. absurd (none_is_some q)

of_if : (P : SymbolicTerm → Type 0) (x : SortedName) (t : SymbolicTerm) (b : Bool) → P (unknown x) → P t → IsOf P (if b then Some (record { variable = x; term = t }) else None)
of_if P x t true i j = λ e q. subst (Has P) (some_inside q) (i, j)
of_if P x t false i j = of_none P

of_equation : (g : KoreSignature) (P : SymbolicTerm → Type 0) (x : SortedName) (t : SymbolicTerm) → P (unknown x) → P t → IsOf P (equation_if g x t)
of_equation g P x t i j = of_if P x t (is_solved_by g x t) i j

of_first : (P : SymbolicTerm → Type 0) (o p : Option Equation) → IsOf P o → IsOf P p → IsOf P (first_equation o p)
of_first P (Some d) p i j = i
of_first P None p i j = j

of_either : (P : SymbolicTerm → Type 0) (b : Bool) (o p : Option Equation) → IsOf P o → IsOf P p → IsOf P (if b then o else p)
of_either P true o p i j = i
of_either P false o p i j = j

of_sides : (g : KoreSignature) (P : SymbolicTerm → Type 0) (t u : SymbolicTerm) → P t → P u → IsOf P (equation_of_sides g t u)
of_sides g P (unknown x) (unknown y) i j =
    of_either P (sorts_equal x.sort y.sort && is_text_before y.name x.name) (equation_if g y (unknown x)) (first_equation (equation_if g x (unknown y)) (equation_if g y (unknown x)))
    (of_equation g P y (unknown x) j i)
    (of_first P (equation_if g x (unknown y)) (equation_if g y (unknown x)) (of_equation g P x (unknown y) i j) (of_equation g P y (unknown x) j i))
of_sides g P (unknown x) (offset y c) i j = of_equation g P x (offset y c) i j
of_sides g P (unknown x) (known u) i j = of_equation g P x (known u) i j
of_sides g P (unknown x) (headed f ts) i j = of_equation g P x (headed f ts) i j
of_sides g P (offset x c) (unknown y) i j = of_equation g P y (offset x c) j i
of_sides g P (known u) (unknown y) i j = of_equation g P y (known u) j i
of_sides g P (headed f ts) (unknown y) i j = of_equation g P y (headed f ts) j i
of_sides g P (offset x c) (offset y d) i j = of_none P
of_sides g P (offset x c) (known u) i j = of_none P
of_sides g P (offset x c) (headed f ts) i j = of_none P
of_sides g P (known u) (offset y d) i j = of_none P
of_sides g P (known u) (known w) i j = of_none P
of_sides g P (known u) (headed f ts) i j = of_none P
of_sides g P (headed f ts) (offset y d) i j = of_none P
of_sides g P (headed f ts) (known u) i j = of_none P
of_sides g P (headed f ts) (headed k us) i j = of_none P

abbrev pub InCall : (SymbolicTerm → Type 0) → SymbolicTerm → Type 0
InCall P (headed f (next_term t (next_term u no_terms))) = P t × P u
InCall P t = ⊤

of_truth : (g : KoreSignature) (P : SymbolicTerm → Type 0) (b : Bool) (t : SymbolicTerm) → InCall P t → IsOf P (equation_of_truth g b t)
of_truth g P b (headed f (next_term t (next_term u no_terms))) i = of_either P ((b && tells_equal (meaning_of g f)) || (not b && tells_different (meaning_of g f))) (equation_of_sides g t u) None (of_sides g P t u i.0 i.1) (of_none P)
of_truth g P b (headed f no_terms) i = of_none P
of_truth g P b (headed f (next_term t no_terms)) i = of_none P
of_truth g P b (headed f (next_term t (next_term u (next_term k ts)))) i = of_none P
of_truth g P b (unknown x) i = of_none P
of_truth g P b (offset x c) i = of_none P
of_truth g P b (known u) i = of_none P

of_value : (g : KoreSignature) (P : SymbolicTerm → Type 0) (a b : Bool) (t : SymbolicTerm) (o : Option Equation) → InCall P t → IsOf P o → IsOf P (first_equation (equation_of_truth g (beq a b) t) (if b then o else None))
of_value g P a b t o i k = of_first P (equation_of_truth g (beq a b) t) (if b then o else None) (of_truth g P (beq a b) t i) (of_either P b o None k (of_none P))

pub of_same : (g : KoreSignature) (P : SymbolicTerm → Type 0) (b : Bool) (s : KoreSort) (t u : SymbolicTerm) → P t → P u → InCall P t → InCall P u → IsOf P (equation_of_atom g b (same s t u))
of_same g P b s t (known (truth a)) i j k l = of_value g P a b t (equation_of_sides g t (known (truth a))) k (of_sides g P t (known (truth a)) i j)
of_same g P b s (known (truth a)) u i j k l = of_value g P a b u (equation_of_sides g (known (truth a)) u) l (of_sides g P (known (truth a)) u i j)
of_same g P true s t u i j k l = of_sides g P t u i j
of_same g P false s t u i j k l = of_none P
