-- What the variable of an equation stands in: not in its own term, and in no other clause where it is solved.
use Rattle.std.proofs.Common.{◌≡◌, refl, subst, Bool, true, false, not, ◌&&◌, ◌||◌, List, [], ◌∷◌, ◌++◌, Option, Some, None}
use Rattle.std.specs.Prelude.{if◌then◌else◌, ⊤}
use Rattle.std.specs.Bool.{beq}
use Rattle.std.specs.List.{AllByRecursion, Contains, list_all}
use Rattle.std.proofs.lemmas.List.Elements.{Contains-append_left}
use Rattle.kp_kore.specs.Attributes.{sorts_equal}
use Rattle.kp_kore.specs.Parts.{SortedName}
use Rattle.kp_kore.specs.Signature.{KoreSignature, meaning_of}
use Rattle.kp_kore.specs.Value.{truth}
use Rattle.kp_kore.specs.Instance.{is_named}
use Rattle.kp_kore.proofs.InstanceLemmas.{first_true, second_true}
use Rattle.kp_kore.proofs.TurnLemmas.{of_member}
use Rattle.kp_symbolic.specs.Terms.{SymbolicTerm, unknown, offset, known, headed, no_terms, next_term, term_variables}
use Rattle.kp_symbolic.specs.States.{Atom, same, has_head, quoted, Literal, clause_variables, SymbolicState}
use Rattle.kp_symbolic.specs.WellFormed.{term_sort, is_sort_below}
use Rattle.kp_symbolic.specs.Folding.{is_text_before}
use Rattle.kp_symbolic.specs.Writing.{is_solved_by}
use Rattle.kp_symbolic.specs.Solving.{Equation, equation_if, first_equation, equation_of_sides, tells_equal, tells_different, equation_of_truth, equation_of_atom, equation_of}
use Rattle.kp_symbolic.specs.Plain.{stands_in_none}
use Rattle.kp_satisfiability.proofs.Ready.{IsSolved}

some_inside : {A : Type 0} {a b : A} → Some a ≡ Some b → a ≡ b
some_inside e = cc

none_is_some : {A : Type 0} {a : A} → None ≡ Some a → ⊥
none_is_some e = cc

not_true : (b : Bool) → not b ≡ true → b ≡ false
not_true false e = refl
not_true true e = absurd (cc)

-- ---- not in its own term

abbrev pub IsFree : Equation → Type 0
IsFree e = is_named e.variable.name (term_variables e.term) ≡ false

free_if : (x : SortedName) (t : SymbolicTerm) (b : Bool) (e : Equation) → (b ≡ true → is_named x.name (term_variables t) ≡ false) → (if b then Some (record { variable = x; term = t }) else None) ≡ Some e → IsFree e
free_if x t true e f q = subst IsFree (some_inside q) (f refl)
free_if x t false e f q = absurd (none_is_some q)

free_equation : (g : KoreSignature) (x : SortedName) (t : SymbolicTerm) (e : Equation) → equation_if g x t ≡ Some e → IsFree e
free_equation g x t e q = free_if x t (is_solved_by g x t) e (λ k. not_true (is_named x.name (term_variables t)) (first_true (not (is_named x.name (term_variables t))) (is_sort_below g (term_sort g t) x.sort) k)) q

free_first : (o p : Option Equation) (e : Equation) → ((d : Equation) → o ≡ Some d → IsFree d) → ((d : Equation) → p ≡ Some d → IsFree d) → first_equation o p ≡ Some e → IsFree e
free_first (Some d) p e i j q = i e q
free_first None p e i j q = j e q

free_by : (b : Bool) (o p : Option Equation) (e : Equation) → ((d : Equation) → o ≡ Some d → IsFree d) → ((d : Equation) → p ≡ Some d → IsFree d) → (if b then o else p) ≡ Some e → IsFree e
free_by true o p e i j q = i e q
free_by false o p e i j q = j e q

free_sides : (g : KoreSignature) (t u : SymbolicTerm) (e : Equation) → equation_of_sides g t u ≡ Some e → IsFree e
free_sides g (unknown x) (unknown y) e q =
    free_by (sorts_equal x.sort y.sort && is_text_before y.name x.name) (equation_if g y (unknown x)) (first_equation (equation_if g x (unknown y)) (equation_if g y (unknown x))) e
    (λ d. free_equation g y (unknown x) d)
    (λ d. free_first (equation_if g x (unknown y)) (equation_if g y (unknown x)) d (λ k. free_equation g x (unknown y) k) (λ k. free_equation g y (unknown x) k)) q
free_sides g (unknown x) (offset y c) e q = free_equation g x (offset y c) e q
free_sides g (unknown x) (known u) e q = free_equation g x (known u) e q
free_sides g (unknown x) (headed f ts) e q = free_equation g x (headed f ts) e q
free_sides g (offset x c) (unknown y) e q = free_equation g y (offset x c) e q
free_sides g (known u) (unknown y) e q = free_equation g y (known u) e q
free_sides g (headed f ts) (unknown y) e q = free_equation g y (headed f ts) e q
free_sides g (offset x c) (offset y d) e q = absurd (none_is_some q)
free_sides g (offset x c) (known u) e q = absurd (none_is_some q)
free_sides g (offset x c) (headed f ts) e q = absurd (none_is_some q)
free_sides g (known u) (offset y d) e q = absurd (none_is_some q)
free_sides g (known u) (known w) e q = absurd (none_is_some q)
free_sides g (known u) (headed f ts) e q = absurd (none_is_some q)
free_sides g (headed f ts) (offset y d) e q = absurd (none_is_some q)
free_sides g (headed f ts) (known u) e q = absurd (none_is_some q)
free_sides g (headed f ts) (headed k us) e q = absurd (none_is_some q)

free_truth : (g : KoreSignature) (b : Bool) (t : SymbolicTerm) (e : Equation) → equation_of_truth g b t ≡ Some e → IsFree e
free_truth g b (headed f (next_term t (next_term u no_terms))) e q = free_by ((b && tells_equal (meaning_of g f)) || (not b && tells_different (meaning_of g f))) (equation_of_sides g t u) None e (λ d. free_sides g t u d) (λ d k. absurd (none_is_some k)) q
free_truth g b (headed f no_terms) e q = absurd (none_is_some q)
free_truth g b (headed f (next_term t no_terms)) e q = absurd (none_is_some q)
free_truth g b (headed f (next_term t (next_term u (next_term k ts)))) e q = absurd (none_is_some q)
free_truth g b (unknown x) e q = absurd (none_is_some q)
free_truth g b (offset x c) e q = absurd (none_is_some q)
free_truth g b (known u) e q = absurd (none_is_some q)

free_value : (g : KoreSignature) (a b : Bool) (t : SymbolicTerm) (o : Option Equation) (e : Equation) → ((d : Equation) → o ≡ Some d → IsFree d) → first_equation (equation_of_truth g (beq a b) t) (if b then o else None) ≡ Some e → IsFree e
free_value g a b t o e i q = free_first (equation_of_truth g (beq a b) t) (if b then o else None) e (λ d. free_truth g (beq a b) t d) (λ d. free_by b o None d i (λ k n. absurd (none_is_some n))) q

free_atom : (g : KoreSignature) (b : Bool) (a : Atom) (e : Equation) → equation_of_atom g b a ≡ Some e → IsFree e
free_atom g b (same s t (known (truth a))) e q = free_value g a b t (equation_of_sides g t (known (truth a))) e (λ d. free_sides g t (known (truth a)) d) q
free_atom g b (same s (known (truth a)) u) e q = free_value g a b u (equation_of_sides g (known (truth a)) u) e (λ d. free_sides g (known (truth a)) u d) q
free_atom g true (same s t u) e q = free_sides g t u e q
free_atom g false (same s t u) e q = absurd (none_is_some q)
free_atom g b (has_head x test) e q = absurd (none_is_some q)
free_atom g b (quoted p rs) e q = absurd (none_is_some q)

pub free_literal : (g : KoreSignature) (l : Literal) (e : Equation) → equation_of g (l ∷ []) ≡ Some e → IsFree e
free_literal g l e q = free_atom g l.holds l.atom e q

-- ---- in no other clause

pub all_pass : {X : Type 0} (test : X → Bool) (xs : List X) → list_all test xs ≡ true → AllByRecursion (λ x. test x ≡ true) xs
all_pass test [] e = tt
all_pass test (x ∷ xs) e = (first_true (test x) (list_all test xs) e, all_pass test xs (second_true (test x) (list_all test xs) e))

pub alone_in : (s : SymbolicState) (others : List (List Literal)) (x : SortedName) (d : List Literal) → stands_in_none others x.name ≡ true → Contains others d → is_named x.name (clause_variables d) ≡ false
alone_in s others x d all at =
    not_true (is_named x.name (clause_variables d)) (of_member (λ c. not (is_named x.name (clause_variables c)) ≡ true) others d (all_pass (λ c. not (is_named x.name (clause_variables c))) others all) at)

-- the variables that are solved for in these clauses, behind others, don't stand among the variables
abbrev pub Leaves : KoreSignature → SymbolicState → List SortedName → List (List Literal) → List Literal → Type 0
Leaves g s xs others c = (l : Literal) → c ≡ l ∷ [] → (k : IsSolved g s others l) → is_named k.equation.variable.name xs ≡ false

abbrev pub LeaveAll : KoreSignature → SymbolicState → List SortedName → List (List Literal) → List (List Literal) → Type 0
LeaveAll g s xs before [] = ⊤
LeaveAll g s xs before (c ∷ after) = Leaves g s xs (before ++ after) c × LeaveAll g s xs (before ++ c ∷ []) after

pub others_leave : (g : KoreSignature) (s : SymbolicState) (d : List Literal) (before after : List (List Literal)) → Contains before d → LeaveAll g s (clause_variables d) before after
others_leave g s d before [] at = tt
others_leave g s d before (c ∷ after) at = (
  (λ l e k. alone_in s (before ++ after) k.equation.variable d k.alone (Contains-append_left before after d at)),
  others_leave g s d (before ++ c ∷ []) after (Contains-append_left before (c ∷ []) d at),
)
