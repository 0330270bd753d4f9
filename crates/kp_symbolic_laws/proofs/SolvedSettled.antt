-- Where an equation is solved, a state of settled terms has settled terms.
use Rattle.std.proofs.Common.{◌≡◌, subst, ℕ, zero, suc, ◌+◌, Bool, true, false, not, ◌&&◌, ◌||◌, List, [], ◌∷◌, ◌++◌, map, length, Option, Some, None}
use Rattle.std.specs.Prelude.{if◌then◌else◌, is_some, nat_le, ⊤}
use Rattle.std.specs.Bool.{beq}
use Rattle.std.specs.List.{AllByRecursion}
use Rattle.kp_kore.specs.Syntax.{KoreSort}
use Rattle.kp_kore.specs.Attributes.{sorts_equal}
use Rattle.kp_kore.specs.Parts.{SortedName, free_variables}
use Rattle.kp_kore.specs.Signature.{KoreSignature, meaning_of}
use Rattle.kp_kore.specs.Value.{truth}
use Rattle.kp_kore.specs.Instance.{is_named}
use Rattle.kp_symbolic.specs.Terms.{SymbolicTerm, unknown, known, headed, no_terms, next_term, Replaced, replacement_for}
use Rattle.kp_symbolic.specs.States.{Atom, same, has_head, quoted, Literal, clause_variables, SymbolicState}
use Rattle.kp_symbolic.specs.Folding.{is_text_before, replaced}
use Rattle.kp_symbolic.specs.Opening.{literal_fact}
use Rattle.kp_symbolic.specs.Clauses.{distributed, is_too_large}
use Rattle.kp_symbolic.specs.Writing.{is_solved_by, written_clause}
use Rattle.kp_symbolic.specs.Solving.{Equation, equation_if, first_equation, equation_of_sides, tells_equal, tells_different, equation_of_truth, equation_of_atom, equation_of, replacement, opened_with, all_opened_with, is_single, opened_clause, solved_clause, literals_in, solved_clauses, Solvable, stands_elsewhere, solvable_if, first_of_two, first_solvable_among, most_solved, first_solvable, solved_at, Solving, finished, goes_on}
use Rattle.kp_symbolic.proofs.Distribution.{all_both}
use Rattle.kp_symbolic.proofs.Facts.{clauses_have}
use Rattle.kp_symbolic_laws.proofs.Settled.{IsSettled, ArePutSettled, replaced_settled}
use Rattle.kp_symbolic_laws.proofs.Fit.{fit_only}
use Rattle.kp_symbolic_laws.proofs.OpenedSettled.{IsSettledAtom, IsSettledLiteral, AreSettledClauses, IsSettledFormula, AreSettledFormulas, opened_same_settled, opened_test_settled, once_settled}
use Rattle.kp_symbolic_laws.proofs.WrittenFit.{IsRight, clause_fit}

-- ---- equations

abbrev IsSettledEquation : KoreSignature → Option Equation → Type 0
IsSettledEquation g (Some e) = IsSettled g e.term
IsSettledEquation g None = ⊤

either_equation : (g : KoreSignature) (b : Bool) (o q : Option Equation) → IsSettledEquation g o → IsSettledEquation g q → IsSettledEquation g (if b then o else q)
either_equation g true o q i j = i
either_equation g false o q i j = j

equation_settled : (g : KoreSignature) (x : SortedName) (t : SymbolicTerm) → IsSettled g t → IsSettledEquation g (equation_if g x t)
equation_settled g x t i = either_equation g (is_solved_by g x t) (Some (record { variable = x; term = t })) None i tt

first_settled : (g : KoreSignature) (o q : Option Equation) → IsSettledEquation g o → IsSettledEquation g q → IsSettledEquation g (first_equation o q)
first_settled g (Some e) q i j = i
first_settled g None q i j = j

sides_settled : (g : KoreSignature) (t u : SymbolicTerm) → IsSettled g t → IsSettled g u → IsSettledEquation g (equation_of_sides g t u)
sides_settled g (unknown x) (unknown y) i j =
    either_equation g (sorts_equal x.sort y.sort && is_text_before y.name x.name) (equation_if g y (unknown x)) (first_equation (equation_if g x (unknown y)) (equation_if g y (unknown x)))
    (equation_settled g y (unknown x) i)
    (first_settled g (equation_if g x (unknown y)) (equation_if g y (unknown x)) (equation_settled g x (unknown y) j) (equation_settled g y (unknown x) i))
sides_settled g (unknown x) u i j = equation_settled g x u j
sides_settled g t (unknown y) i j = equation_settled g y t i
sides_settled g t u i j = tt

truth_settled : (g : KoreSignature) (b : Bool) (t : SymbolicTerm) → IsSettled g t → IsSettledEquation g (equation_of_truth g b t)
truth_settled g b (headed f (next_term t (next_term u no_terms))) i =
    either_equation g ((b && tells_equal (meaning_of g f)) || (not b && tells_different (meaning_of g f))) (equation_of_sides g t u) None (sides_settled g t u i.2.0 i.2.1.0) tt
truth_settled g b t i = tt

value_settled : (g : KoreSignature) (a b : Bool) (t : SymbolicTerm) (o : Option Equation) → IsSettled g t → IsSettledEquation g o → IsSettledEquation g (first_equation (equation_of_truth g (beq a b) t) (if b then o else None))
value_settled g a b t o i j = first_settled g (equation_of_truth g (beq a b) t) (if b then o else None) (truth_settled g (beq a b) t i) (either_equation g b o None j tt)

atom_equation : (g : KoreSignature) (b : Bool) (a : Atom) → IsSettledAtom g a → IsSettledEquation g (equation_of_atom g b a)
atom_equation g b (same s t (known (truth a))) h = value_settled g a b t (equation_of_sides g t (known (truth a))) h.0 (sides_settled g t (known (truth a)) h.0 h.1)
atom_equation g b (same s (known (truth a)) u) h = value_settled g a b u (equation_of_sides g (known (truth a)) u) h.1 (sides_settled g (known (truth a)) u h.0 h.1)
atom_equation g true (same s t u) h = sides_settled g t u h.0 h.1
atom_equation g b a h = tt

clause_equation : (g : KoreSignature) (c : List Literal) → AllByRecursion (IsSettledLiteral g) c → IsSettledEquation g (equation_of g c)
clause_equation g [] h = tt
clause_equation g (l ∷ []) h = atom_equation g l.holds l.atom h.0
clause_equation g (l ∷ m ∷ c) h = tt

-- ---- the equation that is solved

abbrev IsSettledSolvable : KoreSignature → Option Solvable → Type 0
IsSettledSolvable g (Some o) = IsSettled g o.equation.term
IsSettledSolvable g None = ⊤

either_solvable : (g : KoreSignature) (b : Bool) (o q : Option Solvable) → IsSettledSolvable g o → IsSettledSolvable g q → IsSettledSolvable g (if b then o else q)
either_solvable g true o q i j = i
either_solvable g false o q i j = j

solvable_settled : (g : KoreSignature) (s : SymbolicState) (others : List (List Literal)) (n : ℕ) (o : Option Equation) → IsSettledEquation g o → IsSettledSolvable g (solvable_if s others n o)
solvable_settled g s others n (Some e) i = either_solvable g (stands_elsewhere s others e) (Some (record { place = n; equation = e })) None i tt
solvable_settled g s others n None i = tt

of_two_settled : (g : KoreSignature) (o q : Option Solvable) → IsSettledSolvable g o → IsSettledSolvable g q → IsSettledSolvable g (first_of_two o q)
of_two_settled g (Some o) q i j = i
of_two_settled g None q i j = j

among_settled : (g : KoreSignature) (s : SymbolicState) (before cs : List (List Literal)) → AreSettledClauses g cs → IsSettledSolvable g (first_solvable_among g s before cs)
among_settled g s before [] h = tt
among_settled g s before (c ∷ cs) h = of_two_settled g (solvable_if s (before ++ cs) (length before) (equation_of g c)) (first_solvable_among g s (before ++ c ∷ []) cs)
    (solvable_settled g s (before ++ cs) (length before) (equation_of g c) (clause_equation g c h.0))
    (among_settled g s (before ++ c ∷ []) cs h.1)

found_settled : (g : KoreSignature) (s : SymbolicState) → AreSettledClauses g s.clauses → IsSettledSolvable g (first_solvable g s)
found_settled g s h = either_solvable g (nat_le (literals_in s.clauses) most_solved) (first_solvable_among g s [] s.clauses) None (among_settled g s [] s.clauses h) tt

-- ---- literals with the term in the variable's place

either_put : (g : KoreSignature) (b : Bool) (rs : List Replaced) → ArePutSettled g rs → ArePutSettled g (if b then rs else [])
either_put g true rs a = a
either_put g false rs a = tt

put_after : (g : KoreSignature) (e : Equation) (rs tail : List Replaced) → ArePutSettled g (replacement e) → ArePutSettled g rs → ArePutSettled g tail → ArePutSettled g (map (λ r. record { name = r.name; term = replaced g (replacement e) r.term }) rs ++ tail)
put_after g e [] tail i a b = b
put_after g e (r ∷ rs) tail i a b = (replaced_settled g (replacement e) r.term i a.0, put_after g e rs tail i a.1 b)

with_settled : (g : KoreSignature) (e : Equation) (alone b : Bool) (a : Atom) → ArePutSettled g (replacement e) → IsSettledAtom g a → IsSettledFormula g (opened_with g e alone b a)
with_settled g e alone b (same s t u) i h = opened_same_settled g alone b s (replaced g (replacement e) t) (replaced g (replacement e) u) (replaced_settled g (replacement e) t i h.0) (replaced_settled g (replacement e) u i h.1)
with_settled g e alone b (has_head x test) i h = opened_test_settled g b test (literal_fact b (has_head x test)) (replaced g (replacement e) (unknown x)) h h
with_settled g e alone b (quoted p rs) i h =
    let test = is_named e.variable.name (free_variables p) && not (is_some (replacement_for rs e.variable.name)) in
    (h.0, put_after g e rs (if test then replacement e else []) i h.1 (either_put g test (replacement e) i))

all_with_settled : (g : KoreSignature) (e : Equation) (alone : Bool) (c : List Literal) → ArePutSettled g (replacement e) → AllByRecursion (IsSettledLiteral g) c → AreSettledFormulas g (all_opened_with g e alone c)
all_with_settled g e alone [] i h = tt
all_with_settled g e alone (l ∷ c) i h = (with_settled g e alone l.holds l.atom i h.0, all_with_settled g e alone c i h.1)

-- ---- clauses

by_case : (g : KoreSignature) (b d : Bool) (cs ks ds : List (List Literal)) → AreSettledClauses g cs → AreSettledClauses g ks → AreSettledClauses g ds → AreSettledClauses g (if b then cs else if d then ks else ds)
by_case g true d cs ks ds i j k = i
by_case g false true cs ks ds i j k = j
by_case g false false cs ks ds i j k = k

solved_clause_settled : (g : KoreSignature) (sort : KoreSort) (e : Equation) (n : ℕ) (c : List Literal) → ArePutSettled g (replacement e) → AllByRecursion (IsSettledLiteral g) c → AreSettledClauses g (solved_clause g sort e n c)
solved_clause_settled g sort e n c i h =
    by_case g (not (is_named e.variable.name (clause_variables c))) (is_too_large n (opened_clause g e c)) (c ∷ []) ((record { holds = true; atom = quoted (written_clause g sort c) (replacement e) } ∷ []) ∷ []) (distributed (opened_clause g e c))
    (h, tt)
    (((fit_only g (IsRight g) (written_clause g sort c) (clause_fit g sort c h), i), tt), tt)
    (clauses_have (IsSettledLiteral g) (opened_clause g e c) (all_with_settled g e (is_single c) c i h))

solved_clauses_settled : (g : KoreSignature) (sort : KoreSort) (e : Equation) (n : ℕ) (o : Option ℕ) (cs : List (List Literal)) → ArePutSettled g (replacement e) → AreSettledClauses g cs → AreSettledClauses g (solved_clauses g sort e n o cs)
solved_clauses_settled g sort e n o [] i h = tt
solved_clauses_settled g sort e n (Some zero) (c ∷ cs) i h = (h.0, solved_clauses_settled g sort e (n + length c) None cs i h.1)
solved_clauses_settled g sort e n (Some (suc j)) (c ∷ cs) i h =
    let first = solved_clause g sort e n c in
    let m = n + literals_in first in
    all_both (AllByRecursion (IsSettledLiteral g)) first (solved_clauses g sort e m (Some j) cs) (solved_clause_settled g sort e n c i h.0) (solved_clauses_settled g sort e m (Some j) cs i h.1)
solved_clauses_settled g sort e n None (c ∷ cs) i h =
    let first = solved_clause g sort e n c in
    let m = n + literals_in first in
    all_both (AllByRecursion (IsSettledLiteral g)) first (solved_clauses g sort e m None cs) (solved_clause_settled g sort e n c i h.0) (solved_clauses_settled g sort e m None cs i h.1)

-- ---- states

pub record IsSettledState (g : KoreSignature) (s : SymbolicState) : Type 0 where
  pub term : IsSettled g s.term
  pub clauses : AreSettledClauses g s.clauses

pub step_settled : (g : KoreSignature) (s : SymbolicState) (o : Solvable) → IsSettledState g s → first_solvable g s ≡ Some o → IsSettledState g (solved_at g o s)
step_settled g s o h q =
    let i : ArePutSettled g (replacement o.equation) = (subst (IsSettledSolvable g) q (found_settled g s h.clauses), tt) in
    record {
      term = replaced_settled g (replacement o.equation) s.term i h.term;
      clauses = once_settled g (solved_clauses g s.sort o.equation 0 (Some o.place) s.clauses) (solved_clauses_settled g s.sort o.equation 0 (Some o.place) s.clauses i h.clauses);
    }

pub solving_settled : (g : KoreSignature) (s t : SymbolicState) → IsSettledState g s → Solving g s t → IsSettledState g t
solving_settled g s _ h (finished _ q) = h
solving_settled g s t h (goes_on _ _ o q r) = solving_settled g (solved_at g o s) t (step_settled g s o h q) r
