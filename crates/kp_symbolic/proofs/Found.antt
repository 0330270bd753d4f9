-- The clause that an equation to be solved comes from, and where it stands.
use Rattle.std.proofs.Common.{◌≡◌, refl, subst, ℕ, zero, suc, ◌+◌, Bool, true, false, List, [], ◌∷◌, ◌++◌, length, Option, Some, None}
use Rattle.std.specs.Prelude.{if◌then◌else◌, nat_le}
use Rattle.std.specs.List.{AllByRecursion}
use Rattle.std.proofs.lemmas.List.{append_assoc}
use Rattle.kp_kore.specs.Syntax.{KoreSort}
use Rattle.kp_kore.specs.Signature.{KoreSignature}
use Rattle.kp_symbolic.specs.States.{Literal, SymbolicState}
use Rattle.kp_symbolic.specs.Solving.{Equation, equation_of, solved_clause, literals_in, solved_clauses, Solvable, solvable_if, first_of_two, first_solvable_among, first_solvable, stands_elsewhere, most_solved}
use Rattle.kp_symbolic.proofs.Distribution.{all_second}

abbrev pub IsAt : ℕ → List (List Literal) → List Literal → Type 0
IsAt i [] d = ⊥
IsAt zero (c ∷ cs) d = c ≡ d
IsAt (suc i) (c ∷ cs) d = IsAt i cs d

-- what holds of each clause holds of the one at a place, also behind the equation's solving, which leaves it
pub at_place : (P : List Literal → Type 0) (i : ℕ) (cs : List (List Literal)) (d : List Literal) → AllByRecursion P cs → IsAt i cs d → P d
at_place P i [] d a k = absurd k
at_place P zero (c ∷ cs) d a k = subst P k a.0
at_place P (suc i) (c ∷ cs) d a k = at_place P i cs d a.1 k

pub at_place_still : (g : KoreSignature) (P : List Literal → Type 0) (sort : KoreSort) (e : Equation) (n i : ℕ) (cs : List (List Literal)) (d : List Literal) → AllByRecursion P (solved_clauses g sort e n (Some i) cs) → IsAt i cs d → P d
at_place_still g P sort e n i [] d a k = absurd k
at_place_still g P sort e n zero (c ∷ cs) d a k = subst P k a.0
at_place_still g P sort e n (suc i) (c ∷ cs) d a k =
    let m = n + literals_in (solved_clause g sort e n c) in
    at_place_still g P sort e m i cs d (all_second P (solved_clause g sort e n c) (solved_clauses g sort e m (Some i) cs) a) k

at_length : (before cs : List (List Literal)) (c : List Literal) → IsAt (length before) (before ++ c ∷ cs) c
at_length [] cs c = refl
at_length (b ∷ before) cs c = at_length before cs c

pub record IsFound (g : KoreSignature) (cs : List (List Literal)) (o : Solvable) : Type 0 where
  pub clause : List Literal
  pub stands : IsAt o.place cs clause
  pub gives : equation_of g clause ≡ Some o.equation

found_if : (g : KoreSignature) (s : SymbolicState) (others before cs : List (List Literal)) (c : List Literal) (d : Option Equation) (o : Solvable) → equation_of g c ≡ d → solvable_if s others (length before) d ≡ Some o → IsFound g (before ++ c ∷ cs) o
found_if g s others before cs c None o i q = absurd (cc)
found_if g s others before cs c (Some e) o i q = by (stands_elsewhere s others e) q
  where
    by : (b : Bool) → (if b then Some (record { place = length before; equation = e }) else None) ≡ Some o → IsFound g (before ++ c ∷ cs) o
    by true k = let same : record { place = length before; equation = e } ≡ o = cc in subst (IsFound g (before ++ c ∷ cs)) same (record { clause = c; stands = at_length before cs c; gives = i })
    by false k = absurd (cc)

found_first : (g : KoreSignature) (cs : List (List Literal)) (p q : Option Solvable) (o : Solvable) → ((d : Solvable) → p ≡ Some d → IsFound g cs d) → ((d : Solvable) → q ≡ Some d → IsFound g cs d) → first_of_two p q ≡ Some o → IsFound g cs o
found_first g cs (Some d) q o i j e = i o e
found_first g cs None q o i j e = j o e

found_among : (g : KoreSignature) (s : SymbolicState) (before cs : List (List Literal)) (o : Solvable) → first_solvable_among g s before cs ≡ Some o → IsFound g (before ++ cs) o
found_among g s before [] o e = absurd (cc)
found_among g s before (c ∷ cs) o e = found_first g (before ++ c ∷ cs) (solvable_if s (before ++ cs) (length before) (equation_of g c)) (first_solvable_among g s (before ++ c ∷ []) cs) o
    (λ d q. found_if g s (before ++ cs) before cs c (equation_of g c) d refl q)
    (λ d q. subst (λ zs. IsFound g zs d) (append_assoc before (c ∷ []) cs) (found_among g s (before ++ c ∷ []) cs d q)) e

pub found_in : (g : KoreSignature) (s : SymbolicState) (o : Solvable) → first_solvable g s ≡ Some o → IsFound g s.clauses o
found_in g s o e = by (nat_le (literals_in s.clauses) most_solved) e
  where
    by : (b : Bool) → (if b then first_solvable_among g s [] s.clauses else None) ≡ Some o → IsFound g s.clauses o
    by true q = found_among g s [] s.clauses o q
    by false q = absurd (cc)
