-- The states that solving comes by, and what is told of the clauses of each in code.
use Rattle.std.proofs.Common.{◌≡◌, refl, sym, subst, arith, ℕ, zero, suc, ◌<◌, List, [], ◌∷◌, length, get_or, map, Option, Some, None}
use Rattle.std.specs.List.{AllByRecursion}
use Rattle.std.specs.Option.{option_map}
use Rattle.kp_kore.specs.Signature.{KoreSignature}
use Rattle.kp_symbolic.specs.States as states
use Rattle.kp_symbolic.specs.States.{SymbolicState}
use Rattle.kp_symbolic.specs.Solving.{Solvable, first_solvable, solved_at}
use Rattle.kp_symbolic_laws.specs.Runs.{ComesBy, begins, goes_by}
use Rattle.kp_symbolic.specs.View.{literal_view, clauses_view}
use Rattle.kp_symbolic.specs.declared.clause.Clause.{Clause}
use Rattle.kp_symbolic.specs.declared.clause.Literal.{Literal}
use Rattle.kp_solving.proofs.SettleLemmas.{first_solved}

-- one state further
comes_on : (g : KoreSignature) (s x : SymbolicState) (o : Solvable) → first_solvable g x ≡ Some o → ComesBy g s x → ComesBy g s (solved_at g o x)
comes_on g s _ o f (begins _) = goes_by s (solved_at g o s) o f (begins (solved_at g o s))
comes_on g s x o f (goes_by _ _ p q h) = goes_by s (solved_at g o x) p q (comes_on g (solved_at g p s) x o f h)

pub comes_further : (g : KoreSignature) (start s next : SymbolicState) → Some next ≡ first_solved g s → ComesBy g start s → ComesBy g start next
comes_further g start s next e h = by (first_solvable g s) refl e
  where
    by : (o : Option Solvable) → first_solvable g s ≡ o → Some next ≡ option_map (λ p. solved_at g p s) o → ComesBy g start next
    by (Some o) f q = let is : next ≡ solved_at g o s = cc in subst (ComesBy g start) (sym is) (comes_on g start s o f h)
    by None f q = absurd (cc)

literals_have : (P : states.Literal → Type 0) (ls : List Literal) → AllByRecursion P (map literal_view ls) → AllByRecursion (λ l. P (literal_view l)) ls
literals_have P [] all = tt
literals_have P (l ∷ ls) all = (all.0, literals_have P ls all.1)

pub clauses_have : (P : states.Literal → Type 0) (cs : List Clause) → AllByRecursion (AllByRecursion P) (clauses_view cs) → AllByRecursion (λ c. AllByRecursion (λ l. P (literal_view l)) c.literals.value.items) cs
clauses_have P [] all = tt
clauses_have P (c ∷ cs) all = (literals_have P c.literals.value.items all.0, clauses_have P cs all.1)

-- one of a list
pub has_at : {A : Type 0} (P : A → Type 0) (xs : List A) (i : ℕ) (x : A) → i < length xs → x ≡ get_or xs i x → AllByRecursion P xs → P x
has_at P [] i x lt is all = absurd (omega (arith, lt))
has_at P (y ∷ ys) zero x lt is all = subst P (sym is) all.0
has_at P (y ∷ ys) (suc i) x lt is all = has_at P ys i x (omega (arith, lt)) is all.1
