-- Room for new names at each clause that stays one literal: what is written in code had it.
use Rattle.std.proofs.Common.{◌≡◌, refl, sym, ap, ◌∙◌, subst, arith, ℕ, zero, suc, ◌+◌, ◌<◌, ◌≤◌, min, Bool, true, false, List, [], ◌∷◌, length, drop, get_or, Option, Some, None, nat_eq}
use Rattle.std.specs.Option.{option_map}
use Rattle.kp_kore.specs.Syntax.{KoreSort}
use Rattle.kp_kore.specs.Signature.{KoreSignature}
use Rattle.kp_kore.proofs.ListLemmas.{one_left, none_left}
use Rattle.kp_symbolic.specs.Formulas.{size_of}
use Rattle.kp_symbolic.specs.States.{Literal, SymbolicState}
use Rattle.kp_symbolic.specs.Solving.{Equation, Solvable, opened_clause, solved_clause, literals_in, first_solvable, solved_at}
use Rattle.kp_symbolic_laws.specs.Runs.{ComesBy, begins, goes_by, IfKeptWhole, OfKeptWhole, OfKeptAt, OfEachKept}
use Rattle.kp_symbolic.specs.View.{clause_view, clauses_view}
use Rattle.kp_symbolic.specs.declared.clause.Clause.{Clause}
use Rattle.kp_clauses.proofs.ConjunctLemmas.{same_test, still_same}
use Rattle.kp_solving.specs.Solvables.{solved_or_kept}
use Rattle.kp_solving.proofs.RoundLemmas.{ahead, clause_alike, equal_so, other_so, after, capped}
use Rattle.kp_solving.proofs.SettleLemmas.{first_solved}

-- ---- literals before, as they are counted

if_alike : (g : KoreSignature) (e : Equation) (P : List Literal → Type 0) (m n : ℕ) (c : List Literal) → min m 16385 ≡ min n 16385 → IfKeptWhole g e P m c → IfKeptWhole g e P n c
if_alike g e P m n c same h = λ named full. h named (same_test m n (size_of (opened_clause g e c)).literals same ∙ full)

kept_alike : (g : KoreSignature) (sort : KoreSort) (e : Equation) (P : List Literal → Type 0) (m n : ℕ) (o : Option ℕ) (cs : List (List Literal)) → min m 16385 ≡ min n 16385 → OfKeptWhole g sort e P m o cs → OfKeptWhole g sort e P n o cs
kept_alike g sort e P m n o [] same h = tt
kept_alike g sort e P m n (Some zero) (c ∷ cs) same h = kept_alike g sort e P (m + length c) (n + length c) None cs (still_same m n (length c) (length c) same refl) h
kept_alike g sort e P m n (Some (suc i)) (c ∷ cs) same h =
    let j = literals_in (solved_clause g sort e m c) in
    let k = literals_in (solved_clause g sort e n c) in
    (if_alike g e P m n c same h.0, kept_alike g sort e P (m + j) (n + k) (Some i) cs (still_same m n j k same (ap literals_in (clause_alike g sort e m n c same))) h.1)
kept_alike g sort e P m n None (c ∷ cs) same h =
    let j = literals_in (solved_clause g sort e m c) in
    let k = literals_in (solved_clause g sort e n c) in
    (if_alike g e P m n c same h.0, kept_alike g sort e P (m + j) (n + k) None cs (still_same m n j k same (ap literals_in (clause_alike g sort e m n c same))) h.1)

-- ---- the clauses from a place on

-- P of the first clause, if it isn't the equation's own, and of those behind it
abbrev KeptWithRest : KoreSignature → KoreSort → Equation → (List Literal → Type 0) → ℕ → Bool → Option ℕ → List Literal → List (List Literal) → Type 0
KeptWithRest g sort e P n own o c cs = (own ≡ false → IfKeptWhole g e P n c) × OfKeptWhole g sort e P (n + literals_in (solved_or_kept g sort e n own c)) o cs

alone_counts : (n k : ℕ) → n + (k + 0) ≡ n + k
alone_counts n k = omega arith

own_kept : (g : KoreSignature) (sort : KoreSort) (e : Equation) (P : List Literal → Type 0) (n i : ℕ) (c : List Literal) (cs : List (List Literal)) → KeptWithRest g sort e P n true (ahead (suc i) i) c cs → OfKeptWhole g sort e P n (ahead i i) (c ∷ cs)
own_kept g sort e P n zero c cs h = subst (λ m. OfKeptWhole g sort e P m None cs) (alone_counts n (length c)) h.1
own_kept g sort e P n (suc i) c cs h = own_kept g sort e P n i c cs h

other_kept : (g : KoreSignature) (sort : KoreSort) (e : Equation) (P : List Literal → Type 0) (n i p : ℕ) (c : List Literal) (cs : List (List Literal)) → (i ≡ p → ⊥) → KeptWithRest g sort e P n false (ahead (suc i) p) c cs → OfKeptWhole g sort e P n (ahead i p) (c ∷ cs)
other_kept g sort e P n zero zero c cs d h = absurd (d refl)
other_kept g sort e P n zero (suc p) c cs d h = (h.0 refl, h.1)
other_kept g sort e P n (suc i) zero c cs d h = (h.0 refl, h.1)
other_kept g sort e P n (suc i) (suc p) c cs d h = other_kept g sort e P n i p c cs (λ q. d (ap suc q)) h

kept_step : (g : KoreSignature) (sort : KoreSort) (e : Equation) (P : List Literal → Type 0) (n i p : ℕ) (own : Bool) (c : List Literal) (cs : List (List Literal)) → own ≡ nat_eq i p → KeptWithRest g sort e P n own (ahead (suc i) p) c cs → OfKeptWhole g sort e P n (ahead i p) (c ∷ cs)
kept_step g sort e P n i p true c cs is = subst (λ k. KeptWithRest g sort e P n true (ahead (suc i) k) c cs → OfKeptWhole g sort e P n (ahead i k) (c ∷ cs)) (equal_so i p (sym is)) (own_kept g sort e P n i c cs)
kept_step g sort e P n i p false c cs is = other_kept g sort e P n i p c cs (other_so i p (sym is))

-- P of each clause from a place on that stays one literal
abbrev pub OfKeptFrom : KoreSignature → KoreSort → Equation → (List Literal → Type 0) → ℕ → ℕ → ℕ → List Clause → Type 0
OfKeptFrom g sort e P n p i cs = OfKeptWhole g sort e P n (ahead i p) (clauses_view (drop i cs))

pub kept_on : (g : KoreSignature) (sort : KoreSort) (e : Equation) (P : List Literal → Type 0) (All : Type 0) (cs : List Clause) (p i n new : ℕ) (own : Bool) (c : Clause) (solved : List Clause) → i < length cs → c ≡ get_or cs i c → own ≡ nat_eq i p →
    clauses_view solved ≡ solved_or_kept g sort e n own (clause_view c) → new ≡ min (n + literals_in (clauses_view solved)) 16385 → (own ≡ false → IfKeptWhole g e P n (clause_view c)) →
    (OfKeptFrom g sort e P n p i cs → All) → OfKeptFrom g sort e P new p (i + 1) cs → All
kept_on g sort e P All cs p i n new own c solved h there here is counted told left rest =
    let behind = clauses_view (drop (i + 1) cs) in
    let k = n + literals_in (clauses_view solved) in
    let next = subst (λ j. OfKeptWhole g sort e P new (ahead j p) behind) (sym (after i)) rest in
    let same = kept_alike g sort e P new k (ahead (suc i) p) behind (sym (capped k new counted)) next in
    let counts = subst (λ bs. OfKeptWhole g sort e P (n + literals_in bs) (ahead (suc i) p) behind) is same in
    left (subst (λ ds. OfKeptWhole g sort e P n (ahead i p) (clauses_view ds)) (sym (one_left cs i c h there)) (kept_step g sort e P n i p own (clause_view c) behind here (told, counts)))

none_kept : (g : KoreSignature) (sort : KoreSort) (e : Equation) (P : List Literal → Type 0) (n : ℕ) (o : Option ℕ) → OfKeptWhole g sort e P n o []
none_kept g sort e P n (Some zero) = tt
none_kept g sort e P n (Some (suc i)) = tt
none_kept g sort e P n None = tt

pub kept_all : (g : KoreSignature) (sort : KoreSort) (e : Equation) (P : List Literal → Type 0) (All : Type 0) (cs : List Clause) (p i n : ℕ) → length cs ≤ i → (OfKeptFrom g sort e P n p i cs → All) → All
kept_all g sort e P All cs p i n h left = left (subst (λ ds. OfKeptWhole g sort e P n (ahead i p) (clauses_view ds)) (sym (none_left cs i h)) (none_kept g sort e P n (ahead i p)))

-- ---- states

one_of_them : (o p : Solvable) → Some o ≡ Some p → o ≡ p
one_of_them o p e = cc

-- of the first equation alone
pub kept_at_first : (g : KoreSignature) (P : SymbolicState → List Literal → Type 0) (s : SymbolicState) (o : Solvable) → Some o ≡ first_solvable g s → OfKeptAt g P s o → (p : Solvable) → first_solvable g s ≡ Some p → OfKeptAt g P s p
kept_at_first g P s o is h p e = subst (OfKeptAt g P s) (one_of_them o p (is ∙ e)) h

pub none_at_first : (g : KoreSignature) (P : SymbolicState → List Literal → Type 0) (s : SymbolicState) → None ≡ first_solvable g s → (p : Solvable) → first_solvable g s ≡ Some p → OfKeptAt g P s p
none_at_first g P s is p e = absurd (none_some p (is ∙ e))
  where
    none_some : (p : Solvable) → None ≡ Some p → ⊥
    none_some p e = cc

next_is : (g : KoreSignature) (s next : SymbolicState) (p : Solvable) (o : Option Solvable) → o ≡ Some p → Some next ≡ option_map (λ q. solved_at g q s) o → next ≡ solved_at g p s
next_is g s next p (Some q) e d = let is : next ≡ solved_at g q s = cc in is ∙ ap (λ r. solved_at g r s) (one_of_them q p e)
next_is g s next p None e d = absurd (cc)

from_here : (g : KoreSignature) (P : SymbolicState → List Literal → Type 0) (s next x : SymbolicState) (o : Solvable) → Some next ≡ first_solved g s → ((q : Solvable) → first_solvable g s ≡ Some q → OfKeptAt g P s q) → OfEachKept g P next → ComesBy g s x → first_solvable g x ≡ Some o → OfKeptAt g P x o
from_here g P s next _ o is here each (begins _) e = here o e
from_here g P s next x o is here each (goes_by _ _ p q d) e = each x o (subst (λ t. ComesBy g t x) (sym (next_is g s next p (first_solvable g s) q is)) d) e

-- one state back
pub kept_back : (g : KoreSignature) (P : SymbolicState → List Literal → Type 0) (s next : SymbolicState) → Some next ≡ first_solved g s → ((q : Solvable) → first_solvable g s ≡ Some q → OfKeptAt g P s q) → OfEachKept g P next → OfEachKept g P s
kept_back g P s next is here each = λ x o comes e. from_here g P s next x o is here each comes e

no_next : (g : KoreSignature) (s : SymbolicState) (p : Solvable) (o : Option Solvable) → o ≡ Some p → None ≡ option_map (λ q. solved_at g q s) o → ⊥
no_next g s p (Some q) e d = cc
no_next g s p None e d = cc

from_the_last : (g : KoreSignature) (P : SymbolicState → List Literal → Type 0) (s x : SymbolicState) (o : Solvable) → None ≡ first_solved g s → ComesBy g s x → first_solvable g x ≡ Some o → OfKeptAt g P x o
from_the_last g P s _ o is (begins _) e = absurd (no_next g s o (first_solvable g s) e is)
from_the_last g P s x o is (goes_by _ _ p q d) e = absurd (no_next g s p (first_solvable g s) q is)

-- nothing is solved in the last state
pub kept_at_last : (g : KoreSignature) (P : SymbolicState → List Literal → Type 0) (s : SymbolicState) → None ≡ first_solved g s → OfEachKept g P s
kept_at_last g P s is = λ x o comes e. from_the_last g P s x o is comes e
