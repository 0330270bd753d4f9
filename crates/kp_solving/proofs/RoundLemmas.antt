-- The clauses of a state with an equation solved, one after another, where the literals before are counted up to a bound.
use Rattle.std.proofs.Common.{◌≡◌, refl, sym, ap, ap₂, ◌∙◌, arith, ℕ, zero, suc, ◌+◌, ◌-◌, ◌^◌, ◌<◌, ◌≤◌, min, Bool, true, false, not, List, [], ◌∷◌, ◌++◌, length, drop, get_or, Option, Some, None, nat_eq, subst}
use Rattle.std.proofs.lemmas.Bool.Decides.{nat_tests}
use Rattle.std.proofs.lemmas.List.{append_assoc, append-nil, map-append}
use Rattle.std.specs.Prelude.{if◌then◌else◌}
use Rattle.kp_kore.specs.Syntax.{KoreSort}
use Rattle.kp_kore.specs.Signature.{KoreSignature}
use Rattle.kp_kore.specs.Instance.{is_named}
use Rattle.kp_kore.proofs.ListLemmas.{one_left, none_left}
use Rattle.kp_symbolic.specs.Formulas.{size_of}
use Rattle.kp_symbolic.specs.States.{Literal, clause_variables}
use Rattle.kp_symbolic.specs.Writing.{written_clause}
use Rattle.kp_symbolic.specs.Clauses.{distributed}
use Rattle.kp_symbolic.specs.Solving.{Equation, replacement, opened_clause, solved_clause, literals_in, solved_clauses}
use Rattle.kp_symbolic.specs.View.{clause_view, clauses_view}
use Rattle.kp_symbolic.specs.declared.clause.Clause.{Clause}
use Rattle.kp_clauses.proofs.ConjunctLemmas.{same_test, still_same}
use Rattle.kp_solving.specs.Solvables.{quoted_clause, solved_or_kept}

-- ---- literals before, as they are counted

pub clause_alike : (g : KoreSignature) (sort : KoreSort) (e : Equation) (m n : ℕ) (c : List Literal) → min m 16385 ≡ min n 16385 → solved_clause g sort e m c ≡ solved_clause g sort e n c
clause_alike g sort e m n c same =
    ap (λ b. if not (is_named e.variable.name (clause_variables c)) then c ∷ [] else if b then quoted_clause (written_clause g sort c) (replacement e) ∷ [] else distributed (opened_clause g e c))
    (same_test m n (size_of (opened_clause g e c)).literals same)

pub clauses_alike : (g : KoreSignature) (sort : KoreSort) (e : Equation) (m n : ℕ) (o : Option ℕ) (cs : List (List Literal)) → min m 16385 ≡ min n 16385 → solved_clauses g sort e m o cs ≡ solved_clauses g sort e n o cs
clauses_alike g sort e m n o [] same = refl
clauses_alike g sort e m n (Some zero) (c ∷ cs) same = ap (λ ds. c ∷ ds) (clauses_alike g sort e (m + length c) (n + length c) None cs (still_same m n (length c) (length c) same refl))
clauses_alike g sort e m n (Some (suc i)) (c ∷ cs) same =
    let is = clause_alike g sort e m n c same in
    ap₂ (λ bs ds. bs ++ ds) is (clauses_alike g sort e (m + literals_in (solved_clause g sort e m c)) (n + literals_in (solved_clause g sort e n c)) (Some i) cs (still_same m n (literals_in (solved_clause g sort e m c)) (literals_in (solved_clause g sort e n c)) same (ap literals_in is)))
clauses_alike g sort e m n None (c ∷ cs) same =
    let is = clause_alike g sort e m n c same in
    ap₂ (λ bs ds. bs ++ ds) is (clauses_alike g sort e (m + literals_in (solved_clause g sort e m c)) (n + literals_in (solved_clause g sort e n c)) None cs (still_same m n (literals_in (solved_clause g sort e m c)) (literals_in (solved_clause g sort e n c)) same (ap literals_in is)))

-- ---- the equation's own place, from a place on

abbrev pub ahead : ℕ → ℕ → Option ℕ
ahead zero p = Some p
ahead (suc i) zero = None
ahead (suc i) (suc p) = ahead i p

one_behind : (n k : ℕ) (g : KoreSignature) (sort : KoreSort) (e : Equation) (cs : List (List Literal)) → solved_clauses g sort e (n + k) None cs ≡ solved_clauses g sort e (n + (k + 0)) None cs
one_behind n k g sort e cs = ap (λ m. solved_clauses g sort e m None cs) (omega arith)

-- what a clause becomes, and those behind it
abbrev with_rest : KoreSignature → KoreSort → Equation → ℕ → Bool → Option ℕ → List Literal → List (List Literal) → List (List Literal)
with_rest g sort e n own o c cs = solved_or_kept g sort e n own c ++ solved_clauses g sort e (n + literals_in (solved_or_kept g sort e n own c)) o cs

pub equal_so : (i p : ℕ) → nat_eq i p ≡ true → i ≡ p
equal_so i p h = grind (arith, nat_tests)

pub other_so : (i p : ℕ) → nat_eq i p ≡ false → i ≡ p → ⊥
other_so i p h e = absurd (grind (arith, nat_tests))

own_step : (g : KoreSignature) (sort : KoreSort) (e : Equation) (n i : ℕ) (c : List Literal) (cs : List (List Literal)) → solved_clauses g sort e n (ahead i i) (c ∷ cs) ≡ with_rest g sort e n true (ahead (suc i) i) c cs
own_step g sort e n zero c cs = ap (λ ds. c ∷ ds) (one_behind n (length c) g sort e cs)
own_step g sort e n (suc i) c cs = own_step g sort e n i c cs

other_step : (g : KoreSignature) (sort : KoreSort) (e : Equation) (n i p : ℕ) (c : List Literal) (cs : List (List Literal)) → (i ≡ p → ⊥) → solved_clauses g sort e n (ahead i p) (c ∷ cs) ≡ with_rest g sort e n false (ahead (suc i) p) c cs
other_step g sort e n zero zero c cs h = absurd (h refl)
other_step g sort e n zero (suc p) c cs h = refl
other_step g sort e n (suc i) zero c cs h = refl
other_step g sort e n (suc i) (suc p) c cs h = other_step g sort e n i p c cs (λ d. h (ap suc d))

step : (g : KoreSignature) (sort : KoreSort) (e : Equation) (n i p : ℕ) (own : Bool) (c : List Literal) (cs : List (List Literal)) → own ≡ nat_eq i p → solved_clauses g sort e n (ahead i p) (c ∷ cs) ≡ with_rest g sort e n own (ahead (suc i) p) c cs
step g sort e n i p true c cs is = subst (λ k. solved_clauses g sort e n (ahead i k) (c ∷ cs) ≡ with_rest g sort e n true (ahead (suc i) k) c cs) (equal_so i p (sym is)) (own_step g sort e n i c cs)
step g sort e n i p false c cs is = other_step g sort e n i p c cs (other_so i p (sym is))

pub after : (i : ℕ) → suc i ≡ i + 1
after i = omega arith

pub capped : (n new : ℕ) → new ≡ min n 16385 → min n 16385 ≡ min new 16385
capped n new e = omega (arith, e)

-- the clauses from a place on
abbrev pub solved_from : KoreSignature → KoreSort → Equation → ℕ → ℕ → ℕ → List Clause → List (List Literal)
solved_from g sort e n p i cs = solved_clauses g sort e n (ahead i p) (clauses_view (drop i cs))

pub clauses_solved_on : (g : KoreSignature) (sort : KoreSort) (e : Equation) (cs : List Clause) (p i n new : ℕ) (own : Bool) (c : Clause) (found solved more : List Clause) (all : List (List Literal)) → i < length cs → c ≡ get_or cs i c → own ≡ nat_eq i p →
    clauses_view solved ≡ solved_or_kept g sort e n own (clause_view c) → new ≡ min (n + literals_in (clauses_view solved)) 16385 → more ≡ found ++ solved → clauses_view found ++ solved_from g sort e n p i cs ≡ all →
    clauses_view more ++ solved_from g sort e new p (i + 1) cs ≡ all
clauses_solved_on g sort e cs p i n new own c found solved more all h there here is counted both left =
    let rest = clauses_view (drop (i + 1) cs) in
    let before = clauses_view found in
    let k = n + literals_in (clauses_view solved) in
    ap (λ ds. ds ++ solved_from g sort e new p (i + 1) cs) (ap clauses_view both ∙ map-append clause_view found solved)
    ∙ append_assoc before (clauses_view solved) (solved_from g sort e new p (i + 1) cs)
    ∙ ap (λ ds. before ++ (clauses_view solved ++ ds)) (sym (clauses_alike g sort e k new (ahead (i + 1) p) rest (capped k new counted)))
    ∙ ap (λ bs. before ++ (bs ++ solved_clauses g sort e (n + literals_in bs) (ahead (i + 1) p) rest)) is
    ∙ ap (λ j. before ++ with_rest g sort e n own (ahead j p) (clause_view c) rest) (sym (after i))
    ∙ sym (ap (λ ds. before ++ ds) (ap (λ ds. solved_clauses g sort e n (ahead i p) (clauses_view ds)) (one_left cs i c h there) ∙ step g sort e n i p own (clause_view c) rest here))
    ∙ left

pub clauses_solved_all : (g : KoreSignature) (sort : KoreSort) (e : Equation) (cs : List Clause) (p i n : ℕ) (found all : List (List Literal)) → length cs ≤ i → found ++ solved_from g sort e n p i cs ≡ all → found ≡ all
clauses_solved_all g sort e cs p i n found all h left = sym (append-nil found) ∙ sym (ap (λ ds. found ++ solved_clauses g sort e n (ahead i p) (clauses_view ds)) (none_left cs i h)) ∙ left

-- ---- literals behind others, as they are counted

wide : 16384 < 2 ^ 64 - 1
wide = omega arith

counted_once : (most n l k : ℕ) → 16384 < most → k ≡ min l most → min (min (n + k) most) 16385 ≡ min (n + l) 16385
counted_once most n l k w e = omega (arith, w, e)

pub counted_up : (n l k : ℕ) → k ≡ min l (2 ^ 64 - 1) → min (min (n + k) (2 ^ 64 - 1)) 16385 ≡ min (n + l) 16385
counted_up n l k e = counted_once (2 ^ 64 - 1) n l k wide e
