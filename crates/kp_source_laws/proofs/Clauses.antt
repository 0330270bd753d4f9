-- Each atom that clauses of sourced atoms become is sourced: where they are opened again, solved, negated or written.
use Rattle.std.proofs.Common.{◌≡◌, refl, subst, inl, inr, ℕ, zero, suc, ◌+◌, ◌*◌, Bool, true, false, List, [], ◌∷◌, length, Option, Some, None, arith}
use Rattle.std.specs.Prelude.{if◌then◌else◌, nat_lt, ◌⊎◌}
use Rattle.std.specs.Bool.{beq}
use Rattle.std.specs.List.{AllByRecursion}
use Rattle.kp_kore.specs.Syntax.{KoreSort, conjunction}
use Rattle.kp_kore.specs.Parts.{SortedName}
use Rattle.kp_kore.specs.Signature.{KoreSignature}
use Rattle.kp_kore.specs.Instance.{is_named}
use Rattle.kp_kore.specs.Rules.{RuleBody}
use Rattle.kp_symbolic.specs.Formulas.{size_of_one}
use Rattle.kp_symbolic.specs.States.{Atom, same, quoted, Literal, clause_variables, SymbolicState}
use Rattle.kp_symbolic.specs.Alike.{literals_same}
use Rattle.kp_symbolic.specs.Opening.{opened_same}
use Rattle.kp_symbolic.specs.Clauses.{distributed, without_repeats, most_opened, is_too_large, opened_atom, opened_literals, denied_clauses, denied}
use Rattle.kp_symbolic.specs.Writing.{written_clauses}
use Rattle.kp_symbolic.specs.Solving.{Equation, equation_of, opened_with, all_opened_with, is_single, opened_clause, solved_clause, literals_in, solved_clauses, negated}
use Rattle.kp_symbolic.specs.Sources.{StandsIn}
use Rattle.kp_symbolic.proofs.Distribution.{all_both, kept_are}
use Rattle.kp_symbolic.proofs.Facts.{AllIn, clauses_have}
use Rattle.kp_symbolic_laws.specs.Runs.{kept_whole}
use Rattle.kp_symbolic_laws.proofs.Keeping.{by_case}
use Rattle.kp_symbolic_laws.proofs.OpenedGood.{by_size}
use Rattle.kp_case_laws.specs.Narrowings.{put_clause}
use Rattle.kp_case_laws.specs.Courses.{Equality, equality_clauses}
use Rattle.kp_source_laws.specs.Sourced.{TellsEquation, by_form, IsSourcedAtom, opened_from, opened_by, written_for, written_for_all, AreSourcedClauses}
use Rattle.kp_source_laws.proofs.Facts.{facts_have, in_clauses}

-- a sourced atom tells the equation
pub record IsToldBy (g : KoreSignature) (R : RuleBody → Type 0) (new : List SortedName) (s : SymbolicState) (e : Equation) : Type 0 where
  pub by : Atom
  pub sourced : IsSourcedAtom g R new s by
  pub tells : TellsEquation g by e

abbrev pub Of : KoreSignature → (RuleBody → Type 0) → List SortedName → SymbolicState → Literal → Type 0
Of g R new s l = IsSourcedAtom g R new s l.atom

none_is_some : {A : Type 0} {a : A} → None ≡ Some a → ⊥
none_is_some e = cc

pub told_by : (g : KoreSignature) (R : RuleBody → Type 0) (new : List SortedName) (s : SymbolicState) (c : List Literal) (e : Equation) → AllByRecursion (Of g R new s) c → equation_of g c ≡ Some e → IsToldBy g R new s e
told_by g R new s (l ∷ []) e h q = record { by = l.atom; sourced = h.0; tells = by_form l.holds l.atom e q }
told_by g R new s [] e h q = absurd (none_is_some q)
told_by g R new s (l ∷ m ∷ c) e h q = absurd (none_is_some q)

-- ---- a term in a variable's place

literals_put : (g : KoreSignature) (R : RuleBody → Type 0) (new : List SortedName) (s : SymbolicState) (e : Equation) (alone : Bool) (c : List Literal) → IsToldBy g R new s e → AllByRecursion (Of g R new s) c → AllIn (Of g R new s) (all_opened_with g e alone c)
literals_put g R new s e alone [] k h = tt
literals_put g R new s e alone (l ∷ c) k h = (
  facts_have (IsSourcedAtom g R new s) (opened_with g e alone l.holds l.atom) (λ a f. opened_by l.atom k.by a e alone l.holds h.0 k.sourced k.tells f),
  literals_put g R new s e alone c k h.1,
)

clause_opened : (g : KoreSignature) (R : RuleBody → Type 0) (new : List SortedName) (s : SymbolicState) (e : Equation) (c : List Literal) → IsToldBy g R new s e → AllByRecursion (Of g R new s) c → AreSourcedClauses g R new s (distributed (opened_clause g e c))
clause_opened g R new s e c k h = clauses_have (Of g R new s) (opened_clause g e c) (literals_put g R new s e (is_single c) c k h)

pub clause_put : (g : KoreSignature) (R : RuleBody → Type 0) (new : List SortedName) (s : SymbolicState) (e : Equation) (c : List Literal) → IsToldBy g R new s e → AllByRecursion (Of g R new s) c → AreSourcedClauses g R new s (put_clause g e c)
clause_put g R new s e c k h = by (is_named e.variable.name (clause_variables c)) (is_too_large 0 (opened_clause g e c))
  where
    by : (b d : Bool) → AreSourcedClauses g R new s (if b then (if d then c ∷ [] else distributed (opened_clause g e c)) else c ∷ [])
    by true true = (h, tt)
    by true false = clause_opened g R new s e c k h
    by false d = (h, tt)

clause_solved : (g : KoreSignature) (R : RuleBody → Type 0) (new : List SortedName) (s : SymbolicState) (sort : KoreSort) (e : Equation) (n : ℕ) (c : List Literal) → IsToldBy g R new s e → AllByRecursion (Of g R new s) c → AreSourcedClauses g R new s (solved_clause g sort e n c)
clause_solved g R new s sort e n c k h =
    let named = is_named e.variable.name (clause_variables c) in
    let large = is_too_large n (opened_clause g e c) in
    by_case (AreSourcedClauses g R new s) ((named ≡ true) × (large ≡ true)) named large c (kept_whole g sort e c) (distributed (opened_clause g e c))
    (λ i j. (i, j))
    (h, tt)
    (λ w. ((written_for sort c k.by e n w.0 w.1 (λ a f. in_clauses (IsSourcedAtom g R new s) (c ∷ []) a (h, tt) f) k.sourced k.tells, tt), tt))
    (clause_opened g R new s e c k h)

pub clauses_solved : (g : KoreSignature) (R : RuleBody → Type 0) (new : List SortedName) (s : SymbolicState) (sort : KoreSort) (e : Equation) (n : ℕ) (o : Option ℕ) (cs : List (List Literal)) → IsToldBy g R new s e → AreSourcedClauses g R new s cs → AreSourcedClauses g R new s (solved_clauses g sort e n o cs)
clauses_solved g R new s sort e n o [] k h = tt
clauses_solved g R new s sort e n (Some zero) (c ∷ cs) k h = (h.0, clauses_solved g R new s sort e (n + length c) None cs k h.1)
clauses_solved g R new s sort e n (Some (suc i)) (c ∷ cs) k h =
    let first = solved_clause g sort e n c in
    let m = n + literals_in first in
    all_both (AllByRecursion (Of g R new s)) first (solved_clauses g sort e m (Some i) cs) (clause_solved g R new s sort e n c k h.0) (clauses_solved g R new s sort e m (Some i) cs k h.1)
clauses_solved g R new s sort e n None (c ∷ cs) k h =
    let first = solved_clause g sort e n c in
    let m = n + literals_in first in
    all_both (AllByRecursion (Of g R new s)) first (solved_clauses g sort e m None cs) (clause_solved g R new s sort e n c k h.0) (clauses_solved g R new s sort e m None cs k h.1)

pub kept_sourced : (g : KoreSignature) (R : RuleBody → Type 0) (new : List SortedName) (s : SymbolicState) (cs : List (List Literal)) → AreSourcedClauses g R new s cs → AreSourcedClauses g R new s (without_repeats cs)
kept_sourced g R new s cs h = kept_are literals_same (AllByRecursion (Of g R new s)) [] 0 cs h

-- ---- an equality

pub equality_sourced : (g : KoreSignature) (R : RuleBody → Type 0) (new : List SortedName) (s : SymbolicState) (e : Equality) → IsSourcedAtom g R new s (same e.sort e.left e.right) → AreSourcedClauses g R new s (equality_clauses g e)
equality_sourced g R new s e h =
    let f = opened_same g true true e.sort e.left e.right in
    by_size (AllByRecursion (Of g R new s)) (is_too_large 0 f) ((record { holds = true; atom = same e.sort e.left e.right } ∷ []) ∷ []) (distributed f)
    ((h, tt), tt)
    (clauses_have (Of g R new s) f (facts_have (IsSourcedAtom g R new s) f (λ a k. opened_from (same e.sort e.left e.right) a true true h k)))

-- ---- the opposite

literals_denied : (g : KoreSignature) (R : RuleBody → Type 0) (new : List SortedName) (s : SymbolicState) (alone b : Bool) (c : List Literal) → AllByRecursion (Of g R new s) c → AllIn (Of g R new s) (opened_literals g alone b c)
literals_denied g R new s alone b [] h = tt
literals_denied g R new s alone b (l ∷ c) h = (
  facts_have (IsSourcedAtom g R new s) (opened_atom g alone (beq b l.holds) l.atom) (λ a k. opened_from l.atom a alone (beq b l.holds) h.0 k),
  literals_denied g R new s alone b c h.1,
)

clauses_denied : (g : KoreSignature) (R : RuleBody → Type 0) (new : List SortedName) (s : SymbolicState) (cs : List (List Literal)) → AreSourcedClauses g R new s cs → AllIn (Of g R new s) (denied_clauses g cs)
clauses_denied g R new s [] h = tt
clauses_denied g R new s (c ∷ cs) h = (literals_denied g R new s false false c h.0, clauses_denied g R new s cs h.1)

-- some literal stands in clauses whose opposite is too large
some_or_none : (g : KoreSignature) (cs : List (List Literal)) → ((a : Atom) × StandsIn cs a) ⊎ ((size_of_one (denied_clauses g cs)).literals ≡ 0)
some_or_none g [] = inr refl
some_or_none g ([] ∷ cs) = inr (nothing (size_of_one (denied_clauses g cs)).clauses (size_of_one (denied_clauses g cs)).literals)
  where
    nothing : (m n : ℕ) → 0 * m + n * 0 ≡ 0
    nothing m n = omega arith
some_or_none g ((l ∷ c) ∷ cs) = inl (l.atom, inl (inl refl))

not_large : (n : ℕ) → n ≡ 0 → nat_lt most_opened (0 + n) ≡ true → ⊥
not_large n e h = let k : nat_lt most_opened (0 + 0) ≡ true = subst (λ m. nat_lt most_opened (0 + m) ≡ true) e h in absurd (cc)

pub some_denied : (g : KoreSignature) (cs : List (List Literal)) → is_too_large 0 (denied g cs) ≡ true → (a : Atom) × StandsIn cs a
some_denied g cs h = by (some_or_none g cs)
  where
    by : ((a : Atom) × StandsIn cs a) ⊎ ((size_of_one (denied_clauses g cs)).literals ≡ 0) → (a : Atom) × StandsIn cs a
    by (inl w) = w
    by (inr e) = absurd (not_large (size_of_one (denied_clauses g cs)).literals e h)

pub negated_sourced : (g : KoreSignature) (R : RuleBody → Type 0) (new : List SortedName) (s : SymbolicState) (sort : KoreSort) (cs : List (List Literal)) → AreSourcedClauses g R new s cs → AreSourcedClauses g R new s (negated g sort cs)
negated_sourced g R new s sort cs h = by (is_too_large 0 (denied g cs)) refl
  where
    by : (b : Bool) → is_too_large 0 (denied g cs) ≡ b → AreSourcedClauses g R new s (if b then (record { holds = false; atom = quoted (conjunction sort (written_clauses g sort cs)) [] } ∷ []) ∷ [] else distributed (denied g cs))
    by true e = ((written_for_all sort cs e (λ a f. in_clauses (IsSourcedAtom g R new s) cs a h f), tt), tt)
    by false e = clauses_have (Of g R new s) (denied g cs) (clauses_denied g R new s cs h)
