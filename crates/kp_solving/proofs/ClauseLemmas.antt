-- A clause in which an equation is solved, where its literals and those before it are counted up to a bound.
use Rattle.std.proofs.Common.{◌≡◌, refl, sym, ap, ◌∙◌, ℕ, ◌+◌, ◌-◌, ◌^◌, ◌≤◌, ◌<◌, min, Bool, true, false, not, List, [], ◌∷◌, nat_lt, nat_le, arith}
use Rattle.std.proofs.lemmas.Bool.Decides.{nat_tests}
use Rattle.std.specs.Prelude.{if◌then◌else◌}
use Rattle.kp_kore.specs.Syntax.{KoreSort}
use Rattle.kp_kore.specs.Signature.{KoreSignature}
use Rattle.kp_kore.specs.Instance.{is_named}
use Rattle.kp_symbolic.specs.Terms.{Replaced}
use Rattle.kp_symbolic.specs.Formulas.{Formula, size_of}
use Rattle.kp_symbolic.specs.States.{Literal, clause_variables}
use Rattle.kp_symbolic.specs.Writing.{written_clause}
use Rattle.kp_symbolic.specs.Clauses.{distributed, is_too_large}
use Rattle.kp_symbolic.specs.Solving.{Equation, replacement, opened_clause, solved_clause}
use Rattle.kp_formulas.specs.Distribution.{Distribution, distribution_of}
use Rattle.kp_clause_substitution.specs.Replacing.{clause_under}
use Rattle.kp_clause_substitution.proofs.ClauseLemmas.{clause_solved}
use Rattle.kp_solving.specs.Solvables.{quoted_clause, solved_holding}

at_most_so : (m n : ℕ) → nat_le m n ≡ true → m ≤ n
at_most_so m n h = grind (arith, nat_tests)

over_so : (m n : ℕ) → nat_le m n ≡ false → n < m
over_so m n h = grind (arith, nat_tests)

under_so : (m n : ℕ) → nat_lt m n ≡ false → n ≤ m
under_so m n h = grind (arith, nat_tests)

above_so : (m n : ℕ) → nat_lt m n ≡ true → m < n
above_so m n h = grind (arith, nat_tests)

few : (n : ℕ) → n ≤ 16384 → nat_lt 16384 n ≡ false
few n h = grind (arith, nat_tests)

within : (n l : ℕ) → n + l ≤ 16384 → min l 16385 ≤ 16384
within n l h = omega (arith, h)

-- ---- literals, counted up to a number that is larger than a state's

wide : 16384 < 2 ^ 64 - 1
wide = omega arith

fits : (most n l k : ℕ) → 16384 < most → k ≡ min l 16385 → min (n + k) most ≤ 16384 → n + l ≤ 16384
fits most n l k w e h = omega (arith, w, e, h)

passes : (most n l k : ℕ) → 16384 < most → k ≡ min l 16385 → 16384 < min (n + k) most → 16384 < n + l
passes most n l k w e h = omega (arith, w, e, h)

told : (most n l k : ℕ) → 16384 < most → k ≡ min l 16385 → nat_le (min (n + k) most) 16384 ≡ not (nat_lt 16384 (n + l))
told most n l k w e = by (nat_le (min (n + k) most) 16384) (nat_lt 16384 (n + l)) refl refl
  where
    by : (a b : Bool) → nat_le (min (n + k) most) 16384 ≡ a → nat_lt 16384 (n + l) ≡ b → nat_le (min (n + k) most) 16384 ≡ not (nat_lt 16384 (n + l))
    by true false p q = p ∙ sym (ap not q)
    by false true p q = p ∙ sym (ap not q)
    by true true p q = let i = fits most n l k w e (at_most_so (min (n + k) most) 16384 p) in let j = above_so 16384 (n + l) q in absurd (omega (arith, i, j))
    by false false p q = let i = passes most n l k w e (over_so (min (n + k) most) 16384 p) in let j = under_so 16384 (n + l) q in absurd (omega (arith, i, j))

pub room_told : (n : ℕ) (d : Distribution) (f : Formula Literal) → d ≡ distribution_of f → nat_le (min (n + d.size.literals) (2 ^ 64 - 1)) 16384 ≡ not (is_too_large n f)
room_told n d f is = told (2 ^ 64 - 1) n (size_of f).literals d.size.literals wide (ap (λ x. x.size.literals) is)

-- clauses that are no more literals, behind others, than a state may have are kept
kept : (n : ℕ) (f : Formula Literal) → nat_lt 16384 (n + (size_of f).literals) ≡ false → (distribution_of f).clauses ≡ distributed f
kept n f h = ap (λ b. if b then [] else distributed f) (few (min (size_of f).literals 16385) (within n (size_of f).literals (under_so 16384 (n + (size_of f).literals) h)))

pub turned : (a b : Bool) → a ≡ not b → b ≡ not a
turned true true e = absurd (cc)
turned true false e = refl
turned false true e = refl
turned false false e = absurd (cc)

pub holding_opened : (g : KoreSignature) (sort : KoreSort) (e : Equation) (by : List Replaced) (n : ℕ) (c : List Literal) (d : Distribution) → by ≡ replacement e → d ≡ distribution_of (clause_under g by c) →
    true ≡ not (is_too_large n (clause_under g by c)) → d.clauses ≡ solved_holding g sort e n c
holding_opened g sort e by n c d p is room = opened (clause_under g by c) (ap (λ rs. clause_under g rs c) p ∙ clause_solved g e c) is (turned true (is_too_large n (clause_under g by c)) room)
  where
    opened : (f : Formula Literal) → f ≡ opened_clause g e c → d ≡ distribution_of f → nat_lt 16384 (n + (size_of f).literals) ≡ false → d.clauses ≡ solved_holding g sort e n c
    opened f same is h = ap (λ x. x.clauses) is ∙ kept n f h ∙ ap distributed same
        ∙ sym (ap (λ b. if b then quoted_clause (written_clause g sort c) (replacement e) ∷ [] else distributed (opened_clause g e c)) (ap (is_too_large n) (sym same) ∙ h))

pub never_too_large : (g : KoreSignature) (e : Equation) (by : List Replaced) (n : ℕ) (c : List Literal) → by ≡ replacement e →
    true ≡ not (is_too_large n (clause_under g by c)) → is_too_large n (opened_clause g e c) ≡ true → ⊥
never_too_large g e by n c p room full = not_both (is_too_large n (clause_under g by c)) (turned true (is_too_large n (clause_under g by c)) room) (ap (is_too_large n) (ap (λ rs. clause_under g rs c) p ∙ clause_solved g e c) ∙ full)
  where
    not_both : (b : Bool) → b ≡ false → b ≡ true → ⊥
    not_both b e d = cc

pub holding_quoted : (g : KoreSignature) (sort : KoreSort) (e : Equation) (by : List Replaced) (n : ℕ) (c : List Literal) → by ≡ replacement e →
    false ≡ not (is_too_large n (clause_under g by c)) → quoted_clause (written_clause g sort c) by ∷ [] ≡ solved_holding g sort e n c
holding_quoted g sort e by n c p full = ap (λ rs. quoted_clause (written_clause g sort c) rs ∷ []) p
    ∙ sym (ap (λ b. if b then quoted_clause (written_clause g sort c) (replacement e) ∷ [] else distributed (opened_clause g e c))
    (ap (is_too_large n) (sym (ap (λ rs. clause_under g rs c) p ∙ clause_solved g e c)) ∙ turned false (is_too_large n (clause_under g by c)) full))

-- ---- whether the variable stands in it

pub holding : (g : KoreSignature) (sort : KoreSort) (e : Equation) (n : ℕ) (c : List Literal) → true ≡ is_named e.variable.name (clause_variables c) → solved_holding g sort e n c ≡ solved_clause g sort e n c
holding g sort e n c h = ap (λ b. if not b then c ∷ [] else solved_holding g sort e n c) h

pub not_holding : (g : KoreSignature) (sort : KoreSort) (e : Equation) (n : ℕ) (c : List Literal) → false ≡ is_named e.variable.name (clause_variables c) → c ∷ [] ≡ solved_clause g sort e n c
not_holding g sort e n c h = ap (λ b. if not b then c ∷ [] else solved_holding g sort e n c) h
