-- A clause that holds variables in the place of which terms stand, where its literals and those before it are counted up to a bound.
use Rattle.std.proofs.Common.{◌≡◌, sym, ap, ◌∙◌, ℕ, ◌+◌, ◌≤◌, min, true, false, not, List, [], ◌∷◌, nat_lt, arith}
use Rattle.std.proofs.lemmas.Bool.Decides.{nat_tests}
use Rattle.std.specs.Prelude.{if◌then◌else◌}
use Rattle.kp_kore.specs.Syntax.{KoreSort, KorePattern}
use Rattle.kp_kore.specs.Signature.{KoreSignature}
use Rattle.kp_symbolic.specs.Terms.{Replaced}
use Rattle.kp_symbolic.specs.Formulas.{Formula, fact, size_of}
use Rattle.kp_symbolic.specs.States.{Literal}
use Rattle.kp_symbolic.specs.Opening.{literal_fact, quotation}
use Rattle.kp_symbolic.specs.Writing.{written_clause}
use Rattle.kp_symbolic.specs.Clauses.{distributed, is_too_large}
use Rattle.kp_formulas.specs.Distribution.{Distribution, distribution_of}
use Rattle.kp_clause_substitution.specs.Replacing.{clause_under}
use Rattle.kp_clause_substitution.specs.Substituted.{substituted_clause}
use Rattle.kp_solving.specs.Holding.{holds_one, quoted_under, substituted_holding}
use Rattle.kp_solving.proofs.ClauseLemmas.{turned}

under_so : (m n : ℕ) → nat_lt m n ≡ false → n ≤ m
under_so m n h = grind (arith, nat_tests)

few : (n : ℕ) → n ≤ 16384 → nat_lt 16384 n ≡ false
few n h = grind (arith, nat_tests)

within : (n l : ℕ) → n + l ≤ 16384 → min l 16385 ≤ 16384
within n l h = omega (arith, h)

-- clauses that are no more literals, behind others, than a state may have are kept
kept : (n : ℕ) (f : Formula Literal) → is_too_large n f ≡ false → (distribution_of f).clauses ≡ distributed f
kept n f h = ap (λ b. if b then [] else distributed f) (few (min (size_of f).literals 16385) (within n (size_of f).literals (under_so 16384 (n + (size_of f).literals) h)))

-- ---- literals, counted up to a number that is larger than a state's

pub holding_opened : (g : KoreSignature) (sort : KoreSort) (qs : List Replaced) (n : ℕ) (c : List Literal) (d : Distribution) → d ≡ distribution_of (clause_under g qs c) → true ≡ not (is_too_large n (clause_under g qs c)) →
    d.clauses ≡ substituted_holding g sort qs n c
holding_opened g sort qs n c d is room = opened (clause_under g qs c) is (turned true (is_too_large n (clause_under g qs c)) room)
  where
    opened : (f : Formula Literal) → d ≡ distribution_of f → is_too_large n f ≡ false → d.clauses ≡ (if is_too_large n f then quoted_under qs (written_clause g sort c) ∷ [] else distributed f)
    opened f is h = ap (λ x. x.clauses) is ∙ kept n f h ∙ sym (ap (λ b. if b then quoted_under qs (written_clause g sort c) ∷ [] else distributed f) h)

pub holding_quoted : (g : KoreSignature) (sort : KoreSort) (qs : List Replaced) (n : ℕ) (c : List Literal) → false ≡ not (is_too_large n (clause_under g qs c)) →
    quoted_under qs (written_clause g sort c) ∷ [] ≡ substituted_holding g sort qs n c
holding_quoted g sort qs n c full = sym (ap (λ b. if b then quoted_under qs (written_clause g sort c) ∷ [] else distributed (clause_under g qs c)) (turned false (is_too_large n (clause_under g qs c)) full))

-- ---- whether a variable stands in it

pub holding : (g : KoreSignature) (sort : KoreSort) (qs : List Replaced) (n : ℕ) (c : List Literal) → true ≡ holds_one qs c → substituted_holding g sort qs n c ≡ substituted_clause g sort qs n c
holding g sort qs n c h = ap (λ b. if not b then c ∷ [] else substituted_holding g sort qs n c) h

pub not_holding : (g : KoreSignature) (sort : KoreSort) (qs : List Replaced) (n : ℕ) (c : List Literal) → false ≡ holds_one qs c → c ∷ [] ≡ substituted_clause g sort qs n c
not_holding g sort qs n c h = ap (λ b. if not b then c ∷ [] else substituted_holding g sort qs n c) h

-- ---- a literal alone

one_literal : (l m : Literal) → fact l ≡ fact m → l ≡ m
one_literal l m e = cc

pub as_quoted : (qs : List Replaced) (p : KorePattern) (l : Literal) → fact l ≡ literal_fact true (quotation qs p) → l ∷ [] ≡ quoted_under qs p
as_quoted qs p l e = ap (λ m. m ∷ []) (one_literal l (record { holds = true; atom = quotation qs p }) e)
