-- What is kept of opened formulas.
use Rattle.std.proofs.Common.{◌≡◌, refl, sym, ap, ◌∙◌, ℕ, ◌+◌, ◌≤◌, ◌<◌, min, Bool, true, false, not, List, [], ◌∷◌, Option, Some, None, nat_lt, arith}
use Rattle.std.proofs.lemmas.Bool.Decides.{nat_tests}
use Rattle.std.specs.Prelude.{if◌then◌else◌}
use Rattle.kp_kore.specs.Parts.{SortedName}
use Rattle.kp_kore.specs.Signature.{KoreSignature}
use Rattle.kp_symbolic.specs.Terms.{unknown, Replaced}
use Rattle.kp_symbolic.specs.Formulas.{Formula, fact, size_of}
use Rattle.kp_symbolic.specs.States.{HeadTest, same, has_head, Literal}
use Rattle.kp_symbolic.specs.Heads.{head_answer}
use Rattle.kp_symbolic.specs.Opening.{literal_fact, fixed_or, opened_test, opened_same}
use Rattle.kp_symbolic.specs.Clauses.{distributed, is_too_large}
use Rattle.kp_symbolic.specs.Solving.{Equation, replacement, opened_clause}
use Rattle.kp_formulas.specs.Distribution.{Distribution, distribution_of}
use Rattle.kp_clause_substitution.specs.Replacing.{clause_under}
use Rattle.kp_clause_substitution.proofs.ClauseLemmas.{clause_solved}
use Rattle.kp_case_laws.specs.Courses.{Equality, equality_clauses}
use Rattle.kp_unify.specs.Narrowed.{put_opened}

under_so : (m n : ℕ) → nat_lt m n ≡ false → n ≤ m
under_so m n h = grind (arith, nat_tests)

over_so : (m n : ℕ) → nat_lt m n ≡ true → m < n
over_so m n h = grind (arith, nat_tests)

few : (n : ℕ) → n ≤ 16384 → nat_lt 16384 n ≡ false
few n h = grind (arith, nat_tests)

many : (n : ℕ) → 16384 < n → nat_lt 16384 n ≡ true
many n h = grind (arith, nat_tests)

-- a number, and the same counted up to one more than a state may have
counted_same : (n : ℕ) → nat_lt 16384 (min n 16385) ≡ nat_lt 16384 n
counted_same n = by (nat_lt 16384 n) refl
  where
    by : (b : Bool) → nat_lt 16384 n ≡ b → nat_lt 16384 (min n 16385) ≡ nat_lt 16384 n
    by true e = let h = over_so 16384 n e in many (min n 16385) (omega (arith, h)) ∙ sym e
    by false e = let h = under_so 16384 n e in few (min n 16385) (omega (arith, h)) ∙ sym e

pub kept : (d : Distribution) (f : Formula Literal) → d ≡ distribution_of f → true ≡ not (is_too_large 0 f) → d.clauses ≡ distributed f
kept d f is room =
    let none : 0 + (size_of f).literals ≡ (size_of f).literals = omega arith in
    ap (λ x. x.clauses) is ∙ ap (λ b. if b then [] else distributed f) (counted_same (size_of f).literals ∙ ap (nat_lt 16384) (sym none) ∙ turned (is_too_large 0 f) room)
  where
    turned : (b : Bool) → true ≡ not b → b ≡ false
    turned true e = absurd (cc)
    turned false e = refl

full_is : (b : Bool) → false ≡ not b → b ≡ true
full_is true e = refl
full_is false e = absurd (cc)

few_is : (b : Bool) → true ≡ not b → b ≡ false
few_is true e = absurd (cc)
few_is false e = refl

pub opened_is : (g : KoreSignature) (e : Equation) (by : List Replaced) (c : List Literal) (d : Distribution) → by ≡ replacement e → d ≡ distribution_of (clause_under g by c) → true ≡ not (is_too_large 0 (clause_under g by c)) → d.clauses ≡ put_opened g e c
opened_is g e by c d p is room =
    let same = ap (λ rs. clause_under g rs c) p ∙ clause_solved g e c in
    kept d (clause_under g by c) is room ∙ ap distributed same ∙ sym (ap (λ b. if b then c ∷ [] else distributed (opened_clause g e c)) (sym (ap (is_too_large 0) same) ∙ few_is (is_too_large 0 (clause_under g by c)) room))

pub unopened_is : (g : KoreSignature) (e : Equation) (by : List Replaced) (c : List Literal) → by ≡ replacement e → false ≡ not (is_too_large 0 (clause_under g by c)) → c ∷ [] ≡ put_opened g e c
unopened_is g e by c p full =
    let same = ap (λ rs. clause_under g rs c) p ∙ clause_solved g e c in
    sym (ap (λ b. if b then c ∷ [] else distributed (opened_clause g e c)) (sym (ap (is_too_large 0) same) ∙ full_is (is_too_large 0 (clause_under g by c)) full))

-- ---- a test of a variable's head is small

small : (o : Option Bool) (b : Bool) (l : Literal) → is_too_large 0 (fixed_or o b (fact l)) ≡ false
small None b l = refl
small (Some true) true l = refl
small (Some true) false l = refl
small (Some false) true l = refl
small (Some false) false l = refl

pub test_kept : (g : KoreSignature) (b : Bool) (x : SortedName) (test : HeadTest) (d : Distribution) → d ≡ distribution_of (opened_test g b test (literal_fact b (has_head x test)) (unknown x)) →
    d.clauses ≡ distributed (opened_test g b test (literal_fact b (has_head x test)) (unknown x))
test_kept g b x test d is =
    kept d (opened_test g b test (literal_fact b (has_head x test)) (unknown x)) is (sym (ap not (small (head_answer g x.sort test) b (record { holds = b; atom = has_head x test }))))

-- ---- an equality

pub equal_is : (g : KoreSignature) (e : Equality) (d : Distribution) → d ≡ distribution_of (opened_same g true true e.sort e.left e.right) → true ≡ not (is_too_large 0 (opened_same g true true e.sort e.left e.right)) → d.clauses ≡ equality_clauses g e
equal_is g e d is room =
    let f = opened_same g true true e.sort e.left e.right in
    kept d f is room ∙ sym (ap (λ b. if b then (record { holds = true; atom = same e.sort e.left e.right } ∷ []) ∷ [] else distributed f) (few_is (is_too_large 0 f) room))

pub equal_kept : (g : KoreSignature) (e : Equality) → false ≡ not (is_too_large 0 (opened_same g true true e.sort e.left e.right)) → (record { holds = true; atom = same e.sort e.left e.right } ∷ []) ∷ [] ≡ equality_clauses g e
equal_kept g e full =
    let f = opened_same g true true e.sort e.left e.right in
    sym (ap (λ b. if b then (record { holds = true; atom = same e.sort e.left e.right } ∷ []) ∷ [] else distributed f) (full_is (is_too_large 0 f) full))
