-- A term of few levels is written with at most twice as many: each level adds at most one inj.
use Rattle.std.proofs.Common.{◌≡◌, refl, ap, arith, ℕ, zero, suc, ◌*◌, ◌≤◌, ℤ, pos, neg_ℤ, int_lt, Bool, true, false, ◌&&◌, nat_le, Option, Some, None}
use Rattle.std.specs.Prelude.{if◌then◌else◌, unwrap_or}
use Rattle.std.specs.Fmt.{signed_decimal}
use Rattle.std.proofs.lemmas.Bool.Decides.{nat_tests}
use Rattle.kp_kore.specs.Syntax.{Text, KoreSort, KoreSorts, no_sorts, next_sort, KorePattern, variable, application, literal}
use Rattle.kp_kore.specs.Attributes.{sorts_equal}
use Rattle.kp_kore.specs.Hooks.{addition, subtraction}
use Rattle.kp_kore.specs.Limits.{most_depth}
use Rattle.kp_kore.specs.Parts.{SortedName, term_depth, most_term_depth}
use Rattle.kp_kore.specs.Signature.{KoreSignature}
use Rattle.kp_kore.specs.Sorting.{result_sort}
use Rattle.kp_kore.specs.Value.{Value, whole, truth, token, constructed, Values, no_values, next_value}
use Rattle.kp_compile.specs.Spelled.{placed, injected, home_of, places_of, truth_text, spelling, spellings}
use Rattle.kp_symbolic.specs.Folding.{least_symbol}
use Rattle.kp_symbolic.specs.Terms.{SymbolicTerm, unknown, offset, known, headed, SymbolicTerms, no_terms, next_term}
use Rattle.kp_symbolic.specs.Writing.{written_call, written_sum, written_term, written_terms}
use Rattle.kp_simplify.specs.Answers.{Side, depth_of, too_deep}
use Rattle.kp_simplify.specs.Levels.{is_shallow_value, are_shallow_values, is_shallow_term, are_shallow_terms}

first_true : (a b : Bool) → a && b ≡ true → a ≡ true
first_true true b h = refl
first_true false b h = h

second_true : (a b : Bool) → a && b ≡ true → b ≡ true
second_true true b h = h
second_true false b h = absurd (cc)

-- ---- what is written

in_place : (own s : KoreSort) (p : KorePattern) (n : ℕ) → suc (term_depth p) ≤ n → term_depth (placed own s p) ≤ n
in_place own s p n h = by (sorts_equal own s)
  where
    by : (b : Bool) → term_depth (if b then p else injected own s p) ≤ n
    by true = omega (arith, h)
    by false = omega (arith, h)

call_levels : (o : Option Text) (x : SortedName) (n : ℤ) → term_depth (written_call o x n) ≤ 2
call_levels (Some f) x n = omega arith
call_levels None x n = omega arith

sum_levels : (g : KoreSignature) (x : SortedName) (c : ℤ) → term_depth (written_sum g x c) ≤ 2
sum_levels g x c = by (int_lt (pos 0) c)
  where
    by : (b : Bool) → term_depth (if b then written_call (least_symbol g addition) x c else written_call (least_symbol g subtraction) x (neg_ℤ c)) ≤ 2
    by true = call_levels (least_symbol g addition) x c
    by false = call_levels (least_symbol g subtraction) x (neg_ℤ c)

mutual
  value_levels : (g : KoreSignature) (s : KoreSort) (u : Value) (n : ℕ) → is_shallow_value u n ≡ true → term_depth (spelling g s u) ≤ 2 * n
  value_levels g s (whole k) zero h = absurd (cc)
  value_levels g s (whole k) (suc n) h = in_place (home_of g s (whole k)) s (literal (home_of g s (whole k)) (signed_decimal k)) (2 * suc n) (omega arith)
  value_levels g s (truth b) zero h = absurd (cc)
  value_levels g s (truth b) (suc n) h = in_place (home_of g s (truth b)) s (literal (home_of g s (truth b)) (truth_text b)) (2 * suc n) (omega arith)
  value_levels g s (token t x) zero h = absurd (cc)
  value_levels g s (token t x) (suc n) h = in_place t s (literal t x) (2 * suc n) (omega arith)
  value_levels g s (constructed c us) zero h = absurd (cc)
  value_levels g s (constructed c us) (suc n) h =
      let inner = values_levels g (places_of g c) us n h in
      in_place (home_of g s (constructed c us)) s (application c no_sorts (spellings g (places_of g c) us)) (2 * suc n) (omega (arith, inner))

  values_levels : (g : KoreSignature) (ss : KoreSorts) (us : Values) (n : ℕ) → are_shallow_values us n ≡ true → most_term_depth (spellings g ss us) ≤ 2 * n
  values_levels g no_sorts us n h = omega arith
  values_levels g (next_sort s ss) no_values n h = omega arith
  values_levels g (next_sort s ss) (next_value u us) n h =
      let first = value_levels g s u n (first_true (is_shallow_value u n) (are_shallow_values us n) h) in
      let others = values_levels g ss us n (second_true (is_shallow_value u n) (are_shallow_values us n) h) in
      omega (arith, first, others)

mutual
  pub term_levels : (g : KoreSignature) (s : KoreSort) (t : SymbolicTerm) (n : ℕ) → is_shallow_term t n ≡ true → term_depth (written_term g s t) ≤ 2 * n
  term_levels g s (unknown x) zero h = absurd (cc)
  term_levels g s (unknown x) (suc n) h = in_place x.sort s (variable x.name x.sort) (2 * suc n) (omega arith)
  term_levels g s (offset x c) zero h = absurd (cc)
  term_levels g s (offset x c) (suc zero) h = absurd (cc)
  term_levels g s (offset x c) (suc (suc n)) h =
      let sum = sum_levels g x c in
      in_place x.sort s (written_sum g x c) (2 * suc (suc n)) (omega (arith, sum))
  term_levels g s (known u) n h = value_levels g s u n h
  term_levels g s (headed f ts) zero h = absurd (cc)
  term_levels g s (headed f ts) (suc n) h =
      let inner = terms_levels g (places_of g f) ts n h in
      in_place (unwrap_or (result_sort g f no_sorts) s) s (application f no_sorts (written_terms g (places_of g f) ts)) (2 * suc n) (omega (arith, inner))

  terms_levels : (g : KoreSignature) (ss : KoreSorts) (ts : SymbolicTerms) (n : ℕ) → are_shallow_terms ts n ≡ true → most_term_depth (written_terms g ss ts) ≤ 2 * n
  terms_levels g no_sorts ts n h = omega arith
  terms_levels g (next_sort s ss) no_terms n h = omega arith
  terms_levels g (next_sort s ss) (next_term t ts) n h =
      let first = term_levels g s t n (first_true (is_shallow_term t n) (are_shallow_terms ts n) h) in
      let others = terms_levels g ss ts n (second_true (is_shallow_term t n) (are_shallow_terms ts n) h) in
      omega (arith, first, others)

not_over : (m : ℕ) → m ≤ most_depth → too_deep m ≡ None
not_over m h = ap (λ b. if b then None else Some m) (within m h)
  where
    within : (m : ℕ) → m ≤ most_depth → nat_le m most_depth ≡ true
    within m h = grind (arith, nat_tests)

-- a term of half as many levels as a term may have isn't too deep, at whichever sort
pub not_deep : (g : KoreSignature) (x : Side) → is_shallow_term x.term 24 ≡ true → too_deep (depth_of g x) ≡ None
not_deep g x h = not_over (depth_of g x) (term_levels g x.sort x.term 24 h)
