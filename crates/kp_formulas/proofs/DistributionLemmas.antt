-- What is kept of a formula's clauses is put together from what is kept of its parts' clauses.
use Rattle.std.proofs.Common.{◌≡◌, refl, sym, ap, ap₂, ◌∙◌, subst, ℕ, zero, suc, ◌+◌, ◌*◌, ◌<◌, ◌≤◌, min, Bool, true, false, nat_lt, List, [], ◌∷◌, ◌++◌, map, arith}
use Rattle.std.proofs.lemmas.Bool.Decides.{nat_tests}
use Rattle.std.specs.Prelude.{if◌then◌else◌}
use Rattle.kp_symbolic.specs.Alike.{literals_same}
use Rattle.kp_symbolic.specs.Clauses.{most_opened, distributed}
use Rattle.kp_symbolic.specs.Formulas.{Formula, fact, all_of, one_of, Formulas, no_formulas, next_formula, Size, size_of, size_of_all, size_of_one, together, each_with_each, crossed, kept_once, formula_clauses, joined_clauses, crossed_clauses}
use Rattle.kp_symbolic.specs.Opening.{pair, agreeing}
use Rattle.kp_symbolic.specs.States.{Literal}
use Rattle.kp_formulas.specs.Distribution.{Distribution, most_counted, counted, kept_of, distribution_of, distributions_of, always, never, both_of, either_of, all_distributed, one_distributed, agreement_of}
use Rattle.kp_formulas.proofs.Counting.{sum_capped, product_capped, at_least, no_room}

-- ---- sizes

counted_together : (m n : Size) → counted (together (counted m) (counted n)) ≡ counted (together m n)
counted_together m n = ap₂ (λ a b. record { clauses = a; literals = b }) (sum_capped most_counted m.clauses n.clauses) (sum_capped most_counted m.literals n.literals)

counted_crossed : (m n : Size) → counted (each_with_each (counted m) (counted n)) ≡ counted (each_with_each m n)
counted_crossed m n = ap₂ (λ a b. record { clauses = a; literals = b })
    (product_capped most_counted m.clauses n.clauses (omega arith))
    (sym (sum_capped most_counted (min m.literals most_counted * min n.clauses most_counted) (min n.literals most_counted * min m.clauses most_counted))
    ∙ ap₂ (λ x y. min (x + y) most_counted) (product_capped most_counted m.literals n.clauses (omega arith)) (product_capped most_counted n.literals m.clauses (omega arith))
    ∙ sum_capped most_counted (m.literals * n.clauses) (n.literals * m.clauses))

few : (n : ℕ) → nat_lt 16384 (min n 16385) ≡ false → n ≤ 16384
few n e = grind (arith, nat_tests)

many : (n : ℕ) → nat_lt 16384 (min n 16385) ≡ true → 16384 < n
many n e = grind (arith, nat_tests)

not_many : (n : ℕ) → n ≤ 16384 → nat_lt 16384 (min n 16385) ≡ false
not_many n h = grind (arith, nat_tests)

-- ---- a formula without clauses

none_crossed : (cs : List (List Literal)) → crossed literals_same cs [] ≡ []
none_crossed [] = refl
none_crossed (c ∷ cs) = none_crossed cs

nothing_crossed : (a b : ℕ) (cs ds : List (List Literal)) → (a ≡ 0 → cs ≡ []) → (b ≡ 0 → ds ≡ []) → a * b ≡ 0 → kept_once literals_same (crossed literals_same cs ds) ≡ []
nothing_crossed zero b cs ds first second e = ap (λ xs. kept_once literals_same (crossed literals_same xs ds)) (first refl)
nothing_crossed (suc a) zero cs ds first second e = ap (λ xs. kept_once literals_same (crossed literals_same cs xs)) (second refl) ∙ ap (kept_once literals_same) (none_crossed cs)
nothing_crossed (suc a) (suc b) cs ds first second e = let r = at_least (suc a) (suc b) (omega arith) in absurd (omega (arith, e, r))

mutual
  nothing : (f : Formula Literal) → (size_of f).clauses ≡ 0 → formula_clauses literals_same f ≡ []
  nothing (fact l) e = absurd (omega (arith, e))
  nothing (all_of fs) e = nothing_of_all fs e
  nothing (one_of fs) e = nothing_of_one fs e

  nothing_of_all : (fs : Formulas Literal) → (size_of_all fs).clauses ≡ 0 → joined_clauses literals_same fs ≡ []
  nothing_of_all no_formulas e = refl
  nothing_of_all (next_formula f fs) e = ap₂ (λ a b. a ++ b) (nothing f (omega (arith, e))) (nothing_of_all fs (omega (arith, e)))

  nothing_of_one : (fs : Formulas Literal) → (size_of_one fs).clauses ≡ 0 → crossed_clauses literals_same fs ≡ []
  nothing_of_one no_formulas e = absurd (omega (arith, e))
  nothing_of_one (next_formula f fs) e = nothing_crossed (size_of f).clauses (size_of_one fs).clauses (formula_clauses literals_same f) (crossed_clauses literals_same fs) (nothing f) (nothing_of_one fs) e

-- ---- what is kept of the parts does

abbrev unless_many : Size → List (List Literal) → List (List Literal)
unless_many s cs = if nat_lt most_opened (counted s).literals then [] else cs

kept_same : (s : Size) (cs ds : List (List Literal)) → (nat_lt most_opened s.literals ≡ false → cs ≡ ds) → kept_of s cs ≡ kept_of s ds
kept_same s cs ds same = by (nat_lt most_opened s.literals) refl
  where
    by : (b : Bool) → nat_lt most_opened s.literals ≡ b → kept_of s cs ≡ kept_of s ds
    by true e = ap (λ b. record { size = s; clauses = if b then [] else cs }) e ∙ sym (ap (λ b. record { size = s; clauses = if b then [] else ds }) e)
    by false e = ap (λ xs. record { size = s; clauses = if nat_lt most_opened s.literals then [] else xs }) (same e)

kept_whole : (s : Size) (cs : List (List Literal)) → s.literals ≤ 16384 → unless_many s cs ≡ cs
kept_whole s cs h = ap (λ b. if b then [] else cs) (not_many s.literals h)

both_kept : (m n : Size) (cs ds : List (List Literal)) → nat_lt most_opened (counted (together m n)).literals ≡ false → unless_many m cs ++ unless_many n ds ≡ cs ++ ds
both_kept m n cs ds e =
    let h : m.literals + n.literals ≤ 16384 = few (m.literals + n.literals) e in
    ap₂ (λ a b. a ++ b) (kept_whole m cs (omega (arith, h))) (kept_whole n ds (omega (arith, h)))

crossed_kept : (m n : Size) (cs ds : List (List Literal)) → (m.clauses ≡ 0 → cs ≡ []) → (n.clauses ≡ 0 → ds ≡ []) → nat_lt most_opened (counted (each_with_each m n)).literals ≡ false →
    crossed literals_same (unless_many m cs) (unless_many n ds) ≡ crossed literals_same cs ds
crossed_kept m n cs ds no_first no_second e =
    by (nat_lt most_opened (counted m).literals) (nat_lt most_opened (counted n).literals) refl refl
  where
    all : m.literals * n.clauses + n.literals * m.clauses ≤ 16384
    all = few (m.literals * n.clauses + n.literals * m.clauses) e

    by : (a b : Bool) → nat_lt most_opened (counted m).literals ≡ a → nat_lt most_opened (counted n).literals ≡ b → crossed literals_same (unless_many m cs) (unless_many n ds) ≡ crossed literals_same cs ds
    by true b p q =
        let none : ds ≡ [] = no_second (no_room 16384 m.literals n.clauses (many m.literals p) (omega (arith, all))) in
        ap (λ x. crossed literals_same (unless_many m cs) (unless_many n x)) none
        ∙ ap (λ x. crossed literals_same (unless_many m cs) (if x then [] else [])) q
        ∙ left_none b
        ∙ sym (ap (crossed literals_same cs) none ∙ none_crossed cs)
      where
        left_none : (b : Bool) → crossed literals_same (unless_many m cs) (if b then [] else []) ≡ []
        left_none true = none_crossed (unless_many m cs)
        left_none false = none_crossed (unless_many m cs)
    by false true p q =
        let none : cs ≡ [] = no_first (no_room 16384 n.literals m.clauses (many n.literals q) (omega (arith, all))) in
        ap (λ x. crossed literals_same (if x then [] else cs) (unless_many n ds)) p
        ∙ ap (λ x. crossed literals_same x (unless_many n ds)) none
        ∙ sym (ap (λ x. crossed literals_same x ds) none)
    by false false p q = ap₂ (λ x y. crossed literals_same (if x then [] else cs) (if y then [] else ds)) p q

-- ---- one part after the other

next_of_all : (f : Formula Literal) (fs : Formulas Literal) → both_of (distribution_of f) (distribution_of (all_of fs)) ≡ distribution_of (all_of (next_formula f fs))
next_of_all f fs =
    ap (λ s. kept_of s (unless_many (size_of f) (distributed f) ++ unless_many (size_of_all fs) (joined_clauses literals_same fs))) (counted_together (size_of f) (size_of_all fs))
    ∙ kept_same (counted (together (size_of f) (size_of_all fs))) _ _ (both_kept (size_of f) (size_of_all fs) (distributed f) (joined_clauses literals_same fs))

next_of_one : (f : Formula Literal) (fs : Formulas Literal) → either_of (distribution_of f) (distribution_of (one_of fs)) ≡ distribution_of (one_of (next_formula f fs))
next_of_one f fs =
    ap (λ s. kept_of s (kept_once literals_same (crossed literals_same (unless_many (size_of f) (distributed f)) (unless_many (size_of_one fs) (crossed_clauses literals_same fs))))) (counted_crossed (size_of f) (size_of_one fs))
    ∙ kept_same (counted (each_with_each (size_of f) (size_of_one fs))) _ _
    (λ e. ap (kept_once literals_same) (crossed_kept (size_of f) (size_of_one fs) (distributed f) (crossed_clauses literals_same fs) (nothing f) (nothing_of_one fs) e))

pub all_are : (fs : Formulas Literal) → all_distributed (distributions_of fs) ≡ distribution_of (all_of fs)
all_are no_formulas = refl
all_are (next_formula f fs) = ap (both_of (distribution_of f)) (all_are fs) ∙ next_of_all f fs

pub one_is : (fs : Formulas Literal) → one_distributed (distributions_of fs) ≡ distribution_of (one_of fs)
one_is no_formulas = refl
one_is (next_formula f fs) = ap (either_of (distribution_of f)) (one_is fs) ∙ next_of_one f fs

pub agreement_is : (p not_p q not_q : Formula Literal) → agreement_of (distribution_of p) (distribution_of not_p) (distribution_of q) (distribution_of not_q) ≡ distribution_of (agreeing p not_p q not_q)
agreement_is p not_p q not_q = ap₂ (λ x y. both_of x (both_of y always)) (one_is (pair not_p q)) (one_is (pair p not_q)) ∙ all_are (pair (one_of (pair not_p q)) (one_of (pair p not_q)))
