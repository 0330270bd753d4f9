-- What the plain clauses, and the plain parts of all, tell of a state.
use Rattle.std.proofs.Common.{arith, ◌≡◌, refl, sym, ap, subst, ◌∙◌, suc, ◌≤◌, Bool, true, false, ◌&&◌, ◌||◌, List, [], ◌∷◌, map, length}
use Rattle.std.specs.Prelude.{if◌then◌else◌}
use Rattle.std.specs.List.{AllByRecursion, list_all, list_any, filter}
use Rattle.kp_kore.specs.Signature.{KoreSignature}
use Rattle.kp_kore.specs.Instance.{Valuation}
use Rattle.kp_kore.proofs.ListLemmas.{all_filter}
use Rattle.kp_symbolic.specs.States.{IsClauseTrue, AreTrue, SymbolicState, CanBeTrue}
use Rattle.kp_symbolic.specs.WellFormed.{AreGivenLiterals}
use Rattle.kp_symbolic.specs.Plain.{ReadLiteral, read_clauses, has_form, is_plain_clause, literals_of, plain_part, plain_clauses}
use Rattle.kp_clause_demands.specs.Asking.{AreAskedTruly}
use Rattle.kp_satisfiability.proofs.AskedLemmas.{AsksWell, clauses_ask, asked_in_parts}

both_true : (b c : Bool) → b && c ≡ true → (b ≡ true) × (c ≡ true)
both_true true c e = (refl, e)
both_true false c e = absurd (cc)

-- a test that all members pass drops none
all_kept : {X : Type 0} (test : X → Bool) (xs : List X) → list_all test xs ≡ true → filter test xs ≡ xs
all_kept test [] e = refl
all_kept test (x ∷ xs) e = let p = both_true (test x) (list_all test xs) e in rw p.0 (ap (λ ys. x ∷ ys) (all_kept test xs p.1))

no_longer : {X : Type 0} (test : X → Bool) (xs : List X) → length (filter test xs) ≤ length xs
no_longer test [] = omega arith
no_longer test (x ∷ xs) = by (test x) (no_longer test xs)
  where
    by : (b : Bool) → length (filter test xs) ≤ length xs → length (if b then x ∷ filter test xs else filter test xs) ≤ suc (length xs)
    by true h = omega (arith, h)
    by false h = omega (arith, h)

-- where as many are kept, all are
pub as_many : {X : Type 0} (test : X → Bool) (xs : List X) → length (filter test xs) ≡ length xs → filter test xs ≡ xs
as_many test [] e = refl
as_many test (x ∷ xs) e = by (test x) e (as_many test xs) (no_longer test xs)
  where
    by : (b : Bool) → length (if b then x ∷ filter test xs else filter test xs) ≡ suc (length xs) → (length (filter test xs) ≡ length xs → filter test xs ≡ xs) → length (filter test xs) ≤ length xs → (if b then x ∷ filter test xs else filter test xs) ≡ x ∷ xs
    by true h on le = ap (λ ys. x ∷ ys) (on (omega (arith, h)))
    by false h on le = absurd (omega (arith, h, le))

-- ---- plain clauses

plain_is_whole : (cs : List (List ReadLiteral)) → map plain_part (filter is_plain_clause cs) ≡ map literals_of (filter is_plain_clause cs)
plain_is_whole [] = refl
plain_is_whole (c ∷ cs) = by (is_plain_clause c) refl (plain_is_whole cs)
  where
    by : (b : Bool) → is_plain_clause c ≡ b → map plain_part (filter is_plain_clause cs) ≡ map literals_of (filter is_plain_clause cs) → map plain_part (if b then c ∷ filter is_plain_clause cs else filter is_plain_clause cs) ≡ map literals_of (if b then c ∷ filter is_plain_clause cs else filter is_plain_clause cs)
    by true e h = ap (λ ls. literals_of ls ∷ map plain_part (filter is_plain_clause cs)) (all_kept has_form c e) ∙ ap (λ ds. literals_of c ∷ ds) h
    by false e h = h

pub plain_can_be_true : (g : KoreSignature) (s : SymbolicState) → CanBeTrue g s.variables (map plain_part (filter is_plain_clause (read_clauses g s))) → CanBeTrue g s.variables (plain_clauses g s)
plain_can_be_true g s h = subst (CanBeTrue g s.variables) (plain_is_whole (read_clauses g s)) h

-- where the plain clauses may be true, what they ask may hold
pub plain_asked : (g : KoreSignature) (s : SymbolicState) (v : Valuation) → AreGivenLiterals g v s.clauses → AreTrue g v (plain_clauses g s) → AreAskedTruly g v (filter is_plain_clause (read_clauses g s))
plain_asked g s v given h =
    asked_in_parts g v (filter is_plain_clause (read_clauses g s)) (all_filter (AllByRecursion (AsksWell g v)) is_plain_clause (read_clauses g s) (clauses_ask g v s [] s.clauses given)) (subst (AreTrue g v) (sym (plain_is_whole (read_clauses g s))) h)

-- ---- a clause without a plain literal

none_plain : (c : List ReadLiteral) → list_any has_form c ≡ false → plain_part c ≡ []
none_plain [] e = refl
none_plain (l ∷ c) e = by (has_form l) e (none_plain c)
  where
    by : (b : Bool) → (b || list_any has_form c) ≡ false → (list_any has_form c ≡ false → plain_part c ≡ []) → literals_of (if b then l ∷ filter has_form c else filter has_form c) ≡ []
    by true h on = absurd (cc)
    by false h on = on h

never_true : (g : KoreSignature) (v : Valuation) (cs : List (List ReadLiteral)) → list_all (λ c. list_any has_form c) cs ≡ false → AreTrue g v (map plain_part cs) → ⊥
never_true g v [] e h = cc
never_true g v (c ∷ cs) e h = by (list_any has_form c) refl e (λ k. never_true g v cs k h.1)
  where
    by : (b : Bool) → list_any has_form c ≡ b → (b && list_all (λ c. list_any has_form c) cs) ≡ false → (list_all (λ c. list_any has_form c) cs ≡ false → ⊥) → ⊥
    by true i k on = on k
    by false i k on = subst (IsClauseTrue g v) (none_plain c i) h.0 tt

pub none_by_plain : (g : KoreSignature) (s : SymbolicState) → list_all (λ c. list_any has_form c) (read_clauses g s) ≡ false → ¬ CanBeTrue g s.variables (map plain_part (read_clauses g s))
none_by_plain g s e h = never_true g h.valuation (read_clauses g s) e h.are_true
