-- A right verdict on plain clauses within the limits is a decision; what is plain alone tells of a state.
use Rattle.std.proofs.Common.{◌≡◌, refl, sym, ◌∙◌, ap, subst, inl, inr, Bool, true, false, ◌&&◌, List, [], ◌∷◌, ◌++◌, map, Some, None}
use Rattle.std.specs.Prelude.{if◌then◌else◌}
use Rattle.std.specs.List.{list_all, filter, AllByRecursion}
use Rattle.kp_kore.specs.Signature.{KoreSignature}
use Rattle.kp_kore.specs.Instance.{Valuation}
use Rattle.kp_kore.specs.Steps.{AnyByRecursion}
use Rattle.kp_symbolic.specs.Formulas.{NotAllFalse}
use Rattle.kp_symbolic.specs.States.{Literal, IsLiteralTrue, IsClauseTrue, AreTrue, SymbolicState, CanBeTrue}
use Rattle.kp_symbolic.specs.Plain.{ReadLiteral, read_clause, read_from, read_clauses, has_form, is_plain_clause, literals_of, plain_part, IsPlainState, plain_clauses, form_of}
use Rattle.kp_symbolic.specs.Weights.{IsWithinLimits}
use Rattle.kp_symbolic.specs.Verdicts.{Verdict, some_valuation, no_valuation, undecided, IsRightVerdict, IsDecision, by_some, by_none}

both_true : (b c : Bool) → b && c ≡ true → (b ≡ true) × (c ≡ true)
both_true true c e = (refl, e)
both_true false c e = absurd (never e)
  where
    never : false ≡ true → ⊥
    never h = cc

-- a test that all members pass drops none
all_kept : {X : Type 0} (test : X → Bool) (xs : List X) → list_all test xs ≡ true → filter test xs ≡ xs
all_kept test [] e = refl
all_kept test (x ∷ xs) e = let p : (test x ≡ true) × (list_all test xs ≡ true) = both_true (test x) (list_all test xs) e in rw p.0 (ap (λ ys. x ∷ ys) (all_kept test xs p.1))

plain_parts : (cs : List (List ReadLiteral)) → list_all is_plain_clause cs ≡ true → map plain_part cs ≡ map literals_of cs
plain_parts [] e = refl
plain_parts (c ∷ cs) e =
    let p : (is_plain_clause c ≡ true) × (list_all is_plain_clause cs ≡ true) = both_true (is_plain_clause c) (list_all is_plain_clause cs) e in
    ap (λ k. literals_of k ∷ map plain_part cs) (all_kept has_form c p.0) ∙ ap (λ ds. literals_of c ∷ ds) (plain_parts cs p.1)

pub plain_is_decided : (g : KoreSignature) (s : SymbolicState) (a : Verdict) → IsRightVerdict g s a → IsPlainState g s → IsWithinLimits g s → IsDecision a
plain_is_decided g s some_valuation r p w = by_some
plain_is_decided g s no_valuation r p w = by_none
plain_is_decided g s (undecided shown None) r p w =
    let is : plain_clauses g s ≡ map plain_part (read_clauses g s) = ap (λ cs. map literals_of cs) (all_kept is_plain_clause (read_clauses g s) p) ∙ sym (plain_parts (read_clauses g s) p) in
    absurd (r.none_by_plain (subst (λ cs. CanBeTrue g s.variables cs) is r.plain))
plain_is_decided g s (undecided shown (Some h)) r p w = absurd (w h.weight h.number r.over)

-- ---- reading keeps the literals

mapped : (g : KoreSignature) (c : List Literal) → literals_of (map (λ l. record { literal = l; form = form_of g l }) c) ≡ c
mapped g [] = refl
mapped g (l ∷ c) = ap (λ k. l ∷ k) (mapped g c)

pub read_keeps : (g : KoreSignature) (s : SymbolicState) (others : List (List Literal)) (c : List Literal) → literals_of (read_clause g s others c) ≡ c
read_keeps g s others [] = refl
read_keeps g s others (l ∷ []) = refl
read_keeps g s others (l ∷ m ∷ c) = ap (λ k. l ∷ m ∷ k) (mapped g c)

pub all_read : (g : KoreSignature) (s : SymbolicState) (before after : List (List Literal)) → map literals_of (read_from g s before after) ≡ after
all_read g s before [] = refl
all_read g s before (c ∷ after) = ap (λ k. k ∷ map literals_of (read_from g s (before ++ c ∷ []) after)) (read_keeps g s (before ++ after) c) ∙ ap (λ cs. c ∷ cs) (all_read g s (before ++ c ∷ []) after)

-- ---- what is plain tells of the state

pub kept_true : {X : Type 0} (P : List Literal → Type 0) (of : X → List Literal) (test : X → Bool) (cs : List X) → AllByRecursion P (map of cs) → AllByRecursion P (map of (filter test cs))
kept_true P of test [] h = tt
kept_true P of test (c ∷ cs) h = by_test (test c) (kept_true P of test cs h.1)
  where
    by_test : (b : Bool) → AllByRecursion P (map of (filter test cs)) → AllByRecursion P (map of (if b then c ∷ filter test cs else filter test cs))
    by_test true rest = (h.0, rest)
    by_test false rest = rest

false_kept : (P : Literal → Type 0) (c : List ReadLiteral) → AllByRecursion P (literals_of c) → AllByRecursion P (plain_part c)
false_kept P [] h = tt
false_kept P (l ∷ c) h = by_test (has_form l) (false_kept P c h.1)
  where
    by_test : (b : Bool) → AllByRecursion P (plain_part c) → AllByRecursion P (literals_of (if b then l ∷ filter has_form c else filter has_form c))
    by_test true rest = (h.0, rest)
    by_test false rest = rest

parts_true : (g : KoreSignature) (v : Valuation) (cs : List (List ReadLiteral)) → AreTrue g v (map plain_part cs) → AreTrue g v (map literals_of cs)
parts_true g v [] h = tt
parts_true g v (c ∷ cs) h = ((λ f. h.0 (false_kept (λ l. ¬ IsLiteralTrue g v l) c f)), parts_true g v cs h.1)

-- clauses that can be true can be so without those that aren't plain
pub plain_can : (g : KoreSignature) (s : SymbolicState) → CanBeTrue g s.variables s.clauses → CanBeTrue g s.variables (plain_clauses g s)
plain_can g s h = record {
  valuation = h.valuation;
  sorts = h.sorts;
  are_true = kept_true (IsClauseTrue g h.valuation) literals_of is_plain_clause (read_clauses g s) (subst (AreTrue g h.valuation) (sym (all_read g s [] s.clauses)) h.are_true);
}

-- and where each is true by a plain literal they are true
pub by_plain_can : (g : KoreSignature) (s : SymbolicState) → CanBeTrue g s.variables (map plain_part (read_clauses g s)) → CanBeTrue g s.variables s.clauses
by_plain_can g s h = record {
  valuation = h.valuation;
  sorts = h.sorts;
  are_true = subst (AreTrue g h.valuation) (all_read g s [] s.clauses) (parts_true g h.valuation (read_clauses g s) h.are_true);
}

-- ---- what refutes a clause

-- a clause is false where each of its literals is
pub each_false : {L : Type 0} (P : L → Type 0) (c : List L) → ¬ NotAllFalse P c → AllByRecursion (λ l. ¬ P l) c
each_false P [] n = tt
each_false P (l ∷ c) n = ((λ p. n (λ f. f.0 p)), each_false P c (λ m. n (λ f. m f.1)))

-- to refute, one of the literals of a true clause may be chosen
none_of : {L : Type 0} (P : L → Type 0) (c : List L) → (AnyByRecursion P c → ⊥) → AllByRecursion (λ l. ¬ P l) c
none_of P [] n = tt
none_of P (l ∷ c) n = ((λ p. n (inl p)), none_of P c (λ a. n (inr a)))

pub by_each : {L : Type 0} (P : L → Type 0) (c : List L) → NotAllFalse P c → (AnyByRecursion P c → ⊥) → ⊥
by_each P c t n = t (none_of P c n)
