-- A state whose pattern has no predicates has no clauses, and has an instance where its variables have values.
use Rattle.std.proofs.Common.{◌≡◌, refl, sym, ap, ◌∙◌, subst, arith, ℕ, zero, suc, ◌<◌, ◌≤◌, ◌+◌, ◌^◌, true, not, List, [], ◌∷◌, ◌++◌, map, Option, Some, None}
use Rattle.std.specs.Prelude.{unwrap_or}
use Rattle.std.specs.List.{AllByRecursion, Contains, filter}
use Rattle.std.proofs.lemmas.List.{append-nil}
use Rattle.kp_kore.specs.Syntax.{KoreSort, KorePattern, top}
use Rattle.kp_kore.specs.Parts.{is_term}
use Rattle.kp_kore.specs.Signature.{KoreSignature}
use Rattle.kp_kore.specs.Instance.{Valuation, GivesSorts, is_predicate, conjuncts}
use Rattle.kp_kore.specs.Value.{Value}
use Rattle.kp_kore.specs.Causes.{IsDecided}
use Rattle.kp_kore.proofs.Conjuncts.{filter_append, filter_all, no_terms}
use Rattle.kp_symbolic.specs.Terms.{term_instance}
use Rattle.kp_symbolic.specs.States.{Literal, SymbolicState, AreTrue, IsStateInstance}
use Rattle.kp_symbolic.specs.Plain.{read_clauses, read_from}
use Rattle.kp_symbolic.specs.Verdicts.{Weighed, undecided, IsRightVerdict}
use Rattle.kp_symbolic.specs.Weights.{Weight, bits, literals, product, IsBitLength, IsOver}
use Rattle.kp_symbolic.specs.Writing.{written_clause, written_predicate}
use Rattle.kp_symbolic_laws.specs.Safe.{IsSafe}
use Rattle.kp_symbolic_laws.proofs.SoundCourse.{safe_sound}
use Rattle.kp_symbolic_laws.proofs.WrittenStates.{not_terms}
use Rattle.kp_outward.specs.Arranged.{AreArranged}
use Rattle.kp_results.specs.Results.{StateParts}
use Rattle.kp_execute.specs.Written.{IsStateWritten, IsShown, joined, pattern_of}
use Rattle.kp_execute.proofs.AddedLemmas.{CanBeClause, can_be, arranged_can_be, predicate_form}

-- ---- no predicates

right_empty : {X : Type 0} (xs ys : List X) → xs ++ ys ≡ [] → ys ≡ []
right_empty [] ys e = e
right_empty (x ∷ xs) ys e = absurd (cc)

no_member : (sort : KoreSort) (p q : KorePattern) → is_predicate q ≡ true → IsDecided (joined sort p (Some q)) → conjuncts q ≡ []
no_member sort p q form none =
    let others = λ (r : KorePattern). not (is_term r) in
    let members : List KorePattern = conjuncts q in
    right_empty (filter others (conjuncts p)) members
    (ap (λ zs. filter others (conjuncts p) ++ zs) (sym (filter_all others members (not_terms members (no_terms q form)))) ∙ ap (λ zs. filter others (conjuncts p) ++ filter others zs) (sym (append-nil members)) ∙ sym (filter_append others (conjuncts p) (members ++ [])) ∙ none)

some_of : {X : Type 0} {x : X} → Some x ≡ None → ⊥
some_of e = cc

no_order : (g : KoreSignature) (sort : KoreSort) (ds : List (List Literal)) → written_predicate g sort ds ≡ None → ds ≡ []
no_order g sort [] e = refl
no_order g sort (c ∷ []) e = absurd (some_of e)
no_order g sort (c ∷ d ∷ ds) e = absurd (some_of e)

none_contained : {X : Type 0} (x : X) → Contains [] x → ⊥
none_contained x (k, h, e) = omega (arith, h)

no_clauses : (g : KoreSignature) (sort : KoreSort) (cs ds : List (List Literal)) → AreArranged g sort cs ds → ds ≡ [] → cs ≡ []
no_clauses g sort [] ds a e = refl
no_clauses g sort (c ∷ cs) ds a e =
    let by = a.all_of_these c (0, omega arith, refl) in
    absurd (none_contained (written_clause g sort by.0) (subst (λ zs. Contains (map (written_clause g sort) zs) (written_clause g sort by.0)) e by.2))

-- ---- the state's predicate

predicate_is : (g : KoreSignature) (s : SymbolicState) (x : StateParts) → IsSafe g s → IsStateWritten g s x → (q : KorePattern) → x.predicate ≡ Some q → is_predicate q ≡ true
predicate_is g s x safe w q e =
    let m = w.predicate in
    let can : AllByRecursion (CanBeClause g s.variables) s.clauses = can_be g s.variables s.clauses (record { sorted = safe.sorted.literals; sound = (safe_sound g s safe).sound }) m.room in
    subst (λ o. is_predicate (unwrap_or o (top s.sort)) ≡ true) (sym m.is ∙ e) (predicate_form g s.variables s.sort m.arranged (arranged_can_be g s.variables s.sort s.clauses m.arranged can m.are_arranged))

decided_empty : (g : KoreSignature) (s : SymbolicState) (x : StateParts) → IsSafe g s → IsStateWritten g s x → IsShown x.predicate → IsDecided (pattern_of s.sort x) → s.clauses ≡ []
decided_empty g s x safe w shown decided = by x.predicate refl
  where
    by : (o : Option KorePattern) → x.predicate ≡ o → s.clauses ≡ []
    by None e = no_clauses g s.sort s.clauses w.predicate.arranged w.predicate.are_arranged (no_order g s.sort w.predicate.arranged (sym w.predicate.is ∙ e))
    by (Some q) e = absurd (subst IsShown e shown (no_member s.sort x.term q (predicate_is g s x safe w q e) (subst (λ o. IsDecided (joined s.sort x.term o)) e decided)))

-- ---- nothing weighs too much where nothing stands

one_power : (j : ℕ) → 1 ≤ 2 ^ j
one_power zero = omega arith
one_power (suc j) = let p = one_power j in omega (arith, p)

no_bits : (k : ℕ) → IsBitLength 0 k → k ≡ 0
no_bits zero h = refl
no_bits (suc j) h =
    let least : 2 ^ j ≤ 0 = h.least j refl in
    let one : 1 ≤ 2 ^ j = one_power j in
    absurd (omega (arith, least, one))

never_over : (w : Weight) (n : ℕ) → IsOver w [] n → ⊥
never_over bits n h =
    let k : ℕ = h.weighs.0 in
    let none : k ≡ 0 = no_bits k h.weighs.1 in
    let is : n ≡ 0 + k = h.weighs.2 in
    let above : 126 < n = h.above in
    omega (arith, none, is, above)
never_over literals n h =
    let is : n ≡ 0 = h.weighs in
    let above : 512 < n = h.above in
    omega (arith, is, above)
never_over product n h =
    let is : n ≡ 1 = h.weighs in
    let above : 4096 < n = h.above in
    omega (arith, is, above)

-- ---- an instance

pub record HasHere (g : KoreSignature) (s : SymbolicState) : Type 0 where
  pub valuation : Valuation
  pub configuration : Value
  pub sorts : GivesSorts g valuation s.variables
  pub met : IsStateInstance g valuation s configuration

with_values : (g : KoreSignature) (s : SymbolicState) (v : Valuation) → s.clauses ≡ [] → GivesSorts g v s.variables → HasHere g s
with_values g s v none sorts = record { valuation = v; configuration = term_instance g v s.term; sorts = sorts; met = record { term = refl; clauses = subst (AreTrue g v) (sym none) tt } }

no_literals : (g : KoreSignature) (s : SymbolicState) → s.clauses ≡ [] → read_clauses g s ≡ []
no_literals g s none = ap (read_from g s []) none

pub decided_has : (g : KoreSignature) (s : SymbolicState) (x : StateParts) (cs : List (List Literal)) (h : Option Weighed) → IsSafe g s → IsStateWritten g s x → IsShown x.predicate → IsRightVerdict g s (undecided cs h) → IsDecided (pattern_of s.sort x) → HasHere g s
decided_has g s x cs None safe w shown right decided = with_values g s right.plain.valuation (decided_empty g s x safe w shown decided) right.plain.sorts
decided_has g s x cs (Some h) safe w shown right decided =
    let none = no_literals g s (decided_empty g s x safe w shown decided) in
    absurd (never_over h.weight h.number (subst (λ rs. IsOver h.weight rs h.number) none right.over))
