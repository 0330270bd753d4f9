-- Where what clauses ask of numbers, truth values, tokens and heads holds, they can be true by plain literals.
use Rattle.std.proofs.Common.{◌≡◌, refl, Bool, true, false, List, [], ◌∷◌, ◌++◌, map}
use Rattle.std.specs.Prelude.{if◌then◌else◌}
use Rattle.std.specs.List.{AllByRecursion, filter}
use Rattle.kp_kore.specs.Signature.{KoreSignature}
use Rattle.kp_kore.specs.Instance.{Valuation, GivesSorts}
use Rattle.kp_symbolic.specs.Formulas.{NotAllFalse}
use Rattle.kp_symbolic.specs.States.{Literal, IsClauseTrue, AreTrue, clause_variables, SymbolicState, CanBeTrue}
use Rattle.kp_symbolic.specs.WellFormed.{AreGivenLiterals, IsWellSortedAtom, AreAtHand}
use Rattle.kp_symbolic.specs.Plain.{ReadLiteral, read_clause, read_from, read_clauses, plain_part}
use Rattle.kp_clause_demands.specs.Asking.{IsAskedTruly, AreAskedTruly}
use Rattle.kp_satisfiability.specs.Read.{HasSortedClauses}
use Rattle.kp_satisfiability.proofs.Asked.{IsHeadAsked, AreHeadsAsked}
use Rattle.kp_satisfiability.proofs.GivenLemmas.{literals_given}
use Rattle.kp_satisfiability.proofs.Ready.{clause_ready}
use Rattle.kp_satisfiability.proofs.SolvedLast.{ReadyAll, TrueAll, IsKnown, solve_last}

-- what holds of those that are kept holds of each that passes the test
where_kept : {X : Type 0} (P : X → Type 0) (test : X → Bool) (xs : List X) → AllByRecursion P (filter test xs) → AllByRecursion (λ x. test x ≡ true → P x) xs
where_kept P test [] h = tt
where_kept P test (x ∷ xs) h = by (test x) h (where_kept P test xs)
  where
    by : (b : Bool) → AllByRecursion P (if b then x ∷ filter test xs else filter test xs) → (AllByRecursion P (filter test xs) → AllByRecursion (λ x. test x ≡ true → P x) xs) → (b ≡ true → P x) × AllByRecursion (λ x. test x ≡ true → P x) xs
    by true k on = ((λ e. k.0), on k.1)
    by false k on = ((λ e. absurd (cc)), on k)

both_kept : {X : Type 0} (P Q : X → Type 0) (xs : List X) → AllByRecursion P xs → AllByRecursion Q xs → AllByRecursion (λ x. P x × Q x) xs
both_kept P Q [] h k = tt
both_kept P Q (x ∷ xs) h k = ((h.0, k.0), both_kept P Q xs h.1 k.1)

ready_from : (g : KoreSignature) (v : Valuation) (s : SymbolicState) (test : List ReadLiteral → Bool) (before after : List (List Literal)) → AreGivenLiterals g v after → AllByRecursion (λ c. test c ≡ true → AllByRecursion (λ r. IsHeadAsked g v r.form) c × NotAllFalse (λ r. IsAskedTruly g v r.form) c) (read_from g s before after) → ReadyAll g v s test before after
ready_from g v s test before [] given h = tt
ready_from g v s test before (c ∷ after) given h = ((λ t. let k = h.0 t in clause_ready g v s (before ++ after) c given.0 k.0 k.1), ready_from g v s test (before ++ c ∷ []) after given.1 h.1)

true_from : (g : KoreSignature) (w : Valuation) (s : SymbolicState) (test : List ReadLiteral → Bool) (before after : List (List Literal)) → TrueAll g w s test before after → AreTrue g w (map plain_part (filter test (read_from g s before after)))
true_from g w s test before [] h = tt
true_from g w s test before (c ∷ after) h = by (test (read_clause g s (before ++ after) c)) h.0 (true_from g w s test (before ++ c ∷ []) after h.1)
  where
    by : (b : Bool) → (b ≡ true → IsClauseTrue g w (plain_part (read_clause g s (before ++ after) c))) → AreTrue g w (map plain_part (filter test (read_from g s (before ++ c ∷ []) after))) → AreTrue g w (map plain_part (if b then read_clause g s (before ++ after) c ∷ filter test (read_from g s (before ++ c ∷ []) after) else filter test (read_from g s (before ++ c ∷ []) after)))
    by true t rest = (t refl, rest)
    by false t rest = rest

all_known : (g : KoreSignature) (s : SymbolicState) (cs : List (List Literal)) → AllByRecursion (AllByRecursion (λ l. IsWellSortedAtom g l.atom)) cs → AllByRecursion (λ c. AreAtHand (clause_variables c) s.variables) cs → AllByRecursion (IsKnown g s) cs
all_known g s [] w at = tt
all_known g s (c ∷ cs) w at = (record { sorted = w.0; at_hand = at.0 }, all_known g s cs w.1 at.1)

pub can_be_true : (g : KoreSignature) (s : SymbolicState) → HasSortedClauses g s → (test : List ReadLiteral → Bool) (v : Valuation) → GivesSorts g v s.variables → AreHeadsAsked g v (filter test (read_clauses g s)) → AreAskedTruly g v (filter test (read_clauses g s)) → CanBeTrue g s.variables (map plain_part (filter test (read_clauses g s)))
can_be_true g s well test v sorts heads asked =
    let each = both_kept (λ c. AllByRecursion (λ r. IsHeadAsked g v r.form) c) (λ c. NotAllFalse (λ r. IsAskedTruly g v r.form) c) (filter test (read_clauses g s)) heads asked in
    let ready = ready_from g v s test [] s.clauses (literals_given g s v well sorts) (where_kept (λ c. AllByRecursion (λ r. IsHeadAsked g v r.form) c × NotAllFalse (λ r. IsAskedTruly g v r.form) c) test (read_clauses g s) each) in
    let last = solve_last g s well.one_sort_each test [] s.clauses v (all_known g s s.clauses well.literals well.clauses_at_hand) sorts ready in
    record { valuation = last.valuation; sorts = last.sorts; are_true = true_from g last.valuation s test [] s.clauses last.are_true }
