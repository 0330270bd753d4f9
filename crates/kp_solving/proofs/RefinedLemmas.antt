-- A state in which a variable is a term has the instances that it had where the variable's value is the term's.
use Rattle.std.proofs.Common.{◌≡◌, sym, ◌∙◌, ℕ, ◌+◌, true, List, [], ◌∷◌, ◌++◌, length, Some, ◌↔◌}
use Rattle.std.specs.List.{AllByRecursion}
use Rattle.kp_kore.specs.Syntax.{KoreSort}
use Rattle.kp_kore.specs.Parts.{SortedName}
use Rattle.kp_kore.specs.Signature.{KoreSignature}
use Rattle.kp_kore.specs.Value.{Value}
use Rattle.kp_kore.specs.Instance.{Valuation}
use Rattle.kp_symbolic.specs.Terms.{unknown, term_instance, term_variables}
use Rattle.kp_symbolic.specs.States.{same, Literal, IsClauseTrue, AreTrue, AreGiven, SymbolicState, IsStateInstance}
use Rattle.kp_symbolic.specs.WellFormed.{IsWellSorted}
use Rattle.kp_symbolic.specs.Folding.{replaced}
use Rattle.kp_symbolic.specs.Solving.{Equation, replacement, solved_clause, literals_in, solved_clauses, IsReadyAtom}
use Rattle.kp_symbolic.proofs.Distribution.{all_both, all_first, all_second}
use Rattle.kp_symbolic.proofs.Equations.{IsMet}
use Rattle.kp_symbolic.proofs.Leaf.{one_literal, once_says}
use Rattle.kp_symbolic.proofs.Replacing.{solved_term_is}
use Rattle.kp_symbolic.proofs.Solved.{clause_solved, AreReady}
use Rattle.kp_symbolic.proofs.WellSorted.{sorted_written}
use Rattle.kp_solving.specs.Further.{equality_clause, refined}

-- ---- all clauses, the equation's own behind them

abbrev solved_with : KoreSignature → KoreSort → Equation → ℕ → List (List Literal) → List (List Literal)
solved_with g sort e n cs = solved_clauses g sort e n (Some (length cs)) (cs ++ equality_clause e ∷ [])

equation_says : (g : KoreSignature) (v : Valuation) (e : Equation) → IsClauseTrue g v (equality_clause e) ↔ IsMet g v e
equation_says g v e =
    let k = one_literal g v (record { holds = true; atom = same e.variable.sort (unknown e.variable) e.term }) in
    ((λ t. k.0 (t, tt)), (λ m. (k.1 m).0))

all_solved : (g : KoreSignature) (v : Valuation) (sort : KoreSort) (e : Equation) (n : ℕ) (cs : List (List Literal)) → IsMet g v e → AllByRecursion (AreReady g v sort e) cs → AreTrue g v (solved_with g sort e n cs) ↔ AreTrue g v cs
all_solved g v sort e n [] m h = ((λ a. tt), (λ a. ((equation_says g v e).1 m, tt)))
all_solved g v sort e n (c ∷ cs) m h =
    let first = solved_clause g sort e n c in
    let rest = solved_with g sort e (n + literals_in first) cs in
    let i = clause_solved g v sort e n c m h.0 in
    let j = all_solved g v sort e (n + literals_in first) cs m h.1 in (
      (λ a. (i.0 (all_first (IsClauseTrue g v) first rest a), j.0 (all_second (IsClauseTrue g v) first rest a))),
      (λ a. all_both (IsClauseTrue g v) first rest (i.1 a.0) (j.1 a.1)),
    )

equation_kept : (g : KoreSignature) (v : Valuation) (sort : KoreSort) (e : Equation) (n : ℕ) (cs : List (List Literal)) → AreTrue g v (solved_with g sort e n cs) → IsMet g v e
equation_kept g v sort e n [] a = (equation_says g v e).0 a.0
equation_kept g v sort e n (c ∷ cs) a =
    let first = solved_clause g sort e n c in
    equation_kept g v sort e (n + literals_in first) cs (all_second (IsClauseTrue g v) first (solved_with g sort e (n + literals_in first) cs) a)

-- ---- the state

pub refined_instance : (g : KoreSignature) (v : Valuation) (s : SymbolicState) (e : Equation) (new : List SortedName) (u : Value) → AllByRecursion (AllByRecursion (λ l. IsReadyAtom g v s.sort e l.atom)) s.clauses → IsWellSorted g s.sort s.term →
    AreGiven g (replacement e) v (term_variables s.term) → IsStateInstance g v (refined g e new s) u ↔ (IsStateInstance g v s u × (v e.variable.name ≡ term_instance g v e.term))
refined_instance g v s e new u h w a =
    let once = once_says g v (solved_with g s.sort e 0 s.clauses) in
    let is : IsMet g v e → term_instance g v (replaced g (replacement e) s.term) ≡ term_instance g v s.term = λ m. solved_term_is g v e.variable.name e.term s.term (sorted_written g s.sort s.term w) a m in (
      (λ i. let all = once.0 i.clauses in let m = equation_kept g v s.sort e 0 s.clauses all in (record { term = i.term ∙ is m; clauses = (all_solved g v s.sort e 0 s.clauses m h).0 all }, m)),
      (λ i. record { term = i.0.term ∙ sym (is i.1); clauses = once.1 ((all_solved g v s.sort e 0 s.clauses i.1 h).1 i.0.clauses) }),
    )
