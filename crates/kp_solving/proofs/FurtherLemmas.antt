-- A state with further clauses has the instances that it had, where these are true.
use Rattle.std.proofs.Common.{List, ◌++◌, ◌↔◌}
use Rattle.kp_kore.specs.Signature.{KoreSignature}
use Rattle.kp_kore.specs.Value.{Value}
use Rattle.kp_kore.specs.Instance.{Valuation}
use Rattle.kp_symbolic.specs.States.{Literal, IsClauseTrue, AreTrue, SymbolicState, IsStateInstance}
use Rattle.kp_symbolic.proofs.Distribution.{all_both, all_first, all_second}
use Rattle.kp_symbolic.proofs.Leaf.{once_says}
use Rattle.kp_solving.specs.Further.{constrained}

pub restricted : (g : KoreSignature) (v : Valuation) (s : SymbolicState) (cs : List (List Literal)) (u : Value) → IsStateInstance g v (constrained s cs) u ↔ (IsStateInstance g v s u × AreTrue g v cs)
restricted g v s cs u = (
  (λ i. let a = (once_says g v (s.clauses ++ cs)).0 i.clauses in (record { term = i.term; clauses = all_first (IsClauseTrue g v) s.clauses cs a }, all_second (IsClauseTrue g v) s.clauses cs a)),
  (λ i. record { term = i.0.term; clauses = (once_says g v (s.clauses ++ cs)).1 (all_both (IsClauseTrue g v) s.clauses cs i.0.clauses i.1) }),
)
