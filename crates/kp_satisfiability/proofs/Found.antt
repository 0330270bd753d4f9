-- Clauses of a state, and some of them, can be decided: unknowns are of their kinds and at hand, numbers are small.
use Rattle.std.proofs.Common.{◌≡◌, ℕ, Bool, List}
use Rattle.std.specs.Prelude.{Vec}
use Rattle.std.specs.List.{AllByRecursion, Contains, filter}
use Rattle.std.specs.declared.alloc.Global.{Global}
use Rattle.kp_kore.specs.Signature.{KoreSignature}
use Rattle.kp_kore.proofs.ListLemmas.{all_map}
use Rattle.kp_kore.proofs.TurnLemmas.{of_member}
use Rattle.kp_heads.specs.Heads.{HasValue}
use Rattle.kp_symbolic.specs.States.{SymbolicState}
use Rattle.kp_symbolic.specs.Plain as model
use Rattle.kp_symbolic.specs.Plain.{read_clauses}
use Rattle.kp_symbolic.specs.Weights.{Weight, IsOver}
use Rattle.kp_literals.specs.Readings.{clauses_view}
use Rattle.kp_literals.specs.Unknowns.{all_unknowns, AreSaidOfKind, AreReadOfKind}
use Rattle.kp_literals.specs.declared.reading.ReadLiteral.{ReadLiteral}
use Rattle.kp_literals.proofs.Unknowns.{said_of_kind, unknowns_at_hand}
use Rattle.kp_clause_demands.specs.Holding.{AreLight, CanBeDecided}
use Rattle.kp_satisfiability.specs.Read.{HasSortedClauses}
use Rattle.kp_satisfiability.proofs.Light.{is_light}

-- the clauses of the code are these of the state, and their unknowns are of their kinds and at hand
pub record AreThese (g : KoreSignature) (s : SymbolicState) (test : List model.ReadLiteral → Bool) (cs : List (Vec ReadLiteral Global)) : Type 0 where
  pub read : clauses_view cs ≡ filter test (read_clauses g s)
  pub forms : AllByRecursion (λ c. AreSaidOfKind g c.items) cs
  pub at_hand : AllByRecursion (Contains s.variables) (all_unknowns cs)

pub are_these : (g : KoreSignature) (s : SymbolicState) (test : List model.ReadLiteral → Bool) (cs : List (Vec ReadLiteral Global)) → HasSortedClauses g s → clauses_view cs ≡ filter test (read_clauses g s) → AreReadOfKind g cs → AreThese g s test cs
are_these g s test cs well read kinds = record {
  read = read;
  forms = said_of_kind g cs kinds;
  at_hand = unknowns_at_hand g s test cs well.clauses_at_hand read kinds;
}

pub are_light : (cs : List (Vec ReadLiteral Global)) → ((w : Weight) (n : ℕ) → ¬ IsOver w (clauses_view cs) n) → AreLight cs
are_light cs none = let l = is_light (clauses_view cs) none in record { bits = l.digits; below = l.below; within = l.within }

pub can_be_decided : (g : KoreSignature) (s : SymbolicState) (test : List model.ReadLiteral → Bool) (cs : List (Vec ReadLiteral Global)) → HasSortedClauses g s → AllByRecursion (λ x. HasValue g x.sort) s.variables → AreThese g s test cs → AreLight cs → CanBeDecided g cs
can_be_decided g s test cs well values these light = record {
  forms = these.forms;
  one_sort_each = λ x y p q e. well.one_sort_each x y (of_member (Contains s.variables) (all_unknowns cs) x these.at_hand p) (of_member (Contains s.variables) (all_unknowns cs) y these.at_hand q) e;
  have_values = all_map (Contains s.variables) (λ x. HasValue g x.sort) (all_unknowns cs) (λ x there. of_member (λ y. HasValue g y.sort) s.variables x values there) these.at_hand;
  light = light;
}
