-- Along the whole of solving a state keeps the sorts of its places and its instances.
use Rattle.std.proofs.Common.{◌≡◌, [], Some, ◌↔◌}
use Rattle.std.specs.List.{AllByRecursion}
use Rattle.kp_kore.specs.Signature.{KoreSignature}
use Rattle.kp_kore.specs.Value.{Value}
use Rattle.kp_kore.specs.Instance.{Valuation, GivesSorts}
use Rattle.kp_symbolic.specs.States.{SymbolicState, IsStateInstance}
use Rattle.kp_symbolic.specs.Alike.{literals_same}
use Rattle.kp_symbolic.specs.Solving.{solved_clauses, Solvable, first_solvable, solved_at, Solving, finished, goes_on}
use Rattle.kp_symbolic.proofs.Distribution.{kept_are}
use Rattle.kp_symbolic.proofs.Facts.{Good}
use Rattle.kp_symbolic.proofs.Leaf.{then_says}
use Rattle.kp_symbolic_laws.specs.Runs.{IsSortedState, begins, goes_by, OfKeptAt, IsWrittenOfThese, IsWrittenRight, OfEachKept}
use Rattle.kp_symbolic_laws.proofs.Keeping.{put_in, clauses_keep}
use Rattle.kp_symbolic_laws.proofs.Step.{right_of, step_instance}

pub step_sorted : (g : KoreSignature) (s : SymbolicState) (o : Solvable) → IsSortedState g s → first_solvable g s ≡ Some o → OfKeptAt g (IsWrittenOfThese g) s o → IsSortedState g (solved_at g o s)
step_sorted g s o k q w =
    let hand = s.variables in
    let r = right_of g s o k q in
    let term = put_in g hand o.equation s.sort s.term k.one_sort_each r (k.term, k.term_at_hand) in
    record {
      term = term.0;
      term_at_hand = term.1;
      literals = kept_are literals_same (AllByRecursion (Good g hand)) [] 0 (solved_clauses g s.sort o.equation 0 (Some o.place) s.clauses) (clauses_keep g hand s.sort o.equation 0 (Some o.place) s.clauses k.one_sort_each r w k.literals);
      one_sort_each = k.one_sort_each;
    }

pub solving_sorted : (g : KoreSignature) (s t : SymbolicState) → IsSortedState g s → OfEachKept g (IsWrittenOfThese g) s → Solving g s t → IsSortedState g t
solving_sorted g s _ k w (finished _ q) = k
solving_sorted g s t k w (goes_on _ _ o q r) = solving_sorted g (solved_at g o s) t (step_sorted g s o k q (w s o (begins s) q)) (λ x p i j. w x p (goes_by s x o q i) j) r

pub solving_instance : (g : KoreSignature) (v : Valuation) (s t : SymbolicState) (u : Value) → IsSortedState g s → GivesSorts g v s.variables → OfEachKept g (IsWrittenOfThese g) s → OfEachKept g (IsWrittenRight g v) s → Solving g s t → IsStateInstance g v s u ↔ IsStateInstance g v t u
solving_instance g v s _ u k h a w (finished _ q) = ((λ i. i), (λ i. i))
solving_instance g v s t u k h a w (goes_on _ _ o q r) = then_says
    (step_instance g v s o u k h q (w s o (begins s) q))
    (solving_instance g v (solved_at g o s) t u (step_sorted g s o k q (a s o (begins s) q)) h (λ x p i j. a x p (goes_by s x o q i) j) (λ x p i j. w x p (goes_by s x o q i) j) r)
