-- A part whose equations are solved is the same part.
use Rattle.std.proofs.Common.{◌≡◌, refl, sym, subst, List, ◌↔◌}
use Rattle.std.specs.List.{AllByRecursion}
use Rattle.kp_kore.specs.Syntax.{Text}
use Rattle.kp_kore.specs.Signature.{KoreSignature}
use Rattle.kp_kore.specs.Value.{Value}
use Rattle.kp_kore.specs.Instance.{Valuation, GivesSorts}
use Rattle.kp_symbolic.specs.States.{SymbolicState, IsStateInstance}
use Rattle.kp_symbolic.specs.Solving.{solved_at, Solving, finished, goes_on}
use Rattle.kp_symbolic_laws.specs.Runs.{IsSortedLiteral, OfEachKept}
use Rattle.kp_symbolic_laws.proofs.Course.{solving_instance}
use Rattle.kp_symbolic_laws.specs.Safe.{IsSafe}
use Rattle.kp_symbolic_laws.specs.Kept.{CanBeWritten}
use Rattle.kp_symbolic_laws.proofs.KeptCourse.{each_of_these, each_right, solving_safe}
use Rattle.kp_unify.specs.Narrowed.{NumberedPart}
use Rattle.kp_unify.specs.Way.{IsInUse}
use Rattle.kp_step.specs.ReadyParts.{IsReadyPart}
use Rattle.kp_step.specs.Follows.{IsSolvedPart}
use Rattle.kp_step.specs.Solved.{IsKnownAs}
use Rattle.kp_step.proofs.SortedLemmas.{sorted_clauses}

pub same_variables : (g : KoreSignature) (s t : SymbolicState) → Solving g s t → t.variables ≡ s.variables
same_variables g s _ (finished _ e) = refl
same_variables g s t (goes_on _ _ o e r) = same_variables g (solved_at g o s) t r

pub settled_part : (g : KoreSignature) (used : List Text) (q : NumberedPart) (t : SymbolicState) → IsReadyPart g used q → OfEachKept g (CanBeWritten g) q.part.state → Solving g q.part.state t → IsSolvedPart g used q (record { part = record { state = t; added = q.part.added }; next = q.next })
settled_part g used q t k w r =
    let s = q.part.state in
    let e : t.variables ≡ s.variables = same_variables g s t r in
    let safe : IsSafe g t = solving_safe g s t k.safe w r in
    record {
      added = refl;
      variables = e;
      solving = r;
      same = same;
      ready = record {
        told = λ v c h i. let at = subst (λ xs. GivesSorts g v xs) e h in k.told v c at ((same v c at).1 i);
        sorted = record { state = safe.sorted; added = subst (λ xs. AllByRecursion (AllByRecursion (IsSortedLiteral g xs)) q.part.added) (sym e) k.sorted.added };
        safe = safe;
        begun = k.begun;
        names = subst (λ xs. AllByRecursion (λ x. IsInUse used q.next x.name) xs) (sym e) k.names;
      };
    }
  where
    same : (v : Valuation) (c : Value) → GivesSorts g v q.part.state.variables → IsStateInstance g v q.part.state c ↔ IsStateInstance g v t c
    same v c h = solving_instance g v q.part.state t c k.safe.sorted h (each_of_these g q.part.state k.safe w) (each_right g v q.part.state k.safe h w) r

-- with its equations solved a state has an instance where it has one
pub known_by_solved : (g : KoreSignature) (p s : SymbolicState) → OfEachKept g (CanBeWritten g) p → Solving g p s → IsSafe g p → IsKnownAs g p s
known_by_solved g p s w r k = record {
  sorted = sorted_clauses g s (solving_safe g p s k w r).sorted;
  some = λ i. let h = subst (λ xs. GivesSorts g i.valuation xs) e i.sorts in record { valuation = i.valuation; configuration = i.configuration; sorts = h; met = (same i.valuation i.configuration h).1 i.met };
  none = λ n v c h i. n v c (subst (λ xs. GivesSorts g v xs) (sym e) h) ((same v c h).0 i);
}
  where
    e : s.variables ≡ p.variables
    e = same_variables g p s r

    same : (v : Valuation) (c : Value) → GivesSorts g v p.variables → IsStateInstance g v p c ↔ IsStateInstance g v s c
    same v c h = solving_instance g v p s c k.sorted h (each_of_these g p k w) (each_right g v p k h w) r
