-- Along the whole of solving, what is written for each clause that stays one literal is right, where its literals are.
use Rattle.std.proofs.Common.{◌≡◌, true, sym, subst, Some, None}
use Rattle.std.specs.List.{AllByRecursion}
use Rattle.kp_kore.specs.Syntax.{KorePattern}
use Rattle.kp_kore.specs.Signature.{KoreSignature, injection, meaning_of}
use Rattle.kp_kore.specs.Instance.{Valuation, GivesSorts, is_predicate, conjoined_predicates}
use Rattle.kp_kore.specs.Foreign.{none_within, has_foreign_head}
use Rattle.kp_signature.specs.Places.{Place}
use Rattle.kp_signature.specs.Verify.{first_fault}
use Rattle.kp_compile.specs.Spelled.{injection_name}
use Rattle.kp_symbolic.specs.States.{SymbolicState, HasInstancesOf}
use Rattle.kp_symbolic.specs.Solving.{Solvable, first_solvable, solved_at, IsReadAs}
use Rattle.kp_symbolic.proofs.Facts.{Good}
use Rattle.kp_symbolic_laws.specs.Runs.{IsSortedState, ComesBy, begins, goes_by, OfKeptAt, IsWrittenOfThese, IsWrittenRight, OfEachKept, AreWrittenAtoms}
use Rattle.kp_symbolic_laws.proofs.Keeping.{whole_also}
use Rattle.kp_symbolic_laws.proofs.Course.{step_sorted}
use Rattle.kp_symbolic_laws.proofs.ReadState.{opened_sorted, opened_to, read_sorted, read_instances}
use Rattle.kp_symbolic_laws.proofs.WrittenVariables.{written_of_these}
use Rattle.kp_symbolic_laws.proofs.WrittenStates.{clause_right, written_predicates}

pub here : (g : KoreSignature) (s : SymbolicState) (o : Solvable) → IsSortedState g s → OfKeptAt g (AreWrittenAtoms g) s o → OfKeptAt g (IsWrittenOfThese g) s o
here g s o k w = whole_also g s.sort o.equation (AreWrittenAtoms g s) (IsWrittenOfThese g s) (AllByRecursion (Good g s.variables)) 0 (Some o.place) s.clauses (λ c h a. written_of_these g s c h (written_predicates g c a)) k.literals w

right_here : (g : KoreSignature) (v : Valuation) (s : SymbolicState) (o : Solvable) → meaning_of g injection_name ≡ injection → IsSortedState g s → GivesSorts g v s.variables → OfKeptAt g (AreWrittenAtoms g) s o → OfKeptAt g (IsWrittenRight g v) s o
right_here g v s o i k h w = whole_also g s.sort o.equation (AreWrittenAtoms g s) (IsWrittenRight g v s) (AllByRecursion (Good g s.variables)) 0 (Some o.place) s.clauses (λ c d a. clause_right g v s c i h d a) k.literals w

kept_of_these : (g : KoreSignature) (s : SymbolicState) → IsSortedState g s → OfEachKept g (AreWrittenAtoms g) s
    → (x : SymbolicState) (p : Solvable) → ComesBy g s x → first_solvable g x ≡ Some p → OfKeptAt g (IsWrittenOfThese g) x p
kept_of_these g s k o _ p (begins _) q = here g s p k (o s p (begins s) q)
kept_of_these g s k o x p (goes_by _ _ r e d) q =
    kept_of_these g (solved_at g r s) (step_sorted g s r k e (here g s r k (o s r (begins s) e))) (λ y n l f. o y n (goes_by s y r e l) f) x p d q

kept_right : (g : KoreSignature) (v : Valuation) (s : SymbolicState) → meaning_of g injection_name ≡ injection → IsSortedState g s → GivesSorts g v s.variables → OfEachKept g (AreWrittenAtoms g) s
    → (x : SymbolicState) (p : Solvable) → ComesBy g s x → first_solvable g x ≡ Some p → OfKeptAt g (IsWrittenRight g v) x p
kept_right g v s i k h o _ p (begins _) q = right_here g v s p i k h (o s p (begins s) q)
kept_right g v s i k h o x p (goes_by _ _ r e d) q =
    kept_right g v (solved_at g r s) i (step_sorted g s r k e (here g s r k (o s r (begins s) e))) h (λ y n l f. o y n (goes_by s y r e l) f) x p d q

pub read_right : (g : KoreSignature) (c : Place) (p : KorePattern) (s : SymbolicState) → meaning_of g injection_name ≡ injection → first_fault g c p ≡ None → none_within (has_foreign_head g) p ≡ true → AllByRecursion (λ q. is_predicate q ≡ true) (conjoined_predicates p)
    → (r : IsReadAs g p s) → OfEachKept g (AreWrittenAtoms g) r.opened → IsSortedState g s × HasInstancesOf g p s
read_right g c p s i e k b r o =
    let sorted = opened_sorted g c p r.opened e k b r.is_opened in
    let w = kept_of_these g r.opened sorted o in (
      read_sorted g c p s e k b r w,
      read_instances g c p s e k b r w (λ v h. kept_right g v r.opened i sorted (subst (GivesSorts g v) (sym (opened_to g p s r)) h) o),
    )
