-- Along the whole of solving, each literal is one that is written right, where what stays one literal can be written.
use Rattle.std.proofs.Common.{◌≡◌, true, sym, subst, List, [], ◌∷◌, Some, None}
use Rattle.std.specs.List.{AllByRecursion}
use Rattle.kp_kore.specs.Syntax.{KorePattern}
use Rattle.kp_kore.specs.Signature.{KoreSignature}
use Rattle.kp_kore.specs.Instance.{Valuation, GivesSorts, is_predicate, conjoined_predicates}
use Rattle.kp_kore.specs.Foreign.{none_within, has_foreign_head}
use Rattle.kp_signature.specs.Places.{Place}
use Rattle.kp_signature.specs.Verify.{first_fault}
use Rattle.kp_symbolic.specs.States.{Literal, SymbolicState, HasInstancesOf}
use Rattle.kp_symbolic.specs.Writing.{written_clause}
use Rattle.kp_symbolic.specs.Solving.{Solvable, first_solvable, solved_at, Solving, finished, goes_on, IsReadAs}
use Rattle.kp_symbolic.proofs.Facts.{Good}
use Rattle.kp_symbolic_laws.specs.Runs.{ComesBy, begins, goes_by, OfKeptAt, OfEachKept, HasRoomClause, IsSoundState, AreWrittenAtoms, IsWrittenOfThese, IsWrittenRight}
use Rattle.kp_symbolic_laws.specs.Safe.{Formed, IsSafe, IsSoundQuote}
use Rattle.kp_symbolic_laws.proofs.FormedSteps.{step_formed}
use Rattle.kp_symbolic_laws.proofs.Keeping.{whole_also}
use Rattle.kp_symbolic_laws.proofs.Course.{step_sorted}
use Rattle.kp_symbolic_laws.proofs.ReadState.{opened_to, read_instances}
use Rattle.kp_symbolic_laws.proofs.SoundCourse.{safe_sound, opened_safe, written_atoms, zipped, sound_atom, Both}
use Rattle.kp_symbolic_laws.proofs.SoundWritten.{IsReady, clause_sound}
use Rattle.kp_symbolic_laws.proofs.WrittenCourse.{here}
use Rattle.kp_symbolic_laws.proofs.WrittenForms.{clause_predicate}
use Rattle.kp_symbolic_laws.proofs.WrittenStates.{clause_says, written_predicates}
use Rattle.kp_symbolic_laws.specs.Kept.{CanBeWritten}

-- ---- clauses

ready : (g : KoreSignature) (s : SymbolicState) (c : List Literal) → Both g s c → HasRoomClause g c → AllByRecursion (λ l. IsReady g l.atom) c
ready g s [] b m = tt
ready g s (l ∷ c) b m = ((b.0.0.0, sound_atom g l.atom b.1.0, m.0), ready g s c (b.0.1, b.1.1) m.1)

-- ---- one step

both_here : (g : KoreSignature) (s : SymbolicState) → IsSafe g s → AllByRecursion (Both g s) s.clauses
both_here g s k = zipped (AllByRecursion (Good g s.variables)) (AllByRecursion (Formed g (IsSoundQuote g))) s.clauses k.sorted.literals k.formed.literals

-- of what can be written along a step, Q holds
also : (g : KoreSignature) (s : SymbolicState) (o : Solvable) (Q : List Literal → Type 0) → IsSafe g s → ((c : List Literal) → Both g s c → CanBeWritten g s c → Q c) → OfKeptAt g (CanBeWritten g) s o → OfKeptAt g (λ x. Q) s o
also g s o Q k f w = whole_also g s.sort o.equation (CanBeWritten g s) Q (Both g s) 0 (Some o.place) s.clauses f (both_here g s k) w

of_these : (g : KoreSignature) (s : SymbolicState) (o : Solvable) → IsSafe g s → OfKeptAt g (CanBeWritten g) s o → OfKeptAt g (IsWrittenOfThese g) s o
of_these g s o k w = here g s o k.sorted (also g s o (AreWrittenAtoms g s) k (λ c b m. written_atoms g c b.1 m.0) w)

sound_here : (g : KoreSignature) (s : SymbolicState) (o : Solvable) → IsSafe g s → OfKeptAt g (CanBeWritten g) s o → OfKeptAt g (λ x c. IsSoundQuote g (written_clause g x.sort c)) s o
sound_here g s o k w = also g s o (λ c. IsSoundQuote g (written_clause g s.sort c)) k
    (λ c b m. (clause_predicate g s.sort c (written_predicates g c (written_atoms g c b.1 m.0)), clause_sound g s.sort c m.1 (ready g s c b m.0))) w

right_here : (g : KoreSignature) (v : Valuation) (s : SymbolicState) (o : Solvable) → IsSafe g s → GivesSorts g v s.variables → OfKeptAt g (CanBeWritten g) s o → OfKeptAt g (IsWrittenRight g v) s o
right_here g v s o k h w = also g s o (IsWrittenRight g v s) k (λ c b m. clause_says g v s c m.1 h b.0 (written_atoms g c b.1 m.0)) w

step_safe : (g : KoreSignature) (s : SymbolicState) (o : Solvable) → IsSafe g s → first_solvable g s ≡ Some o → OfKeptAt g (CanBeWritten g) s o → IsSafe g (solved_at g o s)
step_safe g s o k q w = record {
  sorted = step_sorted g s o k.sorted q (of_these g s o k w);
  formed = step_formed g (IsSoundQuote g) s o k.formed q (sound_here g s o k w);
}

-- ---- the whole

pub each_of_these : (g : KoreSignature) (s : SymbolicState) → IsSafe g s → OfEachKept g (CanBeWritten g) s → (x : SymbolicState) (p : Solvable) → ComesBy g s x → first_solvable g x ≡ Some p → OfKeptAt g (IsWrittenOfThese g) x p
each_of_these g s k w _ p (begins _) q = of_these g s p k (w s p (begins s) q)
each_of_these g s k w x p (goes_by _ _ r e d) q = each_of_these g (solved_at g r s) (step_safe g s r k e (w s r (begins s) e)) (λ y n l f. w y n (goes_by s y r e l) f) x p d q

pub each_right : (g : KoreSignature) (v : Valuation) (s : SymbolicState) → IsSafe g s → GivesSorts g v s.variables → OfEachKept g (CanBeWritten g) s → (x : SymbolicState) (p : Solvable) → ComesBy g s x → first_solvable g x ≡ Some p → OfKeptAt g (IsWrittenRight g v) x p
each_right g v s k h w _ p (begins _) q = right_here g v s p k h (w s p (begins s) q)
each_right g v s k h w x p (goes_by _ _ r e d) q = each_right g v (solved_at g r s) (step_safe g s r k e (w s r (begins s) e)) h (λ y n l f. w y n (goes_by s y r e l) f) x p d q

pub solving_safe : (g : KoreSignature) (s t : SymbolicState) → IsSafe g s → OfEachKept g (CanBeWritten g) s → Solving g s t → IsSafe g t
solving_safe g s _ k w (finished _ q) = k
solving_safe g s t k w (goes_on _ _ o q r) = solving_safe g (solved_at g o s) t (step_safe g s o k q (w s o (begins s) q)) (λ y n l f. w y n (goes_by s y o q l) f) r

pub read_kept : (g : KoreSignature) (c : Place) (p : KorePattern) (s : SymbolicState) → first_fault g c p ≡ None → none_within (has_foreign_head g) p ≡ true → AllByRecursion (λ q. is_predicate q ≡ true) (conjoined_predicates p)
    → (r : IsReadAs g p s) → OfEachKept g (CanBeWritten g) r.opened → IsSoundState g s × HasInstancesOf g p s
read_kept g c p s e k b r w =
    let safe = opened_safe g c p s e k b r in (
      safe_sound g s (solving_safe g r.opened s safe w r.solving),
      read_instances g c p s e k b r (each_of_these g r.opened safe w) (λ v h. each_right g v r.opened safe (subst (GivesSorts g v) (sym (opened_to g p s r)) h) w),
    )
