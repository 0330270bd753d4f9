-- Along the whole of solving, each literal is one that is written right where there is room for new names.
use Rattle.std.proofs.Common.{inl, ◌≡◌, true, subst, List, [], ◌∷◌, Some, None}
use Rattle.std.specs.List.{AllByRecursion}
use Rattle.kp_kore.specs.Syntax.{KorePattern}
use Rattle.kp_kore.specs.Signature.{KoreSignature, injection, meaning_of}
use Rattle.kp_kore.specs.Instance.{is_predicate, conjoined_predicates}
use Rattle.kp_kore.specs.Foreign.{none_within, has_foreign_head}
use Rattle.kp_signature.specs.Places.{Place}
use Rattle.kp_signature.specs.Verify.{first_fault}
use Rattle.kp_compile.specs.Spelled.{injection_name}
use Rattle.kp_symbolic.specs.States.{Atom, same, has_head, quoted, Literal, SymbolicState, HasInstancesOf}
use Rattle.kp_symbolic.specs.Writing.{written_clause}
use Rattle.kp_symbolic.specs.Solving.{Solvable, first_solvable, solved_at, Solving, finished, goes_on, IsReadAs}
use Rattle.kp_symbolic.proofs.Facts.{Good}
use Rattle.kp_symbolic_laws.specs.Runs.{IsSortedState, ComesBy, begins, goes_by, OfKeptAt, OfEachKept, HasRoomClause, HasRoomIn, IsSoundPredicate, IsSoundAtom, IsSoundState, IsWrittenAtom, AreWrittenAtoms}
use Rattle.kp_symbolic_laws.specs.Safe.{Formed, IsFormed, IsFormedState, IsSafe, IsSoundQuote}
use Rattle.kp_symbolic_laws.proofs.FormedSteps.{step_formed, opened_formed}
use Rattle.kp_symbolic_laws.proofs.Keeping.{whole_also}
use Rattle.kp_symbolic_laws.proofs.Course.{step_sorted}
use Rattle.kp_symbolic_laws.proofs.ReadState.{opened_sorted}
use Rattle.kp_symbolic_laws.proofs.Sound.{sound}
use Rattle.kp_symbolic_laws.proofs.SoundWritten.{IsReady, clause_sound}
use Rattle.kp_symbolic_laws.proofs.WrittenCourse.{here, read_right}
use Rattle.kp_symbolic_laws.proofs.WrittenForms.{clause_predicate}
use Rattle.kp_symbolic_laws.proofs.WrittenStates.{written_predicates}

-- ---- along a run of solving

some_inside : {A : Type 0} {a b : A} → Some a ≡ Some b → a ≡ b
some_inside e = cc

none_is_some : {A : Type 0} {a : A} → None ≡ Some a → ⊥
none_is_some e = cc

one_only : (g : KoreSignature) (s : SymbolicState) (o p : Solvable) → first_solvable g s ≡ Some o → first_solvable g s ≡ Some p → o ≡ p
one_only g s o p e f = cc

pub kept_next : (g : KoreSignature) (P : SymbolicState → List Literal → Type 0) (s : SymbolicState) (o : Solvable) → first_solvable g s ≡ Some o → OfKeptAt g P s o → OfEachKept g P (solved_at g o s) → (x : SymbolicState) (p : Solvable) → ComesBy g s x → first_solvable g x ≡ Some p → OfKeptAt g P x p
kept_next g P s o e k r _ p (begins _) q = subst (OfKeptAt g P s) (one_only g s o p e q) k
kept_next g P s o e k r x p (goes_by _ _ l f d) q = r x p (subst (λ z. ComesBy g (solved_at g z s) x) (one_only g s l o f e) d) q

none_either : (g : KoreSignature) (s : SymbolicState) (o : Solvable) → first_solvable g s ≡ None → first_solvable g s ≡ Some o → ⊥
none_either g s o e f = cc

pub kept_done : (g : KoreSignature) (P : SymbolicState → List Literal → Type 0) (s : SymbolicState) → first_solvable g s ≡ None → (x : SymbolicState) (p : Solvable) → ComesBy g s x → first_solvable g x ≡ Some p → OfKeptAt g P x p
kept_done g P s e _ p (begins _) q = absurd (none_either g s p e q)
kept_done g P s e x p (goes_by _ _ l f d) q = absurd (none_either g s l e f)

-- ---- literals that are written right

pub sound_atom : (g : KoreSignature) (a : Atom) → IsFormed g (IsSoundQuote g) a → IsSoundAtom g a
sound_atom g (same s t u) h = tt
sound_atom g (has_head x test) h = h
sound_atom g (quoted p rs) h = h.0

sound_literals : (g : KoreSignature) (c : List Literal) → AllByRecursion (Formed g (IsSoundQuote g)) c → AllByRecursion (λ l. IsSoundAtom g l.atom) c
sound_literals g [] h = tt
sound_literals g (l ∷ c) h = (sound_atom g l.atom h.0, sound_literals g c h.1)

sound_clauses : (g : KoreSignature) (cs : List (List Literal)) → AllByRecursion (AllByRecursion (Formed g (IsSoundQuote g))) cs → AllByRecursion (AllByRecursion (λ l. IsSoundAtom g l.atom)) cs
sound_clauses g [] h = tt
sound_clauses g (c ∷ cs) h = (sound_literals g c h.0, sound_clauses g cs h.1)

pub written_atoms : (g : KoreSignature) (c : List Literal) → AllByRecursion (Formed g (IsSoundQuote g)) c → HasRoomClause g c → AllByRecursion (λ l. IsWrittenAtom g l.atom) c
written_atoms g [] h m = tt
written_atoms g (l ∷ c) h m = ((sound_atom g l.atom h.0, m.0), written_atoms g c h.1 m.1)

abbrev pub Both : KoreSignature → SymbolicState → List Literal → Type 0
Both g s c = AllByRecursion (Good g s.variables) c × AllByRecursion (Formed g (IsSoundQuote g)) c

ready : (g : KoreSignature) (s : SymbolicState) (c : List Literal) → AllByRecursion (Good g s.variables) c → AllByRecursion (Formed g (IsSoundQuote g)) c → HasRoomClause g c → AllByRecursion (λ l. IsReady g l.atom) c
ready g s [] w h m = tt
ready g s (l ∷ c) w h m = ((w.0.0, sound_atom g l.atom h.0, m.0), ready g s c w.1 h.1 m.1)

pub zipped : (P Q : List Literal → Type 0) (cs : List (List Literal)) → AllByRecursion P cs → AllByRecursion Q cs → AllByRecursion (λ c. P c × Q c) cs
zipped P Q [] a b = tt
zipped P Q (c ∷ cs) a b = ((a.0, b.0), zipped P Q cs a.1 b.1)

-- ---- states

written_here : (g : KoreSignature) (s : SymbolicState) (o : Solvable) → IsSafe g s → OfKeptAt g (HasRoomIn g) s o → OfKeptAt g (AreWrittenAtoms g) s o
written_here g s o k w = whole_also g s.sort o.equation (HasRoomIn g s) (AreWrittenAtoms g s) (AllByRecursion (Formed g (IsSoundQuote g))) 0 (Some o.place) s.clauses (λ c h m. written_atoms g c h m) k.formed.literals w

sound_here : (g : KoreSignature) (s : SymbolicState) (o : Solvable) → meaning_of g injection_name ≡ injection → IsSafe g s → OfKeptAt g (HasRoomIn g) s o → OfKeptAt g (λ x c. IsSoundQuote g (written_clause g x.sort c)) s o
sound_here g s o i k w = whole_also g s.sort o.equation (HasRoomIn g s) (λ c. IsSoundQuote g (written_clause g s.sort c)) (Both g s) 0 (Some o.place) s.clauses
    (λ c h m. (clause_predicate g s.sort c (written_predicates g c (written_atoms g c h.1 m)), clause_sound g s.sort c (inl i) (ready g s c h.0 h.1 m)))
    (zipped (AllByRecursion (Good g s.variables)) (AllByRecursion (Formed g (IsSoundQuote g))) s.clauses k.sorted.literals k.formed.literals) w

step_safe : (g : KoreSignature) (s : SymbolicState) (o : Solvable) → meaning_of g injection_name ≡ injection → IsSafe g s → first_solvable g s ≡ Some o → OfKeptAt g (HasRoomIn g) s o → IsSafe g (solved_at g o s)
step_safe g s o i k q w = record {
  sorted = step_sorted g s o k.sorted q (here g s o k.sorted (written_here g s o k w));
  formed = step_formed g (IsSoundQuote g) s o k.formed q (sound_here g s o i k w);
}

each_written : (g : KoreSignature) (s : SymbolicState) → meaning_of g injection_name ≡ injection → IsSafe g s → OfEachKept g (HasRoomIn g) s → (x : SymbolicState) (p : Solvable) → ComesBy g s x → first_solvable g x ≡ Some p → OfKeptAt g (AreWrittenAtoms g) x p
each_written g s i k w _ p (begins _) q = written_here g s p k (w s p (begins s) q)
each_written g s i k w x p (goes_by _ _ r e d) q = each_written g (solved_at g r s) i (step_safe g s r i k e (w s r (begins s) e)) (λ y n l f. w y n (goes_by s y r e l) f) x p d q

solving_safe : (g : KoreSignature) (s t : SymbolicState) → meaning_of g injection_name ≡ injection → IsSafe g s → OfEachKept g (HasRoomIn g) s → Solving g s t → IsSafe g t
solving_safe g s _ i k w (finished _ q) = k
solving_safe g s t i k w (goes_on _ _ o q r) = solving_safe g (solved_at g o s) t i (step_safe g s o i k q (w s o (begins s) q)) (λ y n l f. w y n (goes_by s y o q l) f) r

pub safe_sound : (g : KoreSignature) (s : SymbolicState) → IsSafe g s → IsSoundState g s
safe_sound g s k = record { sorted = k.sorted; sound = sound_clauses g s.clauses k.formed.literals }

pub opened_safe : (g : KoreSignature) (c : Place) (p : KorePattern) (s : SymbolicState) → first_fault g c p ≡ None → none_within (has_foreign_head g) p ≡ true → AllByRecursion (λ q. is_predicate q ≡ true) (conjoined_predicates p) → (r : IsReadAs g p s) → IsSafe g r.opened
opened_safe g c p s e k b r = record {
  sorted = opened_sorted g c p r.opened e k b r.is_opened;
  formed = opened_formed g (IsSoundQuote g) c p r.opened (λ q h. (h.predicate, sound g q h.stands h.predicate)) e k b r.is_opened;
}

pub read_sound : (g : KoreSignature) (c : Place) (p : KorePattern) (s : SymbolicState) → meaning_of g injection_name ≡ injection → first_fault g c p ≡ None → none_within (has_foreign_head g) p ≡ true → AllByRecursion (λ q. is_predicate q ≡ true) (conjoined_predicates p)
    → (r : IsReadAs g p s) → OfEachKept g (HasRoomIn g) r.opened → IsSoundState g s × HasInstancesOf g p s
read_sound g c p s i e k b r w =
    let safe = opened_safe g c p s e k b r in
    (safe_sound g s (solving_safe g r.opened s i safe w r.solving), (read_right g c p s i e k b r (each_written g r.opened i safe w)).1)
