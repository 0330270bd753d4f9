-- On the way from a verified pattern each sum can be written, and each predicate that isn't opened has no verify fault, where
-- none has what is written for a clause that solving keeps whole.
use Rattle.std.proofs.Common.{◌≡◌, true, List, [], ◌∷◌, Some, None}
use Rattle.std.specs.List.{AllByRecursion}
use Rattle.kp_kore.specs.Syntax.{KorePattern}
use Rattle.kp_kore.specs.Signature.{KoreSignature}
use Rattle.kp_kore.specs.Foreign.{none_within, has_foreign_head}
use Rattle.kp_kore.specs.Instance.{is_predicate, conjoined_predicates}
use Rattle.kp_signature.specs.Places.{Place}
use Rattle.kp_signature.specs.Verify.{first_fault}
use Rattle.kp_symbolic.specs.Terms.{SymbolicTerm, unknown, offset, known, headed, SymbolicTerms, no_terms, next_term, Replaced}
use Rattle.kp_symbolic.specs.States.{Atom, same, has_head, quoted, Literal, SymbolicState}
use Rattle.kp_symbolic.specs.Folding.{AreWritten, AreAllWritten}
use Rattle.kp_symbolic.specs.Solving.{solved_at, opened_state}
use Rattle.kp_symbolic_laws.specs.Runs.{ComesBy, begins, goes_by, OfEachKept}
use Rattle.kp_symbolic_laws.specs.Safe.{Formed, IsFormed, IsFormedState}
use Rattle.kp_symbolic_laws.proofs.FormedSteps.{step_formed, opened_formed}
use Rattle.kp_symbolic_laws.proofs.Settled.{IsSettled, AreSettled, ArePutSettled}
use Rattle.kp_symbolic_laws.proofs.OpenedSettled.{IsSettledAtom, IsSettledLiteral, AreSettledClauses}
use Rattle.kp_symbolic_laws.proofs.SolvedSettled.{IsSettledState, step_settled}
use Rattle.kp_symbolic_laws.proofs.ReadStates.{opened_is_settled}
use Rattle.kp_symbolic.specs.Faultless.{IsFaultless}
use Rattle.kp_clause_substitution.specs.Sums.{HasWrittenSums}
use Rattle.kp_outward.specs.Parts.{IsFaultlessAtom}
use Rattle.kp_solving.specs.Readable.{IsReadable, IsWrittenFaultless}

-- ---- settled terms have sums that can be written

mutual
  settled_written : (g : KoreSignature) (t : SymbolicTerm) → IsSettled g t → AreWritten g t
  settled_written g (unknown x) h = tt
  settled_written g (offset x c) h = h.1
  settled_written g (known u) h = tt
  settled_written g (headed f ts) h = all_settled_written g ts h.2

  all_settled_written : (g : KoreSignature) (ts : SymbolicTerms) → AreSettled g ts → AreAllWritten g ts
  all_settled_written g no_terms h = tt
  all_settled_written g (next_term t ts) h = (settled_written g t h.0, all_settled_written g ts h.1)

put_written : (g : KoreSignature) (rs : List Replaced) → ArePutSettled g rs → AllByRecursion (λ r. AreWritten g r.term) rs
put_written g [] h = tt
put_written g (r ∷ rs) h = (settled_written g r.term h.0, put_written g rs h.1)

atom_written : (g : KoreSignature) (a : Atom) → IsSettledAtom g a → HasWrittenSums g a
atom_written g (same s t u) h = (settled_written g t h.0, settled_written g u h.1)
atom_written g (has_head x test) h = tt
atom_written g (quoted p rs) h = put_written g rs h.1

literals_written : (g : KoreSignature) (c : List Literal) → AllByRecursion (IsSettledLiteral g) c → AllByRecursion (λ l. HasWrittenSums g l.atom) c
literals_written g [] h = tt
literals_written g (l ∷ c) h = (atom_written g l.atom h.0, literals_written g c h.1)

clauses_written : (g : KoreSignature) (cs : List (List Literal)) → AreSettledClauses g cs → AllByRecursion (AllByRecursion (λ l. HasWrittenSums g l.atom)) cs
clauses_written g [] h = tt
clauses_written g (c ∷ cs) h = (literals_written g c h.0, clauses_written g cs h.1)

-- ---- predicates without verify faults

atom_faultless : (g : KoreSignature) (a : Atom) → IsFormed g (IsFaultless g) a → IsFaultlessAtom g a
atom_faultless g (same s t u) h = tt
atom_faultless g (has_head x test) h = tt
atom_faultless g (quoted p rs) h = h.0

literals_faultless : (g : KoreSignature) (c : List Literal) → AllByRecursion (Formed g (IsFaultless g)) c → AllByRecursion (λ l. IsFaultlessAtom g l.atom) c
literals_faultless g [] h = tt
literals_faultless g (l ∷ c) h = (atom_faultless g l.atom h.0, literals_faultless g c h.1)

clauses_faultless : (g : KoreSignature) (cs : List (List Literal)) → AllByRecursion (AllByRecursion (Formed g (IsFaultless g))) cs → AllByRecursion (AllByRecursion (λ l. IsFaultlessAtom g l.atom)) cs
clauses_faultless g [] h = tt
clauses_faultless g (c ∷ cs) h = (literals_faultless g c h.0, clauses_faultless g cs h.1)

-- ---- states on the way

record IsOnCourse (g : KoreSignature) (s : SymbolicState) : Type 0 where
  formed : IsFormedState g (IsFaultless g) s
  settled : IsSettledState g s

readable : (g : KoreSignature) (s : SymbolicState) → IsOnCourse g s → IsReadable g s
readable g s w = record {
  term = settled_written g s.term w.settled.term;
  sums = clauses_written g s.clauses w.settled.clauses;
  faultless = clauses_faultless g s.clauses w.formed.literals;
}

stays_on : (g : KoreSignature) (s x : SymbolicState) → ComesBy g s x → IsOnCourse g s → OfEachKept g (IsWrittenFaultless g) s → IsOnCourse g x
stays_on g s _ (begins _) w kept = w
stays_on g s x (goes_by _ _ o q d) w kept =
    stays_on g (solved_at g o s) x d (record { formed = step_formed g (IsFaultless g) s o w.formed q (kept s o (begins s) q); settled = step_settled g s o w.settled q })
    (λ y p c e. kept y p (goes_by s y o q c) e)

pub all_readable : (g : KoreSignature) (c : Place) (p : KorePattern) (o : SymbolicState) → first_fault g c p ≡ None → none_within (has_foreign_head g) p ≡ true → AllByRecursion (λ q. is_predicate q ≡ true) (conjoined_predicates p) →
    opened_state g p ≡ Some o → OfEachKept g (IsWrittenFaultless g) o → (x : SymbolicState) → ComesBy g o x → IsReadable g x
all_readable g c p o e k b is kept x d = readable g x
    (stays_on g o x d
    (record { formed = opened_formed g (IsFaultless g) c p o (λ q h. record { place = h.stands.place; faultless = h.stands.faultless }) e k b is; settled = opened_is_settled g c p o e b is })
    kept)
