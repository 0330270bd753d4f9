-- No open call stands in what is written for a state, where the calls in its predicates have places for their arguments.
use Rattle.std.proofs.Common.{◌≡◌, refl, sym, ap, ◌∙◌, subst, Bool, true, false, not, ◌&&◌, List, [], ◌∷◌, Some}
use Rattle.std.specs.Prelude.{⊤}
use Rattle.std.specs.List.{AllByRecursion}
use Rattle.kp_kore.specs.Syntax.{Text, KoreSort, KoreSorts, no_sorts, next_sort, SymbolDeclaration}
use Rattle.kp_kore.specs.Parts.{SortedName}
use Rattle.kp_kore.specs.Signature.{KoreSignature, meaning_of, symbol_declared, symbol_meaning, is_integer_sort, is_boolean_sort}
use Rattle.kp_kore.specs.Value.{Value, whole, truth, token, constructed, Values, no_values, next_value, HasSort, HaveSorts}
use Rattle.kp_kore.specs.Foreign.{is_interpretation}
use Rattle.kp_kore.specs.Replies.{IsComputed}
use Rattle.kp_kore.proofs.TurnLemmas.{of_member, each_member}
use Rattle.kp_compile.specs.Spelled.{places_of, NumbersFit, AllNumbersFit}
use Rattle.kp_symbolic.specs.Terms.{SymbolicTerm, unknown, offset, known, headed, SymbolicTerms, no_terms, next_term}
use Rattle.kp_symbolic.specs.Folding.{applied_term, all_replaced}
use Rattle.kp_symbolic.specs.States.{one_head, head_of_sort, Atom, same, has_head, quoted, Literal, SymbolicState}
use Rattle.kp_symbolic.specs.WellFormed.{IsWellSorted, AreWellSorted}
use Rattle.kp_symbolic.specs.Writing.{InjectsWhereItStands, written_term, written_predicate}
use Rattle.kp_symbolic_laws.specs.Runs.{IsSortedLiteral}
use Rattle.kp_symbolic_laws.specs.Safe.{IsNormal, AreNormal, IsSoundQuote, Formed, IsSafe}
use Rattle.kp_symbolic_laws.proofs.NormalTerms.{normal_folded}
use Rattle.kp_symbolic_laws.proofs.Settled.{IsSettledValue, AreSettledValues, HaveRoom, IsSettled, AreSettled, ArePutSettled}
use Rattle.kp_symbolic_laws.proofs.Fit.{IsFit, Any}
use Rattle.kp_symbolic_laws.proofs.OpenedSettled.{IsSettledAtom, IsSettledLiteral, AreSettledClauses}
use Rattle.kp_symbolic_laws.proofs.SolvedSettled.{IsSettledState}
use Rattle.kp_symbolic_laws.proofs.ReadStates.{settled_is_computed, all_moved}
use Rattle.kp_outward.specs.Arranged.{AreArranged, with_clauses}
use Rattle.kp_outward.specs.Errors.{InjectsIfThere}
use Rattle.kp_results.specs.Results.{StateParts}
use Rattle.kp_execute.specs.Written.{IsStateWritten, joined, pattern_of}
use Rattle.kp_execute.proofs.JoinedLemmas.{in_two, one_well, two_computed}

-- ---- values

no_token_number : (a b c : Bool) → a && not b && not c ≡ true → b ≡ false
no_token_number true false c h = refl
no_token_number true true c h = absurd (cc)
no_token_number false b c h = absurd (cc)

meaning_at : (g : KoreSignature) (f : Text) (d : SymbolDeclaration) → symbol_declared g f ≡ Some d → meaning_of g f ≡ symbol_meaning g d
meaning_at g f d h = rw h refl

mutual
  value_settled : (g : KoreSignature) (s : KoreSort) (u : Value) → HasSort g s u → NumbersFit u → IsSettledValue g u
  value_settled g s (whole n) h f = (h.0, h.1, f)
  value_settled g s (truth b) h f = tt
  value_settled g s (token t x) h f = subst (λ r. is_integer_sort g r ≡ false) (sym h.1.0) (no_token_number _ (is_integer_sort g h.0) (is_boolean_sort g h.0) h.1.1)
  value_settled g s (constructed c us) h f =
      let d = h.0.1 in
      (ap is_interpretation (meaning_at g c d.0 d.1 ∙ d.2), values_settled g h.1 us h.3 f)

  values_settled : (g : KoreSignature) (ss : KoreSorts) (us : Values) → HaveSorts g ss us → AllNumbersFit us → AreSettledValues g us
  values_settled g ss no_values h f = tt
  values_settled g no_sorts (next_value u us) h f = absurd h
  values_settled g (next_sort s ss) (next_value u us) h f = (value_settled g s u h.0 f.0, values_settled g ss us h.1 f.1)

-- ---- terms

have_room : (g : KoreSignature) (ss : KoreSorts) (ts : SymbolicTerms) → AreWellSorted g ss ts → HaveRoom ss ts
have_room g ss no_terms h = tt
have_room g no_sorts (next_term t ts) h = absurd h
have_room g (next_sort s ss) (next_term t ts) h = have_room g ss ts h.1

all_stay : (g : KoreSignature) (ts : SymbolicTerms) → AreNormal g ts → all_replaced g [] ts ≡ ts
all_stay g no_terms h = refl
all_stay g (next_term t ts) h = ap (λ u. next_term u (all_replaced g [] ts)) (normal_folded g t h.0) ∙ ap (next_term t) (all_stay g ts h.1)

mutual
  term_settled : (g : KoreSignature) (s : KoreSort) (t : SymbolicTerm) → IsWellSorted g s t → IsNormal g t → IsSettled g t
  term_settled g s (unknown x) w n = tt
  term_settled g s (offset x c) w n = (w.0, w.1)
  term_settled g s (known u) w n = value_settled g s u w.0 w.1
  term_settled g s (headed f ts) w n = (ap (applied_term g f) (sym (all_stay g ts n.1)) ∙ n.0, (λ i. have_room g (places_of g f) ts w.2), terms_settled g (places_of g f) ts w.2 n.1)

  terms_settled : (g : KoreSignature) (ss : KoreSorts) (ts : SymbolicTerms) → AreWellSorted g ss ts → AreNormal g ts → AreSettled g ts
  terms_settled g ss no_terms w n = tt
  terms_settled g no_sorts (next_term t ts) w n = absurd w
  terms_settled g (next_sort s ss) (next_term t ts) w n = (term_settled g s t w.0 n.0, terms_settled g ss ts w.1 n.1)

-- ---- literals

-- the calls in a predicate that isn't opened have places for their arguments, and what stands for its variables is settled
abbrev pub IsSettledQuote : KoreSignature → Atom → Type 0
IsSettledQuote g (same s t u) = ⊤
IsSettledQuote g (has_head x test) = ⊤
IsSettledQuote g (quoted p rs) = IsFit g Any p × ArePutSettled g rs

atom_settled : (g : KoreSignature) (hand : List SortedName) (b : Bool) (a : Atom) → IsSortedLiteral g hand (record { holds = b; atom = a }) → Formed g (IsSoundQuote g) (record { holds = b; atom = a }) → IsSettledQuote g a → IsSettledAtom g a
atom_settled g hand b (same s t u) w n q = (term_settled g s t w.0.0 n.0, term_settled g s u w.0.1 n.1)
atom_settled g hand b (has_head x (one_head c)) w n q = ap is_interpretation n
atom_settled g hand b (has_head x (head_of_sort s)) w n q = tt
atom_settled g hand b (quoted p rs) w n q = q

clause_settled : (g : KoreSignature) (hand : List SortedName) (c : List Literal) → AllByRecursion (IsSortedLiteral g hand) c → AllByRecursion (Formed g (IsSoundQuote g)) c → AllByRecursion (λ l. IsSettledQuote g l.atom) c → AllByRecursion (IsSettledLiteral g) c
clause_settled g hand [] w n q = tt
clause_settled g hand (l ∷ c) w n q = (atom_settled g hand l.holds l.atom w.0 n.0 q.0, clause_settled g hand c w.1 n.1 q.1)

clauses_settled : (g : KoreSignature) (hand : List SortedName) (cs : List (List Literal)) → AllByRecursion (AllByRecursion (IsSortedLiteral g hand)) cs → AllByRecursion (AllByRecursion (Formed g (IsSoundQuote g))) cs → AllByRecursion (AllByRecursion (λ l. IsSettledQuote g l.atom)) cs → AreSettledClauses g cs
clauses_settled g hand [] w n q = tt
clauses_settled g hand (c ∷ cs) w n q = (clause_settled g hand c w.0 n.0 q.0, clauses_settled g hand cs w.1 n.1 q.1)

-- ---- states

abbrev pub HasSettledQuotes : KoreSignature → SymbolicState → Type 0
HasSettledQuotes g s = AllByRecursion (AllByRecursion (λ l. IsSettledQuote g l.atom)) s.clauses

pub safe_settled : (g : KoreSignature) (s : SymbolicState) → IsSafe g s → HasSettledQuotes g s → IsSettledState g s
safe_settled g s safe q = record {
  term = term_settled g s.sort s.term safe.sorted.term safe.formed.term;
  clauses = clauses_settled g s.variables s.clauses safe.sorted.literals safe.formed.literals q;
}

arranged_settled : (g : KoreSignature) (s : SymbolicState) (ds : List (List Literal)) → IsSettledState g s → AreArranged g s.sort s.clauses ds → IsSettledState g (with_clauses s ds)
arranged_settled g s ds h a = record {
  term = h.term;
  clauses = each_member (AllByRecursion (IsSettledLiteral g)) ds (λ d there.
      let from = a.from_these d there in
      all_moved (IsSettledLiteral g) from.0 d from.2.same (of_member (AllByRecursion (IsSettledLiteral g)) s.clauses from.0 h.clauses from.1));
}

two_without_calls : (g : KoreSignature) (s : SymbolicState) (ds : List (List Literal)) → IsSettledState g s → AreArranged g s.sort s.clauses ds → InjectsWhereItStands g (written_term g s.sort s.term) → InjectsIfThere g (written_predicate g s.sort ds) → IsComputed g (in_two g s ds)
two_without_calls g s ds h a i j = two_computed g s ds (settled_is_computed g (with_clauses s ds) (arranged_settled g s ds h a) (one_well g s ds i j))

pub state_computed : (g : KoreSignature) (s : SymbolicState) (x : StateParts) → IsSafe g s → HasSettledQuotes g s → IsStateWritten g s x → IsComputed g (pattern_of s.sort x)
state_computed g s x safe q w =
    let p = w.predicate in
    subst (λ t. IsComputed g (joined s.sort t x.predicate)) (sym w.term) (subst (λ o. IsComputed g (joined s.sort (written_term g s.sort s.term) o)) (sym p.is)
    (two_without_calls g s p.arranged (safe_settled g s safe q) p.are_arranged (subst (InjectsWhereItStands g) w.term w.injects) (subst (InjectsIfThere g) p.is p.injects)))
