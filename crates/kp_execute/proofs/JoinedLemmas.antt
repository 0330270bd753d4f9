-- The pattern of a state's term and predicate is one of the state.
use Rattle.std.proofs.Common.{◌≡◌, ◌↔◌, refl, sym, ap, subst, inl, inr, true, not, List, [], ◌∷◌, ◌++◌}
use Rattle.std.specs.Prelude.{Result, Ok}
use Rattle.std.specs.List.{AllByRecursion, filter}
use Rattle.std.proofs.lemmas.List.{append-nil}
use Rattle.kp_kore.specs.Syntax.{Text, KoreSort, KorePattern, KorePatterns, conjunction, no_patterns, next_pattern}
use Rattle.kp_kore.specs.Parts.{is_term, free_variables, all_free_variables, subpatterns, all_subpatterns}
use Rattle.kp_kore.specs.Signature.{KoreSignature}
use Rattle.kp_kore.specs.Value.{Value}
use Rattle.kp_kore.specs.Instance.{Valuation, IsTrueUnder, conjuncts, all_conjuncts, IsInstanceOfOne, IsInstance, instance}
use Rattle.kp_kore.specs.Replies.{is_open_call, is_wide_value, IsComputed}
use Rattle.kp_kore.proofs.ListLemmas.{all_append, all_left, all_right}
use Rattle.kp_compile.proofs.SpelledMeaning.{InjectsWell}
use Rattle.kp_symbolic.specs.States.{Literal, SymbolicState}
use Rattle.kp_symbolic.specs.WellFormed.{AreAtHand}
use Rattle.kp_symbolic.specs.Writing.{InjectsWhereItStands, written_term, written_clause, written_clauses, written_predicate, written_state}
use Rattle.kp_symbolic_laws.specs.Runs.{HasRoomClause}
use Rattle.kp_symbolic_laws.specs.Safe.{IsSafe}
use Rattle.kp_symbolic_laws.proofs.SoundCourse.{safe_sound}
use Rattle.kp_symbolic_laws.proofs.WrittenUnder.{Well, well_behind}
use Rattle.kp_symbolic_laws.proofs.WrittenStates.{joined_well}
use Rattle.kp_case_laws.specs.NextStates.{IsPatternOf}
use Rattle.kp_outward.specs.Arranged.{AreArranged, with_clauses}
use Rattle.kp_outward.specs.Errors.{InjectsIfThere}
use Rattle.kp_outward.proofs.LawLemmas.{has_instances, has_variables}
use Rattle.kp_results.specs.Results.{StateParts}
use Rattle.kp_execute.specs.Written.{IsStateWritten, joined, pattern_of}

-- ---- members of a conjunction within another

abbrev nested : KoreSort → KorePattern → KorePatterns → KorePattern
nested sort p ps = conjunction sort (next_pattern p (next_pattern (conjunction sort ps) no_patterns))

abbrev flat : KoreSort → KorePattern → KorePatterns → KorePattern
flat sort p ps = conjunction sort (next_pattern p ps)

same_conjuncts : (sort : KoreSort) (p : KorePattern) (ps : KorePatterns) → conjuncts (nested sort p ps) ≡ conjuncts (flat sort p ps)
same_conjuncts sort p ps = ap (λ zs. conjuncts p ++ zs) (append-nil (all_conjuncts ps))

same_variables : (sort : KoreSort) (p : KorePattern) (ps : KorePatterns) → free_variables (nested sort p ps) ≡ free_variables (flat sort p ps)
same_variables sort p ps = ap (λ zs. free_variables p ++ zs) (append-nil (all_free_variables ps))

nested_instance : (g : KoreSignature) (v : Valuation) (sort : KoreSort) (p : KorePattern) (ps : KorePatterns) (u : Value) → IsInstance g v (flat sort p ps) u ↔ IsInstance g v (nested sort p ps) u
nested_instance g v sort p ps u =
    let e = same_conjuncts sort p ps in (
      (λ i. record { term = subst (λ zs. IsInstanceOfOne g v (filter is_term zs) u) (sym e) i.term; predicates = subst (λ zs. AllByRecursion (IsTrueUnder g v) (filter (λ q. not (is_term q)) zs)) (sym e) i.predicates }),
      (λ i. record { term = subst (λ zs. IsInstanceOfOne g v (filter is_term zs) u) e i.term; predicates = subst (λ zs. AllByRecursion (IsTrueUnder g v) (filter (λ q. not (is_term q)) zs)) e i.predicates }),
    )

-- ---- what is written for a state, and its term with its predicate

abbrev pub in_one : KoreSignature → SymbolicState → List (List Literal) → KorePattern
in_one g s ds = written_state g (with_clauses s ds)

abbrev pub in_two : KoreSignature → SymbolicState → List (List Literal) → KorePattern
in_two g s ds = joined s.sort (written_term g s.sort s.term) (written_predicate g s.sort ds)

itself : {P : Type 0} → P ↔ P
itself = ((λ p. p), (λ p. p))

two_instance : (g : KoreSignature) (v : Valuation) (s : SymbolicState) (ds : List (List Literal)) (u : Value) → IsInstance g v (in_one g s ds) u ↔ IsInstance g v (in_two g s ds) u
two_instance g v s [] u = itself
two_instance g v s (c ∷ []) u = itself
two_instance g v s (c ∷ d ∷ ds) u = nested_instance g v s.sort (written_term g s.sort s.term) (written_clauses g s.sort (c ∷ d ∷ ds)) u

two_variables : (g : KoreSignature) (s : SymbolicState) (ds : List (List Literal)) → free_variables (in_one g s ds) ≡ free_variables (in_two g s ds)
two_variables g s [] = refl
two_variables g s (c ∷ []) = refl
two_variables g s (c ∷ d ∷ ds) = sym (same_variables s.sort (written_term g s.sort s.term) (written_clauses g s.sort (c ∷ d ∷ ds)))

in_front : (g : KoreSignature) (sort : KoreSort) (ps : KorePatterns) (qs : List KorePattern) → InjectsWell g qs → InjectsWell g (conjunction sort ps ∷ qs)
in_front g sort ps qs (inl e) = inl e
in_front g sort ps qs (inr e) = inr e

flat_well : (g : KoreSignature) (sort : KoreSort) (p : KorePattern) (ps : KorePatterns) → InjectsWell g (subpatterns p) → InjectsWell g (all_subpatterns ps) → Well g (flat sort p ps)
flat_well g sort p ps i j = in_front g sort (next_pattern p ps) (subpatterns p ++ all_subpatterns ps) (joined_well g (subpatterns p) (all_subpatterns ps) i j)

pub one_well : (g : KoreSignature) (s : SymbolicState) (ds : List (List Literal)) → InjectsWhereItStands g (written_term g s.sort s.term) → InjectsIfThere g (written_predicate g s.sort ds) → InjectsWhereItStands g (in_one g s ds)
one_well g s [] i j = i
one_well g s (c ∷ []) i j = flat_well g s.sort (written_term g s.sort s.term) (written_clauses g s.sort (c ∷ [])) i (subst (InjectsWell g) (sym (append-nil (subpatterns (written_clause g s.sort c)))) j)
one_well g s (c ∷ d ∷ ds) i j =
    let ps = written_clauses g s.sort (c ∷ d ∷ ds) in
    flat_well g s.sort (written_term g s.sort s.term) ps i (well_behind g (conjunction s.sort ps) (all_subpatterns ps) j)

-- ---- open calls

abbrev IsWideCall : KoreSignature → KorePattern → Type 0
IsWideCall g q = is_open_call g q ≡ true → (v : Valuation) → is_wide_value (instance g v q) ≡ true

nested_computed : (g : KoreSignature) (sort : KoreSort) (p : KorePattern) (ps : KorePatterns) → IsComputed g (flat sort p ps) → IsComputed g (nested sort p ps)
nested_computed g sort p ps h =
    let first = all_left (IsWideCall g) (subpatterns p) (all_subpatterns ps) h.1 in
    let others = all_right (IsWideCall g) (subpatterns p) (all_subpatterns ps) h.1 in
    (h.0, all_append (IsWideCall g) (subpatterns p) ((conjunction sort ps ∷ all_subpatterns ps) ++ []) first (all_append (IsWideCall g) (conjunction sort ps ∷ all_subpatterns ps) [] ((λ e. absurd (cc), others)) tt))

pub two_computed : (g : KoreSignature) (s : SymbolicState) (ds : List (List Literal)) → IsComputed g (in_one g s ds) → IsComputed g (in_two g s ds)
two_computed g s [] h = h
two_computed g s (c ∷ []) h = h
two_computed g s (c ∷ d ∷ ds) h = nested_computed g s.sort (written_term g s.sort s.term) (written_clauses g s.sort (c ∷ d ∷ ds)) h

-- ---- a state's pattern

has_pattern : (g : KoreSignature) (s : SymbolicState) (ds : List (List Literal)) → IsSafe g s → AreArranged g s.sort s.clauses ds → AllByRecursion (HasRoomClause g) s.clauses → InjectsWhereItStands g (written_term g s.sort s.term) → InjectsIfThere g (written_predicate g s.sort ds) → IsPatternOf g (in_two g s ds) s
has_pattern g s ds safe a room i j =
    let sound = safe_sound g s safe in
    let w = one_well g s ds i j in
    let r : Result KorePattern Text = Ok (in_one g s ds) in
    record {
      at_hand = subst (λ xs. AreAtHand xs s.variables) (two_variables g s ds) (has_variables (λ p. p) g s r (ds, a, refl) sound);
      instances = λ v u sorts.
          let one = has_instances (λ p. p) g s r (ds, a, refl) room w sound v u sorts in
          let two = two_instance g v s ds u in
          ((λ m. one.0 (two.1 m)), (λ m. two.0 (one.1 m)));
    }

pub state_pattern : (g : KoreSignature) (s : SymbolicState) (x : StateParts) → IsSafe g s → IsStateWritten g s x → IsPatternOf g (pattern_of s.sort x) s
state_pattern g s x safe w =
    let p = w.predicate in
    subst (λ t. IsPatternOf g (joined s.sort t x.predicate) s) (sym w.term) (subst (λ o. IsPatternOf g (joined s.sort (written_term g s.sort s.term) o) s) (sym p.is)
    (has_pattern g s p.arranged safe p.are_arranged p.room (subst (InjectsWhereItStands g) w.term w.injects) (subst (InjectsIfThere g) p.is p.injects)))
