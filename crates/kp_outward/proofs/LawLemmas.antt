-- Arranged clauses are true where the clauses are.
use Rattle.std.proofs.Common.{◌≡◌, ◌↔◌, refl, sym, subst, inl, inr, zero, suc, List, [], ◌∷◌, ◌++◌, map, arith, IsPermutation}
use Rattle.std.specs.Prelude.{Result, Ok, Err, IfOk, ⊤}
use Rattle.std.specs.List.{AllByRecursion, Contains}
use Rattle.std.proofs.lemmas.List.Sorted.{IsPermutation-sym}
use Rattle.kp_kore.specs.Syntax.{KoreSort, KorePattern, conjunction, next_pattern}
use Rattle.kp_kore.specs.Parts.{free_variables, subpatterns, all_subpatterns}
use Rattle.kp_kore.specs.Signature.{KoreSignature, injection, meaning_of}
use Rattle.kp_kore.specs.Value.{Value}
use Rattle.kp_kore.specs.Instance.{Valuation, GivesSorts, IsInstance, IsTrueUnder, AllTrueUnder}
use Rattle.kp_compile.specs.Spelled.{injection_name}
use Rattle.kp_compile.proofs.SpelledMeaning.{InjectsWell}
use Rattle.kp_symbolic.specs.States.{Atom, same, has_head, quoted, Literal, SymbolicState, IsLiteralTrue, IsClauseTrue, AreTrue, IsStateInstance}
use Rattle.kp_symbolic.specs.WellFormed.{AreAtHand}
use Rattle.kp_symbolic.specs.Writing.{InjectsWhereItStands, IsSaid, written_term, written_clause, written_clauses, written_state}
use Rattle.kp_symbolic.proofs.Written.{clause_said, clauses_said, injects_right, injects_left}
use Rattle.kp_symbolic_laws.specs.Runs.{IsSortedLiteral, IsSortedState, HasRoomClause, IsPredicateAtom, IsSoundAtom, IsSoundState, IsWrittenAtom}
use Rattle.kp_symbolic_laws.proofs.WrittenStates.{clause_says, state_says as written_state_says}
use Rattle.kp_symbolic_laws.proofs.WrittenUnder.{Well, well_behind}
use Rattle.kp_symbolic_laws.proofs.WrittenVariables.{state_of_these}
use Rattle.kp_symbolic_laws.proofs.ReadStates.{all_moved, of_members, at_member}
use Rattle.kp_outward.specs.Arranged.{AreArranged, with_clauses}

-- ---- what holds of each member

pub among_images : {X Y : Type 0} (f : X → Y) (xs : List X) (y : Y) → Contains (map f xs) y → (x : X) × Contains xs x × (f x ≡ y)
among_images f [] y (k, h, e) = absurd (omega (arith, h))
among_images f (x ∷ xs) y (zero, h, e) = (x, (0, omega arith, refl), e)
among_images f (x ∷ xs) y (suc k, h, e) =
    let found = among_images f xs y (k, omega (arith, h), e) in
    (found.0, (suc found.1.0, omega (arith, found.1.1), found.1.2), found.2)

-- ---- clauses

pub clause_moved : (g : KoreSignature) (v : Valuation) (c d : List Literal) → IsPermutation c d → IsClauseTrue g v c → IsClauseTrue g v d
clause_moved g v c d moved holds = λ none. holds (all_moved (λ l. IsLiteralTrue g v l → ⊥) d c (IsPermutation-sym c d moved) none)

-- what is written for each literal says what it says
abbrev pub IsSaidClause : KoreSignature → Valuation → KoreSort → List Literal → Type 0
IsSaidClause g v sort = AllByRecursion (λ l. IsSaid g v sort l.atom)

-- what is written for each clause, in any order, says what it says, where W holds of what is written
abbrev pub SayInAnyOrder : (KorePattern → Type 0) → KoreSignature → Valuation → KoreSort → List (List Literal) → Type 0
SayInAnyOrder W g v sort cs = (c d : List Literal) → Contains cs c → IsPermutation c d → W (written_clause g sort d) → IsTrueUnder g v (written_clause g sort d) ↔ IsClauseTrue g v d

-- nothing is asked
abbrev Anything : KorePattern → Type 0
Anything p = ⊤

say_in_any_order : (g : KoreSignature) (v : Valuation) (sort : KoreSort) (cs : List (List Literal)) → AllByRecursion (IsSaidClause g v sort) cs → SayInAnyOrder Anything g v sort cs
say_in_any_order g v sort cs said = λ c d there moved w. clause_said g v sort d (all_moved (λ l. IsSaid g v sort l.atom) c d moved (at_member (IsSaidClause g v sort) cs c said there))

-- what holds of each literal holds of each in the arranged clauses
of_arranged : (P : Literal → Type 0) (g : KoreSignature) (sort : KoreSort) (cs ds : List (List Literal)) → AllByRecursion (AllByRecursion P) cs → AreArranged g sort cs ds → AllByRecursion (AllByRecursion P) ds
of_arranged P g sort cs ds all a = of_members (AllByRecursion P) ds (λ d there.
    let from = a.from_these d there in
    all_moved P from.0 d from.2.same (at_member (AllByRecursion P) cs from.0 all from.1))

arranged_true : (g : KoreSignature) (v : Valuation) (sort : KoreSort) (cs ds : List (List Literal)) → AreArranged g sort cs ds → AreTrue g v cs → AreTrue g v ds
arranged_true g v sort cs ds a all = of_members (IsClauseTrue g v) ds (λ d there.
    let from = a.from_these d there in
    clause_moved g v from.0 d from.2.same (at_member (IsClauseTrue g v) cs from.0 all from.1))

-- of clauses that are written alike both are true
these_true : (W : KorePattern → Type 0) (g : KoreSignature) (v : Valuation) (sort : KoreSort) (cs ds : List (List Literal)) → SayInAnyOrder W g v sort cs → AllByRecursion (λ d. W (written_clause g sort d)) ds → AreArranged g sort cs ds → AreTrue g v ds → AreTrue g v cs
these_true W g v sort cs ds say well a all = of_members (IsClauseTrue g v) cs (λ c there.
    let by = a.all_of_these c there in
    let alike = among_images (written_clause g sort) ds (written_clause g sort by.0) by.2 in
    let from = a.from_these alike.0 alike.1 in
    let here = at_member (λ d. W (written_clause g sort d)) ds alike.0 well alike.1 in
    let written = (say from.0 alike.0 from.1 from.2.same here).1 (at_member (IsClauseTrue g v) ds alike.0 all alike.1) in
    let holds = (say c by.0 there by.1.same (subst W alike.2 here)).0 (subst (IsTrueUnder g v) alike.2 written) in
    clause_moved g v by.0 c (IsPermutation-sym c by.0 by.1.same) holds)

pub arranged_say : (g : KoreSignature) (v : Valuation) (sort : KoreSort) (cs ds : List (List Literal)) → AllByRecursion (IsSaidClause g v sort) cs → AreArranged g sort cs ds → AreTrue g v ds ↔ AreTrue g v cs
arranged_say g v sort cs ds said a = (these_true Anything g v sort cs ds (say_in_any_order g v sort cs said) (of_members (λ d. ⊤) ds (λ d there. tt)) a, arranged_true g v sort cs ds a)

pub written_say : (g : KoreSignature) (v : Valuation) (sort : KoreSort) (cs ds : List (List Literal)) → AllByRecursion (IsSaidClause g v sort) cs → AreArranged g sort cs ds →
    AllTrueUnder g v (written_clauses g sort ds) ↔ AreTrue g v cs
written_say g v sort cs ds said a =
    let told = clauses_said g v sort ds (of_arranged (λ l. IsSaid g v sort l.atom) g sort cs ds said a) in
    let both = arranged_say g v sort cs ds said a in
    ((λ h. both.0 (told.0 h)), (λ h. told.1 (both.1 h)))

-- ---- states

arranged_sorted : (g : KoreSignature) (s : SymbolicState) (ds : List (List Literal)) → IsSortedState g s → AreArranged g s.sort s.clauses ds → IsSortedState g (with_clauses s ds)
arranged_sorted g s ds w a = record {
  term = w.term;
  term_at_hand = w.term_at_hand;
  literals = of_arranged (IsSortedLiteral g s.variables) g s.sort s.clauses ds w.literals a;
  one_sort_each = w.one_sort_each;
}

pub each_well : (g : KoreSignature) (sort : KoreSort) (ds : List (List Literal)) → InjectsWell g (all_subpatterns (written_clauses g sort ds)) → AllByRecursion (λ d. Well g (written_clause g sort d)) ds
each_well g sort [] i = tt
each_well g sort (d ∷ ds) i =
    let these = subpatterns (written_clause g sort d) in
    let others = all_subpatterns (written_clauses g sort ds) in
    (injects_left g these others i, each_well g sort ds (injects_right g these others i))

-- inj is what it should be in the clauses of what is written
clauses_well : (g : KoreSignature) (s : SymbolicState) (cs : List (List Literal)) → s.clauses ≡ cs → Well g (written_state g s) → InjectsWell g (all_subpatterns (written_clauses g s.sort cs))
clauses_well g s [] e j = inr refl
clauses_well g s (c ∷ cs) e j =
    let term = subpatterns (written_term g s.sort s.term) in
    let others = all_subpatterns (written_clauses g s.sort (c ∷ cs)) in
    let p = conjunction s.sort (next_pattern (written_term g s.sort s.term) (written_clauses g s.sort (c ∷ cs))) in
    injects_right g term others (well_behind g p (term ++ others) (subst (Well g) (several s e) j))
  where
    several : (s : SymbolicState) → s.clauses ≡ c ∷ cs → written_state g s ≡ conjunction s.sort (next_pattern (written_term g s.sort s.term) (written_clauses g s.sort (c ∷ cs)))
    several s e = rw e refl

pub arranged_state_says : (g : KoreSignature) (v : Valuation) (s : SymbolicState) (ds : List (List Literal)) (u : Value) → InjectsWhereItStands g (written_state g (with_clauses s ds)) → GivesSorts g v s.variables →
    IsSortedState g s → AllByRecursion (AllByRecursion (λ l. IsWrittenAtom g l.atom)) s.clauses → AreArranged g s.sort s.clauses ds → IsInstance g v (written_state g (with_clauses s ds)) u ↔ IsStateInstance g v s u
arranged_state_says g v s ds u i h w o a =
    let sorted = arranged_sorted g s ds w a in
    let say : SayInAnyOrder (Well g) g v s.sort s.clauses = λ c d there moved j. clause_says g v s d j h
    (all_moved (IsSortedLiteral g s.variables) c d moved (at_member (AllByRecursion (IsSortedLiteral g s.variables)) s.clauses c w.literals there))
    (all_moved (λ l. IsWrittenAtom g l.atom) c d moved (at_member (AllByRecursion (λ l. IsWrittenAtom g l.atom)) s.clauses c o there)) in
    let well = each_well g s.sort ds (clauses_well g (with_clauses s ds) ds refl i) in
    let both = written_state_says g v (with_clauses s ds) u i h sorted (of_arranged (λ l. IsWrittenAtom g l.atom) g s.sort s.clauses ds o a) in (
      (λ m. let t = both.0 m in record { term = t.term; clauses = these_true (Well g) g v s.sort s.clauses ds say well a t.clauses }),
      (λ m. both.1 (record { term = m.term; clauses = arranged_true g v s.sort s.clauses ds a m.clauses })),
    )

-- inj is what it should be
pub state_says : (g : KoreSignature) (v : Valuation) (s : SymbolicState) (ds : List (List Literal)) (u : Value) → meaning_of g injection_name ≡ injection → GivesSorts g v s.variables →
    IsSortedState g s → AllByRecursion (AllByRecursion (λ l. IsWrittenAtom g l.atom)) s.clauses → AreArranged g s.sort s.clauses ds → IsInstance g v (written_state g (with_clauses s ds)) u ↔ IsStateInstance g v s u
state_says g v s ds u i = arranged_state_says g v s ds u (inl i)

-- ---- states that are written in code

sound_predicate : (g : KoreSignature) (a : Atom) → IsSoundAtom g a → IsPredicateAtom a
sound_predicate g (same s t u) o = tt
sound_predicate g (has_head x test) o = tt
sound_predicate g (quoted p rs) o = o.0

pub sound_predicates : (g : KoreSignature) (c : List Literal) → AllByRecursion (λ l. IsSoundAtom g l.atom) c → AllByRecursion (λ l. IsPredicateAtom l.atom) c
sound_predicates g [] o = tt
sound_predicates g (l ∷ c) o = (sound_predicate g l.atom o.0, sound_predicates g c o.1)

all_sound_predicates : (g : KoreSignature) (cs : List (List Literal)) → AllByRecursion (AllByRecursion (λ l. IsSoundAtom g l.atom)) cs → AllByRecursion (AllByRecursion (λ l. IsPredicateAtom l.atom)) cs
all_sound_predicates g [] o = tt
all_sound_predicates g (c ∷ cs) o = (sound_predicates g c o.0, all_sound_predicates g cs o.1)

pub with_room : (g : KoreSignature) (c : List Literal) → AllByRecursion (λ l. IsSoundAtom g l.atom) c → HasRoomClause g c → AllByRecursion (λ l. IsWrittenAtom g l.atom) c
with_room g [] o m = tt
with_room g (l ∷ c) o m = ((o.0, m.0), with_room g c o.1 m.1)

all_with_room : (g : KoreSignature) (cs : List (List Literal)) → AllByRecursion (AllByRecursion (λ l. IsSoundAtom g l.atom)) cs → AllByRecursion (HasRoomClause g) cs → AllByRecursion (AllByRecursion (λ l. IsWrittenAtom g l.atom)) cs
all_with_room g [] o m = tt
all_with_room g (c ∷ cs) o m = (with_room g c o.0 m.0, all_with_room g cs o.1 m.1)

abbrev IsWrittenFor : KoreSignature → SymbolicState → KorePattern → Type 0
IsWrittenFor g s p = (ds : List (List Literal)) × AreArranged g s.sort s.clauses ds × (p ≡ written_state g (with_clauses s ds))

pub has_instances : {P E : Type 0} (seen : P → KorePattern) (g : KoreSignature) (s : SymbolicState) (r : Result P E) → IfOk r (λ x. IsWrittenFor g s (seen x)) → AllByRecursion (HasRoomClause g) s.clauses →
    IfOk r (λ x. InjectsWhereItStands g (seen x)) → IfOk r (λ x. IsSoundState g s → (v : Valuation) (u : Value) → GivesSorts g v s.variables → IsInstance g v (seen x) u ↔ IsStateInstance g v s u)
has_instances seen g s (Ok x) (ds, a, e) m i = λ k v u h. subst (λ p. IsInstance g v p u ↔ IsStateInstance g v s u) (sym e) (arranged_state_says g v s ds u (subst (InjectsWhereItStands g) e i) h k.sorted (all_with_room g s.clauses k.sound m) a)
has_instances seen g s (Err e) w m i = tt

pub has_variables : {P E : Type 0} (seen : P → KorePattern) (g : KoreSignature) (s : SymbolicState) (r : Result P E) → IfOk r (λ x. IsWrittenFor g s (seen x)) → IfOk r (λ x. IsSoundState g s → AreAtHand (free_variables (seen x)) s.variables)
has_variables seen g s (Ok x) (ds, a, e) = λ k. subst (λ p. AreAtHand (free_variables p) s.variables) (sym e)
    (state_of_these g (with_clauses s ds) (arranged_sorted g s ds k.sorted a) (of_arranged (λ l. IsPredicateAtom l.atom) g s.sort s.clauses ds (all_sound_predicates g s.clauses k.sound) a))
has_variables seen g s (Err e) w = tt
