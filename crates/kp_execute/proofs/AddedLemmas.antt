-- What is written for the clauses that were added to a part is a predicate that says what they say.
use Rattle.std.proofs.Common.{◌≡◌, ◌↔◌, refl, sym, ap, ◌∙◌, subst, true, List, [], ◌∷◌, IsPermutation}
use Rattle.std.specs.Prelude.{unwrap_or}
use Rattle.std.specs.List.{AllByRecursion, Contains}
use Rattle.std.proofs.lemmas.List.Sorted.{IsPermutation-sym}
use Rattle.kp_kore.specs.Syntax.{KoreSort, KorePattern, top, conjunction}
use Rattle.kp_kore.specs.Parts.{SortedName, free_variables, all_free_variables, all_subpatterns}
use Rattle.kp_kore.specs.Signature.{KoreSignature}
use Rattle.kp_kore.specs.Value.{truth}
use Rattle.kp_kore.specs.Instance.{Valuation, GivesSorts, IsTrueUnder, AllTrueUnder, is_predicate}
use Rattle.kp_kore.proofs.ListLemmas.{all_append}
use Rattle.kp_kore.proofs.TurnLemmas.{of_member, each_member}
use Rattle.kp_symbolic.specs.Terms.{known}
use Rattle.kp_symbolic.specs.States.{Literal, SymbolicState, IsClauseTrue, AreTrue}
use Rattle.kp_symbolic.specs.WellFormed.{AreAtHand}
use Rattle.kp_symbolic.specs.Writing.{written_clause, written_clauses, written_predicate}
use Rattle.kp_symbolic_laws.specs.Runs.{IsSortedLiteral, HasRoomAtom, HasRoomClause, IsPredicateAtom, IsSoundAtom}
use Rattle.kp_symbolic_laws.proofs.WrittenForms.{clause_predicate, clauses_are_predicates}
use Rattle.kp_symbolic_laws.proofs.WrittenStates.{clause_says}
use Rattle.kp_symbolic_laws.proofs.WrittenUnder.{Well, well_behind}
use Rattle.kp_symbolic_laws.proofs.WrittenVariables.{written_of_these}
use Rattle.kp_symbolic_laws.proofs.ReadStates.{all_moved}
use Rattle.kp_case_laws.specs.Parts.{StatePart}
use Rattle.kp_case_laws.specs.NextStates.{IsPredicateOf}
use Rattle.kp_outward.specs.Arranged.{AreArranged}
use Rattle.kp_outward.specs.Errors.{InjectsIfThere}
use Rattle.kp_outward.proofs.LawLemmas.{each_well, among_images, clause_moved, with_room, sound_predicates}
use Rattle.kp_execute.specs.Written.{IsAddedWritten}

-- ---- literals that are written right

-- the clauses have the sorts of their places, are of variables at hand, and each literal is written right
pub record CanBeAdded (g : KoreSignature) (hand : List SortedName) (cs : List (List Literal)) : Type 0 where
  pub sorted : AllByRecursion (AllByRecursion (IsSortedLiteral g hand)) cs
  pub sound : AllByRecursion (AllByRecursion (λ l. IsSoundAtom g l.atom)) cs

-- and so are those that were added to the part
abbrev pub CanBeTold : KoreSignature → StatePart → Type 0
CanBeTold g p = CanBeAdded g p.state.variables p.added

-- a clause that can be written: sorted, sound, with room
pub record CanBeClause (g : KoreSignature) (hand : List SortedName) (c : List Literal) : Type 0 where
  pub sorted : AllByRecursion (IsSortedLiteral g hand) c
  pub sound : AllByRecursion (λ l. IsSoundAtom g l.atom) c
  pub room : HasRoomClause g c

pub can_be : (g : KoreSignature) (hand : List SortedName) (cs : List (List Literal)) → CanBeAdded g hand cs → AllByRecursion (HasRoomClause g) cs → AllByRecursion (CanBeClause g hand) cs
can_be g hand [] a m = tt
can_be g hand (c ∷ cs) a m = (record { sorted = a.sorted.0; sound = a.sound.0; room = m.0 }, can_be g hand cs (record { sorted = a.sorted.1; sound = a.sound.1 }) m.1)

can_be_moved : (g : KoreSignature) (hand : List SortedName) (c d : List Literal) → IsPermutation c d → CanBeClause g hand c → CanBeClause g hand d
can_be_moved g hand c d moved k = record {
  sorted = all_moved (IsSortedLiteral g hand) c d moved k.sorted;
  sound = all_moved (λ l. IsSoundAtom g l.atom) c d moved k.sound;
  room = all_moved (λ l. HasRoomAtom g l.atom) c d moved k.room;
}

pub arranged_can_be : (g : KoreSignature) (hand : List SortedName) (sort : KoreSort) (cs ds : List (List Literal)) → AllByRecursion (CanBeClause g hand) cs → AreArranged g sort cs ds → AllByRecursion (CanBeClause g hand) ds
arranged_can_be g hand sort cs ds all a = each_member (CanBeClause g hand) ds (λ d there.
    let from = a.from_these d there in
    can_be_moved g hand from.0 d from.2.same (of_member (CanBeClause g hand) cs from.0 all from.1))

-- ---- one clause

-- a state of this sort and these variables
abbrev of_hand : KoreSort → List SortedName → SymbolicState
of_hand sort hand = record { term = known (truth true); sort = sort; clauses = []; variables = hand }

clause_right : (g : KoreSignature) (v : Valuation) (hand : List SortedName) (sort : KoreSort) (d : List Literal) → CanBeClause g hand d → GivesSorts g v hand → Well g (written_clause g sort d) → IsTrueUnder g v (written_clause g sort d) ↔ IsClauseTrue g v d
clause_right g v hand sort d k h w = clause_says g v (of_hand sort hand) d w h k.sorted (with_room g d k.sound k.room)

-- ---- clauses in order

arranged_true : (g : KoreSignature) (v : Valuation) (sort : KoreSort) (cs ds : List (List Literal)) → AreArranged g sort cs ds → AreTrue g v cs → AreTrue g v ds
arranged_true g v sort cs ds a all = each_member (IsClauseTrue g v) ds (λ d there.
    let from = a.from_these d there in
    clause_moved g v from.0 d from.2.same (of_member (IsClauseTrue g v) cs from.0 all from.1))

-- of clauses that are written alike both are true
these_true : (g : KoreSignature) (v : Valuation) (hand : List SortedName) (sort : KoreSort) (cs ds : List (List Literal)) → AllByRecursion (CanBeClause g hand) cs → GivesSorts g v hand → AllByRecursion (λ d. Well g (written_clause g sort d)) ds → AreArranged g sort cs ds → AreTrue g v ds → AreTrue g v cs
these_true g v hand sort cs ds can h well a all = each_member (IsClauseTrue g v) cs (λ c there.
    let by = a.all_of_these c there in
    let alike = among_images (written_clause g sort) ds (written_clause g sort by.0) by.2 in
    let here = of_member (λ d. Well g (written_clause g sort d)) ds alike.0 well alike.1 in
    let first = of_member (CanBeClause g hand) ds alike.0 (arranged_can_be g hand sort cs ds can a) alike.1 in
    let second = can_be_moved g hand c by.0 by.1.same (of_member (CanBeClause g hand) cs c can there) in
    let written = (clause_right g v hand sort alike.0 first h here).1 (of_member (IsClauseTrue g v) ds alike.0 all alike.1) in
    let holds = (clause_right g v hand sort by.0 second h (subst (Well g) alike.2 here)).0 (subst (IsTrueUnder g v) alike.2 written) in
    clause_moved g v by.0 c (IsPermutation-sym c by.0 by.1.same) holds)

all_right : (g : KoreSignature) (v : Valuation) (hand : List SortedName) (sort : KoreSort) (ds : List (List Literal)) → AllByRecursion (CanBeClause g hand) ds → GivesSorts g v hand → AllByRecursion (λ d. Well g (written_clause g sort d)) ds → AllTrueUnder g v (written_clauses g sort ds) ↔ AreTrue g v ds
all_right g v hand sort [] can h well = ((λ m. tt), (λ m. tt))
all_right g v hand sort (d ∷ ds) can h well =
    let one = clause_right g v hand sort d can.0 h well.0 in
    let others = all_right g v hand sort ds can.1 h well.1 in
    ((λ m. (one.0 m.0, others.0 m.1)), (λ m. (one.1 m.0, others.1 m.1)))

-- ---- the predicate

abbrev pub predicate_of : KoreSignature → KoreSort → List (List Literal) → KorePattern
predicate_of g sort ds = unwrap_or (written_predicate g sort ds) (top sort)

all_well : (g : KoreSignature) (sort : KoreSort) (ds : List (List Literal)) → InjectsIfThere g (written_predicate g sort ds) → AllByRecursion (λ d. Well g (written_clause g sort d)) ds
all_well g sort [] i = tt
all_well g sort (c ∷ []) i = (i, tt)
all_well g sort (c ∷ d ∷ ds) i =
    let ps = written_clauses g sort (c ∷ d ∷ ds) in
    each_well g sort (c ∷ d ∷ ds) (well_behind g (conjunction sort ps) (all_subpatterns ps) i)

predicate_right : (g : KoreSignature) (v : Valuation) (hand : List SortedName) (sort : KoreSort) (ds : List (List Literal)) → AllByRecursion (CanBeClause g hand) ds → GivesSorts g v hand → AllByRecursion (λ d. Well g (written_clause g sort d)) ds → IsTrueUnder g v (predicate_of g sort ds) ↔ AreTrue g v ds
predicate_right g v hand sort [] can h well = ((λ m. tt), (λ m. tt))
predicate_right g v hand sort (c ∷ []) can h well = let one = clause_right g v hand sort c can.0 h well.0 in ((λ m. (one.0 m, tt)), (λ m. one.1 m.0))
predicate_right g v hand sort (c ∷ d ∷ ds) can h well = all_right g v hand sort (c ∷ d ∷ ds) can h well

clauses_of_these : (g : KoreSignature) (hand : List SortedName) (sort : KoreSort) (ds : List (List Literal)) → AllByRecursion (CanBeClause g hand) ds → AreAtHand (all_free_variables (written_clauses g sort ds)) hand
clauses_of_these g hand sort [] can = tt
clauses_of_these g hand sort (d ∷ ds) can = all_append (Contains hand) (free_variables (written_clause g sort d)) (all_free_variables (written_clauses g sort ds)) (written_of_these g (of_hand sort hand) d can.0.sorted (sound_predicates g d can.0.sound)) (clauses_of_these g hand sort ds can.1)

predicate_of_these : (g : KoreSignature) (hand : List SortedName) (sort : KoreSort) (ds : List (List Literal)) → AllByRecursion (CanBeClause g hand) ds → AreAtHand (free_variables (predicate_of g sort ds)) hand
predicate_of_these g hand sort [] can = tt
predicate_of_these g hand sort (c ∷ []) can = written_of_these g (of_hand sort hand) c can.0.sorted (sound_predicates g c can.0.sound)
predicate_of_these g hand sort (c ∷ d ∷ ds) can = clauses_of_these g hand sort (c ∷ d ∷ ds) can

all_predicates : (g : KoreSignature) (hand : List SortedName) (ds : List (List Literal)) → AllByRecursion (CanBeClause g hand) ds → AllByRecursion (AllByRecursion (λ l. IsPredicateAtom l.atom)) ds
all_predicates g hand [] can = tt
all_predicates g hand (d ∷ ds) can = (sound_predicates g d can.0.sound, all_predicates g hand ds can.1)

pub predicate_form : (g : KoreSignature) (hand : List SortedName) (sort : KoreSort) (ds : List (List Literal)) → AllByRecursion (CanBeClause g hand) ds → is_predicate (predicate_of g sort ds) ≡ true
predicate_form g hand sort [] can = refl
predicate_form g hand sort (c ∷ []) can = clause_predicate g sort c (sound_predicates g c can.0.sound)
predicate_form g hand sort (c ∷ d ∷ ds) can = clauses_are_predicates g sort (c ∷ d ∷ ds) (all_predicates g hand (c ∷ d ∷ ds) can)

-- ---- what was added to a part

pub record SaysAdded (g : KoreSignature) (q : KorePattern) (p : StatePart) : Type 0 where
  pub says : IsPredicateOf g q p
  pub is_predicate : is_predicate q ≡ true

pub says_clauses : (g : KoreSignature) (hand : List SortedName) (sort : KoreSort) (cs ds : List (List Literal)) → AllByRecursion (CanBeClause g hand) cs → AreArranged g sort cs ds → InjectsIfThere g (written_predicate g sort ds) → (v : Valuation) → GivesSorts g v hand → IsTrueUnder g v (predicate_of g sort ds) ↔ AreTrue g v cs
says_clauses g hand sort cs ds can a i v h =
    let well = all_well g sort ds i in
    let both = predicate_right g v hand sort ds (arranged_can_be g hand sort cs ds can a) h well in
    ((λ m. these_true g v hand sort cs ds can h well a (both.0 m)), (λ m. both.1 (arranged_true g v sort cs ds a m)))

added_written : (g : KoreSignature) (p : StatePart) (ds : List (List Literal)) → AllByRecursion (CanBeClause g p.state.variables) p.added → AreArranged g p.state.sort p.added ds → InjectsIfThere g (written_predicate g p.state.sort ds) → SaysAdded g (predicate_of g p.state.sort ds) p
added_written g p ds can a i =
    let hand = p.state.variables in
    let here = arranged_can_be g hand p.state.sort p.added ds can a in
    record {
      says = record { at_hand = predicate_of_these g hand p.state.sort ds here; says = says_clauses g hand p.state.sort p.added ds can a i };
      is_predicate = predicate_form g hand p.state.sort ds here;
    }

pub added_says : (g : KoreSignature) (p : StatePart) (q : KorePattern) → CanBeTold g p → IsAddedWritten g p.state.sort p.added q → SaysAdded g q p
added_says g p q told w =
    let m = w.written in
    subst (λ x. SaysAdded g x p) (sym (w.is ∙ ap (λ o. unwrap_or o (top p.state.sort)) m.is))
    (added_written g p m.arranged (can_be g p.state.variables p.added told m.room) m.are_arranged (subst (InjectsIfThere g) m.is m.injects))
