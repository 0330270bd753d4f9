-- What is found of states, parts and goals.
use Rattle.std.specs.Prelude.{false, List, Option, Vec, Result, Ok, Err, IfOk}
use Rattle.std.specs.List.{AllByRecursion, Contains}
use Rattle.std.proofs.Common.{◌≡◌, sym, subst, inl, inr, [], ◌∷◌, ◌++◌, Some, None}
use Rattle.std.specs.declared.alloc.Global.{Global}
use Rattle.kp_kore.specs.Signature.{KoreSignature}
use Rattle.kp_kore.proofs.TurnLemmas.{each_member}
use Rattle.kp_symbolic.specs.States.{Literal, SymbolicState}
use Rattle.kp_symbolic.specs.Solving.{Solving, negated}
use Rattle.kp_symbolic.specs.Terms.{term_instance}
use Rattle.kp_symbolic.specs.Verdicts as verdicts
use Rattle.kp_symbolic.specs.View.{clauses_view}
use Rattle.kp_symbolic_laws.specs.Kept.{CanBeWritten}
use Rattle.kp_symbolic_laws.specs.Runs.{OfEachKept}
use Rattle.kp_symbolic_laws.specs.Safe.{IsSafe}
use Rattle.kp_satisfiability.specs.Answers.{IsRightAnswer, IsToldAs, IsWeighedAs}
use Rattle.kp_satisfiability.specs.declared.verdict.Verdict.{Verdict}
use Rattle.kp_satisfiability.specs.declared.verdict.Verdict.TheVariants as told
use Rattle.kp_satisfiability.specs.Read.{HasSortedClauses}
use Rattle.kp_limits.specs.declared.weight.Weighed.{Weighed}
use Rattle.kp_symbolic.specs.declared.clause.Clause.{Clause}
use Rattle.kp_case_laws.specs.Parts.{StatePart, whole, with_clauses}
use Rattle.kp_unify.specs.Narrowed.{NumberedPart}
use Rattle.kp_step.proofs.AnswerLemmas.{says_some, says_none}
use Rattle.kp_step.proofs.SettledLemmas.{known_by_solved}
use Rattle.kp_step.specs.Laws.{CanBeDenied}
use Rattle.kp_step.proofs.Excluded.{both_right, opposite_right}
use Rattle.kp_step.proofs.OpenedWith.{Sound}
use Rattle.kp_step.specs.Conditions.{AreRight}
use Rattle.kp_case_laws.proofs.SortedParts.{sorted_with}
use Rattle.kp_symbolic.proofs.Distribution.{all_both, kept_are}
use Rattle.kp_symbolic.specs.Alike.{literals_same}
use Rattle.kp_goals.specs.Consequents.{Consequent}
use Rattle.kp_goals.specs.Exact.{IsRightClause}
use Rattle.kp_goals.specs.Goals.{is_unbound, without_goal, as_it_stands}
use Rattle.kp_implies.specs.Open.{IsGoalOpen}
use Rattle.kp_implies.specs.Steps.{IsSometimes, IsNever, IsLeft, IsOneOf, TellsState, TellsParts, TellsGoal, TellsGoals, IsGoalTrue, IsGoalLeft, not_given, not_decided, IsGoalAsked}
use Rattle.kp_implies.specs.declared.shown.Open.{Open}
use Rattle.kp_implies.specs.declared.parts.Found.{Found}
use Rattle.kp_implies.specs.declared.parts.Found.TheVariants as found
use Rattle.kp_implies.specs.declared.parts.FoundAmong.TheVariants as searched
use Rattle.kp_solving.specs.Further.{constrained}
use Rattle.kp_implies.proofs.GoalLaws.{of_hand_right}
use Rattle.kp_implies.proofs.PartLaws.{here, never_has}

-- ---- by the verdict

pub some_found : (g : KoreSignature) (s : SymbolicState) (v : Verdict) → IsRightAnswer g s v → v ≡ told.SomeValuation → IsSometimes g s
some_found g s v right e = let i = says_some g s v right e in record { valuation = i.valuation; sorts = i.sorts; are_true = i.met.clauses }

pub none_found : (g : KoreSignature) (s : SymbolicState) (v : Verdict) → IsRightAnswer g s v → v ≡ told.NoValuation → IsNever g s
none_found g s v right e some = says_none g s v right e some.valuation (term_instance g some.valuation s.term) some.sorts (here g s some.valuation some.are_true)

open_by : (g : KoreSignature) (s : SymbolicState) (cs : List (List Literal)) (w : Option Weighed) (shown : List (List Literal)) (o : Open) (h : Option verdicts.Weighed) → verdicts.IsRightVerdict g s (verdicts.undecided shown h) → shown ≡ cs → IsWeighedAs h w →
    ((h : Option verdicts.Weighed) → IsWeighedAs h w → verdicts.IsRightVerdict g s (verdicts.undecided cs h) → IsLeft g s o) → IsLeft g s o
open_by g s cs w shown o h right e weighed makes = makes h weighed (subst (λ z. verdicts.IsRightVerdict g s (verdicts.undecided z h)) e right)

open_of_told : (g : KoreSignature) (s : SymbolicState) (cs : Vec Clause Global) (w : Option Weighed) (o : Open) (d : verdicts.Verdict) → verdicts.IsRightVerdict g s d → IsToldAs d (told.Undecided cs w) →
    ((h : Option verdicts.Weighed) → IsWeighedAs h w → verdicts.IsRightVerdict g s (verdicts.undecided (clauses_view cs.items) h) → IsLeft g s o) → IsLeft g s o
open_of_told g s cs w o verdicts.some_valuation right is makes = absurd is
open_of_told g s cs w o verdicts.no_valuation right is makes = absurd is
open_of_told g s cs w o (verdicts.undecided shown h) right is makes = open_by g s (clauses_view cs.items) w shown o h right is.0 is.1 makes

pub open_found : (g : KoreSignature) (s : SymbolicState) (cs : Vec Clause Global) (w : Option Weighed) (v : Verdict) (o : Open) → IsRightAnswer g s v → v ≡ told.Undecided cs w →
    ((h : Option verdicts.Weighed) → IsWeighedAs h w → verdicts.IsRightVerdict g s (verdicts.undecided (clauses_view cs.items) h) → IsLeft g s o) → IsLeft g s o
open_found g s cs w v o right e makes = let r = subst (IsRightAnswer g s) e right in open_of_told g s cs w o r.verdict r.right r.is_told makes

-- ---- with equations solved

pub solved_some : (g : KoreSignature) (p s : SymbolicState) → OfEachKept g (CanBeWritten g) p → Solving g p s → IsSafe g p → IsSometimes g s → IsSometimes g p
solved_some g p s kept solving safe some =
    let i = (known_by_solved g p s kept solving safe).some (record { valuation = some.valuation; configuration = term_instance g some.valuation s.term; sorts = some.sorts; met = here g s some.valuation some.are_true }) in
    record { valuation = i.valuation; sorts = i.sorts; are_true = i.met.clauses }

pub solved_none : (g : KoreSignature) (p s : SymbolicState) → OfEachKept g (CanBeWritten g) p → Solving g p s → IsSafe g p → IsNever g s → IsNever g p
solved_none g p s kept solving safe never some = (known_by_solved g p s kept solving safe).none (never_has g (whole s) never) some.valuation (term_instance g some.valuation p.term) some.sorts (here g p some.valuation some.are_true)

pub solved_sorted : (g : KoreSignature) (p s : SymbolicState) → OfEachKept g (CanBeWritten g) p → Solving g p s → IsSafe g p → HasSortedClauses g s
solved_sorted g p s kept solving safe = (known_by_solved g p s kept solving safe).sorted

-- ---- a goal

pub goal_found : (g : KoreSignature) (k : Consequent) (p : StatePart) (c : List Literal) (f : Found) → is_unbound k.bound c ≡ false → CanBeDenied g p.state.sort (c ∷ []) → TellsState g (without_goal g p c).state f → TellsGoal g k p c f
goal_found g k p c found.Instance free denied h = record { of_hand = free; denied = denied; some = h }
goal_found g k p c found.Nothing free denied h = record { of_hand = free; denied = denied; never = h }
goal_found g k p c (found.Undecided o) free denied h = not_decided (without_goal g p c).state free as_it_stands h

pub left_is_open : (g : KoreSignature) (k : Consequent) (p : StatePart) (c : List Literal) (o : Open) → IsGoalLeft g k p c o → IsGoalOpen g k p c
left_is_open g k p c o (not_given e shown) = inl e
left_is_open g k p c o (not_decided s e asked left) = inr (s, clauses_view o.shown.items, left.over, asked, left.right)

-- ---- one after the other

-- what was found so far of parts, these being left
abbrev pub PartsSoFar : KoreSignature → List NumberedPart → List NumberedPart → Option Open → Type 0
PartsSoFar g all rest None = AllByRecursion (λ q. IsNever g q.part.state) rest → AllByRecursion (λ q. IsNever g q.part.state) all
PartsSoFar g all rest (Some o) = (q : NumberedPart) × Contains all q × IsLeft g q.part.state o

pub parts_begin : (g : KoreSignature) (all : List NumberedPart) → PartsSoFar g all all None
parts_begin g all h = h

pub parts_next : (g : KoreSignature) (all rest : List NumberedPart) (q : NumberedPart) (o : Option Open) → IsNever g q.part.state → PartsSoFar g all (q ∷ rest) o → PartsSoFar g all rest o
parts_next g all rest q None never h = λ later. h (never, later)
parts_next g all rest q (Some o) never h = h

pub parts_open : (g : KoreSignature) (all rest : List NumberedPart) (q : NumberedPart) (o : Option Open) (next : Open) (r : Option Open) → Contains all q → IsLeft g q.part.state next → IsOneOf o next r → PartsSoFar g all (q ∷ rest) o → PartsSoFar g all rest r
parts_open g all rest q None next r among left is h = subst (PartsSoFar g all rest) (sym is) (q, among, left)
parts_open g all rest q (Some first) next r among left is h = elim is [ inl e ↦ subst (PartsSoFar g all rest) (sym e) h | inr e ↦ subst (PartsSoFar g all rest) (sym e) (q, among, left) ]

pub parts_end : (g : KoreSignature) (all : List NumberedPart) (o : Option Open) → PartsSoFar g all [] o → TellsParts g all (searched.Rest o)
parts_end g all None h = h tt
parts_end g all (Some o) h = h

-- the same of goals
abbrev pub GoalsSoFar : KoreSignature → Consequent → StatePart → List (List Literal) → List (List Literal) → Option Open → Type 0
GoalsSoFar g k p all rest None = AllByRecursion (IsGoalTrue g k p) rest → AllByRecursion (IsGoalTrue g k p) all
GoalsSoFar g k p all rest (Some o) = (AllByRecursion (IsGoalAsked g k p) rest → AllByRecursion (IsGoalAsked g k p) all) × ((c : List Literal) × Contains all c × IsGoalLeft g k p c o)

-- those before are true or open
abbrev pub AskedSoFar : KoreSignature → Consequent → StatePart → List (List Literal) → List (List Literal) → Type 0
AskedSoFar g k p all rest = AllByRecursion (IsGoalAsked g k p) rest → AllByRecursion (IsGoalAsked g k p) all

pub goals_next : (g : KoreSignature) (k : Consequent) (p : StatePart) (all rest : List (List Literal)) (c : List Literal) (o : Option Open) → IsGoalTrue g k p c → GoalsSoFar g k p all (c ∷ rest) o → GoalsSoFar g k p all rest o
goals_next g k p all rest c None true' h = λ later. h (true', later)
goals_next g k p all rest c (Some o) true' h = (λ later. h.0 (inl true', later), h.1)

pub asked_next : (g : KoreSignature) (k : Consequent) (p : StatePart) (all rest : List (List Literal)) (c : List Literal) → IsGoalAsked g k p c → AskedSoFar g k p all (c ∷ rest) → AskedSoFar g k p all rest
asked_next g k p all rest c is h = λ later. h (is, later)

pub goals_open : (g : KoreSignature) (k : Consequent) (p : StatePart) (all rest : List (List Literal)) (c : List Literal) (o : Option Open) (next : Open) (r : Option Open) → Contains all c → IsGoalLeft g k p c next → IsOneOf o next r → AskedSoFar g k p all (c ∷ rest) →
    GoalsSoFar g k p all (c ∷ rest) o → GoalsSoFar g k p all rest r
goals_open g k p all rest c None next r among left is asked h = subst (GoalsSoFar g k p all rest) (sym is) (asked_next g k p all rest c (inr (left_is_open g k p c next left)) asked, (c, among, left))
goals_open g k p all rest c (Some first) next r among left is asked h = elim is [
  | inl e ↦ subst (GoalsSoFar g k p all rest) (sym e) (asked_next g k p all rest c (inr (left_is_open g k p c next left)) asked, h.1)
  | inr e ↦ subst (GoalsSoFar g k p all rest) (sym e) (asked_next g k p all rest c (inr (left_is_open g k p c next left)) asked, (c, among, left))
]

pub goals_end : (g : KoreSignature) (k : Consequent) (p : StatePart) (all : List (List Literal)) (o : Option Open) → GoalsSoFar g k p all [] o → TellsGoals g k p all (searched.Rest o)
goals_end g k p all None h = h tt
goals_end g k p all (Some o) h = (h.0 tt, h.1)

-- with what is known of those that are left
abbrev pub PartsAt : KoreSignature → List NumberedPart → List NumberedPart → Option Open → Type 0
PartsAt g all rest o = AllByRecursion (λ q. HasSortedClauses g q.part.state) rest × AllByRecursion (Contains all) rest × PartsSoFar g all rest o

pub parts_less : (g : KoreSignature) (all rest : List NumberedPart) (q : NumberedPart) (o : Option Open) → IsNever g q.part.state → PartsAt g all (q ∷ rest) o → PartsAt g all rest o
parts_less g all rest q o never h = (h.0.1, h.1.1, parts_next g all rest q o never h.2)

pub parts_more : (g : KoreSignature) (all rest : List NumberedPart) (q : NumberedPart) (o : Option Open) (next : Open) (r : Option Open) → IsLeft g q.part.state next → IsOneOf o next r → PartsAt g all (q ∷ rest) o → PartsAt g all rest r
parts_more g all rest q o next r left is h = (h.0.1, h.1.1, parts_open g all rest q o next r h.1.0 left is h.2)

pub all_among : {X : Type 0} (xs : List X) → AllByRecursion (Contains xs) xs
all_among xs = each_member (Contains xs) xs (λ x i. i)

abbrev pub GoalsAt : KoreSignature → Consequent → StatePart → List (List Literal) → List (List Literal) → Option Open → Type 0
GoalsAt g k p all rest o = AllByRecursion (IsRightClause g (p.state.variables ++ k.bound)) rest × AllByRecursion (Contains all) rest × AskedSoFar g k p all rest × GoalsSoFar g k p all rest o

pub goals_less : (g : KoreSignature) (k : Consequent) (p : StatePart) (all rest : List (List Literal)) (c : List Literal) (o : Option Open) → IsGoalTrue g k p c → GoalsAt g k p all (c ∷ rest) o → GoalsAt g k p all rest o
goals_less g k p all rest c o true' h = (h.0.1, h.1.1, asked_next g k p all rest c (inl true') h.2, goals_next g k p all rest c o true' h.3)

pub goals_more : (g : KoreSignature) (k : Consequent) (p : StatePart) (all rest : List (List Literal)) (c : List Literal) (o : Option Open) (next : Open) (r : Option Open) → IsGoalLeft g k p c next → IsOneOf o next r → GoalsAt g k p all (c ∷ rest) o → GoalsAt g k p all rest r
goals_more g k p all rest c o next r left is h = (h.0.1, h.1.1, asked_next g k p all rest c (inr (left_is_open g k p c next left)) h.2, goals_open g k p all rest c o next r h.1.0 left is h.2 h.3)

-- ---- the part without a goal

with_right_clauses : (g : KoreSignature) (s : SymbolicState) (cs : List (List Literal)) → IsSafe g s → AreRight g s.variables cs → IsSafe g (with_clauses (whole s) cs).state
with_right_clauses g s cs safe right =
    let both = both_right g s.variables cs right in
    record {
      sorted = (sorted_with g (whole s) cs (record { state = safe.sorted; added = tt }) both.0).state;
      formed = record { term = safe.formed.term; literals = kept_are literals_same (AllByRecursion (Sound g)) [] 0 (s.clauses ++ cs) (all_both (AllByRecursion (Sound g)) s.clauses cs safe.formed.literals both.1) };
    }

pub without_right : (g : KoreSignature) (p : StatePart) (c : List Literal) → IsSafe g p.state → IsRightClause g p.state.variables c → CanBeDenied g p.state.sort (c ∷ []) → IsSafe g (without_goal g p c).state
without_right g p c safe right denied = with_right_clauses g p.state (negated g p.state.sort (c ∷ [])) safe (opposite_right g p.state (c ∷ []) (right, tt) denied)

-- ---- handed on

pub when_left : {E : Type 0} (g : KoreSignature) (s : SymbolicState) (o : Open) (r : Result Found E) → IfOk r (λ f. IsSafe g s → IsLeft g s o → TellsState g s f) → (IsSafe g s → IsLeft g s o) → IfOk r (λ f. IsSafe g s → TellsState g s f)
when_left g s o (Ok f) h left = λ safe. h safe (left safe)
when_left g s o (Err e) h left = tt

goal_in : (g : KoreSignature) (k : Consequent) (p : StatePart) (c : List Literal) (q s : SymbolicState) (f : Found) → p.state ≡ s → q ≡ constrained s (negated g s.sort (c ∷ [])) → CanBeDenied g s.sort (c ∷ []) → (IsSafe g q → TellsState g q f) →
    is_unbound k.bound c ≡ false → IsSafe g s → IsRightClause g (s.variables ++ k.bound) c → TellsGoal g k p c f
goal_in g k p c q s f is = subst (λ z. q ≡ constrained z (negated g z.sort (c ∷ [])) → CanBeDenied g z.sort (c ∷ []) → (IsSafe g q → TellsState g q f) → is_unbound k.bound c ≡ false → IsSafe g z → IsRightClause g (z.variables ++ k.bound) c → TellsGoal g k p c f) is at
  where
    at : q ≡ constrained p.state (negated g p.state.sort (c ∷ [])) → CanBeDenied g p.state.sort (c ∷ []) → (IsSafe g q → TellsState g q f) → is_unbound k.bound c ≡ false → IsSafe g p.state → IsRightClause g (p.state.variables ++ k.bound) c → TellsGoal g k p c f
    at e denied h free safe right =
        goal_found g k p c f free denied (subst (λ z. IsSafe g z → TellsState g z f) e h (without_right g p c safe (of_hand_right g p.state.variables k.bound c free right) denied))

pub goal_when : {E : Type 0} (g : KoreSignature) (k : Consequent) (c : List Literal) (q s : SymbolicState) (r : Result Found E) → q ≡ constrained s (negated g s.sort (c ∷ [])) → CanBeDenied g s.sort (c ∷ []) → IfOk r (λ f. IsSafe g q → TellsState g q f) →
    IfOk r (λ f. (p : StatePart) → p.state ≡ s → is_unbound k.bound c ≡ false → IsSafe g s → IsRightClause g (s.variables ++ k.bound) c → TellsGoal g k p c f)
goal_when g k c q s (Ok f) e denied h = λ p is free safe right. goal_in g k p c q s f is e denied h free safe right
goal_when g k c q s (Err x) e denied h = tt

pub goal_free : {E : Type 0} (g : KoreSignature) (k : Consequent) (c : List Literal) (s : SymbolicState) (r : Result Found E) → is_unbound k.bound c ≡ false →
    IfOk r (λ f. (p : StatePart) → p.state ≡ s → is_unbound k.bound c ≡ false → IsSafe g s → IsRightClause g (s.variables ++ k.bound) c → TellsGoal g k p c f) →
    IfOk r (λ f. (p : StatePart) → p.state ≡ s → IsSafe g s → IsRightClause g (s.variables ++ k.bound) c → TellsGoal g k p c f)
goal_free g k c s (Ok f) free h = λ p is safe right. h p is free safe right
goal_free g k c s (Err x) free h = tt

-- a state's goals, as those of a part that has it
pub goals_at : (g : KoreSignature) (k : Consequent) (p : StatePart) (s : SymbolicState) (all rest : List (List Literal)) (o : Option Open) → p.state ≡ s →
    AllByRecursion (IsRightClause g (s.variables ++ k.bound)) rest × AllByRecursion (Contains all) rest × AskedSoFar g k p all rest × GoalsSoFar g k p all rest o → GoalsAt g k p all rest o
goals_at g k p s all rest o is h = (subst (λ z. AllByRecursion (IsRightClause g (z.variables ++ k.bound)) rest) (sym is) h.0, h.1, h.2, h.3)
