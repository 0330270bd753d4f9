-- What is answered of two sides, by what is found of their parts.
use Rattle.std.specs.Prelude.{ℕ, List, Option, Some, None, Result, Ok, Err, IfOk}
use Rattle.std.specs.List.{AllByRecursion}
use Rattle.std.proofs.Common.{◌≡◌, refl, sym, ◌∙◌, ap, subst, [], ◌++◌}
use Rattle.kp_kore.specs.Syntax.{Text, KorePattern, top, bottom}
use Rattle.kp_kore.specs.Signature.{KoreSignature}
use Rattle.kp_kore.specs.Rules.{top_binders}
use Rattle.kp_kore.specs.Implied.{not_valid, valid}
use Rattle.kp_kore.proofs.ListLemmas.{all_map}
use Rattle.kp_kore.proofs.TurnLemmas.{of_member}
use Rattle.kp_symbolic.specs.States.{Literal, SymbolicState}
use Rattle.kp_symbolic.specs.Shown.{wide_number, Undecided as Cause}
use Rattle.kp_symbolic.specs.Endings.{answered, what_is_undecided}
use Rattle.kp_symbolic_laws.specs.Runs.{HasOneSortEach}
use Rattle.kp_symbolic_laws.specs.Safe.{IsSafe}
use Rattle.kp_satisfiability.specs.Read.{HasSortedClauses}
use Rattle.kp_rules.specs.Skeletons.{Form, Forms, anything, nothing, any_of, one_of, fixed, built, no_forms, next_form}
use Rattle.kp_limits.specs.Wide.{WideCall, first_wide}
use Rattle.kp_case_laws.specs.Parts.{StatePart, whole}
use Rattle.kp_case_laws.specs.Courses.{form_variables, all_form_variables}
use Rattle.kp_unify.specs.Narrowed.{NumberedPart}
use Rattle.kp_unify.specs.Promises.{TellsMeeting}
use Rattle.kp_unify.specs.declared.part.Meeting.{Meeting}
use Rattle.kp_unify.specs.Way.{IsPartOn, IsMeetable, IsAllApart}
use Rattle.kp_step.proofs.AskedLemmas.{meetable}
use Rattle.kp_step.proofs.SortedLemmas.{sorted_clauses}
use Rattle.kp_goals.specs.Consequents.{Consequent, form_of_term, left_of}
use Rattle.kp_goals.specs.Exact.{IsRightClause}
use Rattle.kp_goals.specs.Goals.{IsAskedIn}
use Rattle.kp_goals.specs.Loosened.{loosened, all_loosened}
use Rattle.kp_implies.specs.Answers.{goal_state, in_state, in_goals}
use Rattle.kp_implies.specs.Printed.{told_of}
use Rattle.kp_implies.specs.Promises.{IsQuestion}
use Rattle.kp_implies.specs.Steps.{IsSometimes, IsNever, IsLeft, IsMet, IsUnmet, all_apart, TellsParts, TellsGoals, Concludes, IsAnswered, empty, unmet, by_part, by_goal, by_limit}
use Rattle.kp_implies.specs.Told.{IsToldAs, ShowsWide, TellsCause}
use Rattle.kp_implies.specs.declared.answer.Implication.{Implication}
use Rattle.kp_implies.specs.declared.answer.Implication.TheVariants.{NotValid, Valid, Vacuous, Undecided}
use Rattle.kp_implies.specs.declared.parts.FoundAmong.{FoundAmong}
use Rattle.kp_implies.specs.declared.parts.FoundAmong.TheVariants as searched
use Rattle.kp_implies.specs.declared.shown.Open.{Open}
use Rattle.kp_implies.proofs.GoalLaws.{asked_right}
use Rattle.kp_implies.proofs.Matching.{is_matched}

-- ---- handed on

ok_then : {A E : Type 0} (P Q : A → Type 0) (r : Result A E) → ((x : A) → P x → Q x) → IfOk r P → IfOk r Q
ok_then P Q (Ok x) f h = f x h
ok_then P Q (Err e) f h = tt

-- the clauses of the state itself are left open
pub own_here : {E : Type 0} (g : KoreSignature) (used : List Text) (s : SymbolicState) (k : Consequent) (o : Open) (r : Result Implication E) → IfOk r (λ a. (used : List Text) (k : Consequent) → IsLeft g s o → IsAnswered g used s k a) → IsLeft g s o → IfOk r (IsAnswered g used s k)
own_here g used s k o r h left = ok_then (λ a. (used : List Text) (k : Consequent) → IsLeft g s o → IsAnswered g used s k a) (IsAnswered g used s k) r (λ x f. f used k left) h

-- ---- not valid

pub unmet_here : (g : KoreSignature) (used : List Text) (s : SymbolicState) (k : Consequent) → IsSometimes g s → IsUnmet g s k → IsAnswered g used s k NotValid
unmet_here g used s k some un = record { answer = answered not_valid; is = unmet some un; is_told = tt }

-- no instance
pub vacuous_here : (g : KoreSignature) (used : List Text) (s : SymbolicState) (k : Consequent) → IsNever g s → IsAnswered g used s k Vacuous
vacuous_here g used s k never = record { answer = answered (valid (bottom s.sort) (top s.sort)); is = empty never; is_told = (s.sort, refl, refl) }

-- some part that the consequent's term doesn't meet has an instance
pub part_here : (g : KoreSignature) (used : List Text) (s : SymbolicState) (k : Consequent) (m : IsMet g used s k) → TellsParts g m.apart searched.Instance → IsAnswered g used s k NotValid
part_here g used s k m h = record { answer = answered not_valid; is = by_part m h.0 h.1 h.2; is_told = tt }

-- a goal is false somewhere
pub goal_here : (g : KoreSignature) (used : List Text) (s : SymbolicState) (k : Consequent) (m : IsMet g used s k) (goals : List (List Literal)) → IsAskedIn g k (told_of g k s) m.met.part goals → TellsGoals g k m.met.part goals searched.Instance → IsAnswered g used s k NotValid
goal_here g used s k m goals asked h = record { answer = answered not_valid; is = by_goal m goals h.0 asked h.1 h.2; is_told = tt }

-- ---- a number beyond 128 bits

wide_told : (cause : Cause) (r : Implication) → TellsCause cause r → IsToldAs (what_is_undecided cause) r
wide_told cause (Undecided u) h = h
wide_told cause NotValid h = absurd h
wide_told cause (Valid k) h = absurd h
wide_told cause Vacuous h = absurd h

wide_by : (g : KoreSignature) (used : List Text) (s : SymbolicState) (k : Consequent) (o : Option WideCall) (r : Implication) → first_wide g s ≡ o → ShowsWide o (Some r) → IsAnswered g used s k r
wide_by g used s k (Some x) r e h = record { answer = what_is_undecided (wide_number x.symbol x.first x.second); is = by_limit (wide_number x.symbol x.first x.second) (in_state x e); is_told = wide_told (wide_number x.symbol x.first x.second) r h }
wide_by g used s k None r e h = absurd h

pub wide_here : (g : KoreSignature) (used : List Text) (s : SymbolicState) (k : Consequent) (r : Implication) → ShowsWide (first_wide g s) (Some r) → IsAnswered g used s k r
wide_here g used s k r h = wide_by g used s k (first_wide g s) r refl h

goals_wide : (g : KoreSignature) (used : List Text) (s : SymbolicState) (k : Consequent) (m : IsMet g used s k) (goals : List (List Literal)) (o : Option WideCall) (r : Implication) → IsAskedIn g k (told_of g k s) m.met.part goals → first_wide g (goal_state k m.met.part goals) ≡ o → ShowsWide o (Some r) →
    IsAnswered g used s k r
goals_wide g used s k m goals (Some x) r asked e h = record {
  answer = what_is_undecided (wide_number x.symbol x.first x.second);
  is = by_limit (wide_number x.symbol x.first x.second) (in_goals m.met.part goals x m.meets m.meeting.here.narrowed asked e);
  is_told = wide_told (wide_number x.symbol x.first x.second) r h;
}
goals_wide g used s k m goals None r asked e h = absurd h

-- of the state p with the goals
pub wide_goals : (g : KoreSignature) (used : List Text) (s : SymbolicState) (k : Consequent) (m : IsMet g used s k) (p q : SymbolicState) (goals : List (List Literal)) (r : Implication) → m.met.part.state ≡ p → IsAskedIn g k (told_of g k s) m.met.part goals → q ≡ goal_state k (whole p) goals →
    ShowsWide (first_wide g q) (Some r) → IsAnswered g used s k r
wide_goals g used s k m p q goals r is asked e h = goals_wide g used s k m goals (first_wide g (goal_state k m.met.part goals)) r asked refl (subst (λ z. ShowsWide (first_wide g z) (Some r)) (e ∙ ap (λ z. goal_state k (whole z) goals) (sym is)) h)

-- ---- what is known of the parts

module _ (g : KoreSignature) (used : List Text) (a c : KorePattern) (s : SymbolicState) (k : Consequent) (question : IsQuestion g used a c s k) where
  pub state_sorted : HasSortedClauses g s
  state_sorted = sorted_clauses g s question.ready.sorted.state

  pub part_safe : (m : IsMet g used s k) (p : SymbolicState) → m.met.part.state ≡ p → IsSafe g p
  part_safe m p is = subst (IsSafe g) is (is_matched g used a c s k question (left_of g k) (record { part = m.met.part; next = m.next }) m.meeting.here).part

  pub goals_sorted : (m : IsMet g used s k) (p : SymbolicState) (goals : List (List Literal)) → m.met.part.state ≡ p → IsAskedIn g k (told_of g k s) m.met.part goals → AllByRecursion (IsRightClause g (p.variables ++ k.bound)) goals
  goals_sorted m p goals is asked =
      subst (λ xs. AllByRecursion (IsRightClause g (p.variables ++ xs)) goals) (sym question.consequent.bound)
      (subst (λ z. AllByRecursion (IsRightClause g (z.variables ++ top_binders c)) goals) is (asked_right g c k (told_of g k s) m.met.part goals (is_matched g used a c s k question (left_of g k) (record { part = m.met.part; next = m.next }) m.meeting.here) asked))

-- each part has clauses of its variables' sorts
pub parts_sorted : (g : KoreSignature) (used : List Text) (left : Form) (p : StatePart) (qs : List NumberedPart) → AllByRecursion (IsPartOn g used left p) qs → AllByRecursion (λ q. HasSortedClauses g q.part.state) qs
parts_sorted g used left p qs h = all_map (IsPartOn g used left p) (λ q. HasSortedClauses g q.part.state) qs (λ q on. sorted_clauses g q.part.state on.sorted.state) h

-- what is told of those that are apart
pub parts_told : (g : KoreSignature) (used : List Text) (s : SymbolicState) (k : Consequent) (m : IsMet g used s k) (qs : List NumberedPart) (r : FoundAmong) → m.apart ≡ qs → (AllByRecursion (λ q. HasSortedClauses g q.part.state) qs → TellsParts g qs r) → TellsParts g m.apart r
parts_told g used s k m qs r is h = subst (λ xs. TellsParts g xs r) (sym is) (h (subst (AllByRecursion (λ q. HasSortedClauses g q.part.state)) is (parts_sorted g used (left_of g k) (whole s) m.apart m.meeting.others)))

-- a loosened form has no variables
mutual
  none_loose : (f : Form) → form_variables (loosened f) ≡ []
  none_loose anything = refl
  none_loose nothing = refl
  none_loose (any_of s) = refl
  none_loose (one_of x s) = refl
  none_loose (fixed w) = refl
  none_loose (built c fs) = none_of_all fs

  none_of_all : (fs : Forms) → all_form_variables (all_loosened fs) ≡ []
  none_of_all no_forms = refl
  none_of_all (next_form f fs) = ap (λ xs. xs ++ all_form_variables (all_loosened fs)) (none_loose f) ∙ none_of_all fs

loose_sorts : (f : Form) → HasOneSortEach (form_variables (loosened f))
loose_sorts f = subst HasOneSortEach (sym (none_loose f)) (λ x y i j e. of_member (λ z. z.sort ≡ y.sort) [] x tt i)

-- the consequent's term can be tried on the whole state
pub whole_meetable : (g : KoreSignature) (used : List Text) (a c : KorePattern) (s : SymbolicState) (k : Consequent) (p : StatePart) (n : ℕ) → IsQuestion g used a c s k → p ≡ whole s → n ≡ 1 → IsMeetable g used (left_of g k) (record { part = p; next = n })
whole_meetable g used a c s k p n question e d =
    subst (λ z. IsMeetable g used (left_of g k) (record { part = z; next = n })) (sym e)
    (subst (λ z. IsMeetable g used (left_of g k) (record { part = whole s; next = z })) (sym d) (meetable g used (left_of g k) (record { part = whole s; next = 1 }) question.ready (loose_sorts (form_of_term g k))))

pub meeting_told : (g : KoreSignature) (used : List Text) (a c : KorePattern) (s : SymbolicState) (k : Consequent) (p : StatePart) (n : ℕ) (left : Form) (o : Option Meeting) → IsQuestion g used a c s k → p ≡ whole s → n ≡ 1 → left ≡ left_of g k →
    (IsMeetable g used left (record { part = p; next = n }) → TellsMeeting g used left p o) → TellsMeeting g used (left_of g k) (whole s) o
meeting_told g used a c s k p n left o question is one same h =
    subst (λ z. TellsMeeting g used (left_of g k) z o) is
    (subst (λ l. TellsMeeting g used l p o) same (h (subst (λ l. IsMeetable g used l (record { part = p; next = n })) (sym same) (whole_meetable g used a c s k p n question is one))))

pub apart_here : (g : KoreSignature) (s : SymbolicState) (k : Consequent) → IsAllApart g (left_of g k) (whole s) → IsUnmet g s k
apart_here g s k h = all_apart h.are_apart.0

-- ---- the answer by goals

pub concluded_here : {E : Type 0} (g : KoreSignature) (used : List Text) (s : SymbolicState) (k : Consequent) (m : IsMet g used s k) (p : SymbolicState) (goals : List (List Literal)) (apart goal : Option Open) (r : Result Implication E) → m.met.part.state ≡ p → IsSafe g p → IsSometimes g s →
    IsAskedIn g k (told_of g k s) m.met.part goals → TellsParts g m.apart (searched.Rest apart) → TellsGoals g k m.met.part goals (searched.Rest goal) → IfOk r (λ x. (used : List Text) → Concludes g used s k p apart goal x) → IfOk r (IsAnswered g used s k)
concluded_here g used s k m p goals apart goal r is safe some asked parts goals' h =
    ok_then (λ x. (used : List Text) → Concludes g used s k p apart goal x) (IsAnswered g used s k) r (λ x f. f used m goals is (sorted_clauses g p safe.sorted) some asked parts goals') h
