-- What is answered where something is left open, or nothing is.
use Rattle.std.specs.Prelude.{Bool, true, false, not, ◌&&◌, List, Option, Result, Ok, Err, IfOk, map, if◌then◌else◌}
use Rattle.std.specs.List.{AllByRecursion, Contains, filter, list_all}
use Rattle.std.proofs.Common.{◌≡◌, refl, sym, ◌∙◌, ap, subst, [], ◌∷◌, Some, None}
use Rattle.kp_kore.specs.Syntax.{Text, KoreSort}
use Rattle.kp_kore.specs.Signature.{KoreSignature}
use Rattle.kp_kore.proofs.TurnLemmas.{of_member}
use Rattle.kp_symbolic.specs.Plain.{IsPlainState, rough_clauses, read_clauses, is_plain_clause, literals_of}
use Rattle.kp_symbolic.specs.States.{Literal, SymbolicState}
use Rattle.kp_symbolic.specs.Shown.{unknown_clauses}
use Rattle.kp_symbolic.specs.Verdicts.{Weighed, undecided, IsRightVerdict}
use Rattle.kp_symbolic.specs.Endings.{what_is_undecided}
use Rattle.kp_symbolic.specs.View.{clauses_view}
use Rattle.kp_limits.specs.declared.weight.Weighed as code
use Rattle.kp_satisfiability.specs.Answers.{IsWeighedAs}
use Rattle.kp_satisfiability.specs.Read.{HasSortedClauses}
use Rattle.kp_case_laws.specs.Parts.{StatePart, whole}
use Rattle.kp_unify.specs.Narrowed.{NumberedPart}
use Rattle.kp_unify.specs.Way.{IsPartOn}
use Rattle.kp_goals.specs.Consequents.{Consequent, left_of}
use Rattle.kp_goals.specs.Goals.{IsAskedIn}
use Rattle.kp_implies.specs.Open.{ShowsGoal, part_weight, goal_weight}
use Rattle.kp_implies.specs.Open as shows
use Rattle.kp_implies.specs.Printed.{told_of}
use Rattle.kp_implies.specs.Steps.{IsSometimes, IsNever, IsLeft, IsMet, IsGoalLeft, not_given, not_decided, IsGoalAsked, no_instance, by_goals, open_goal, IsAnswered, IsHeavyLeft, AnswersCarried, TellsState, TellsParts, TellsGoals, Concludes, ConcludesGoal}
use Rattle.kp_implies.specs.Told.{ShowsClauses}
use Rattle.kp_implies.specs.declared.answer.Implication.{Implication}
use Rattle.kp_implies.specs.declared.shown.Open.{Open}
use Rattle.kp_implies.specs.declared.parts.Found.{Found}
use Rattle.kp_implies.specs.declared.parts.Found.TheVariants as found
use Rattle.kp_implies.specs.declared.parts.FoundAmong.TheVariants as searched
use Rattle.kp_implies.proofs.WayLemmas.{clauses_told, none_weighed}

-- ---- a state without clauses that aren't plain

all_pass : {X Y : Type 0} (f : X → Y) (test : X → Bool) (xs : List X) → map f (filter (λ x. not (test x)) xs) ≡ [] → list_all test xs ≡ true
all_pass f test [] e = refl
all_pass {X = X} f test (x ∷ xs) e = by (test x) refl e (λ h. all_pass f test xs h)
  where
    by : (b : Bool) → test x ≡ b → map f (if not b then x ∷ filter (λ y. not (test y)) xs else filter (λ y. not (test y)) xs) ≡ [] → (map f (filter (λ y. not (test y)) xs) ≡ [] → list_all test xs ≡ true) → test x && list_all test xs ≡ true
    by true i e later = ap (λ b. b && list_all test xs) i ∙ later e
    by false i e later = absurd (cc)

pub nothing_rough : (g : KoreSignature) (s : SymbolicState) → rough_clauses g s ≡ [] → IsPlainState g s
nothing_rough g s e = all_pass literals_of is_plain_clause (read_clauses g s) e

-- ---- what is over a weight

weighed_none : (over : Option Weighed) (w : Option code.Weighed) → IsWeighedAs over w → w ≡ None → over ≡ None
weighed_none None w h e = refl
weighed_none (Some x) None h e = absurd h
weighed_none (Some x) (Some w) h e = absurd (cc)

module _ (g : KoreSignature) (used : List Text) (s : SymbolicState) (k : Consequent) (m : IsMet g used s k) where
  abbrev p : StatePart
  p = m.met.part

  pub apart_heavy : (q : NumberedPart) → IsPlainState g s → IsSometimes g s → Contains m.apart q → IsHeavyLeft g s k q.part.state
  apart_heavy q plain some among cs h heavy within = part_weight q.part h cs plain some m.meets (of_member (IsPartOn g used (left_of g k) (whole s)) m.apart q m.meeting.others among).narrowed heavy within

  pub here_heavy : IsPlainState g s → IsSometimes g s → IsHeavyLeft g s k p.state
  here_heavy plain some cs h heavy within = part_weight p h cs plain some m.meets m.meeting.here.narrowed heavy within

  pub goal_heavy : (goals : List (List Literal)) (c : List Literal) (o : Open) → IsPlainState g s → IsSometimes g s → IsAskedIn g k (told_of g k s) p goals → Contains goals c → ¬ (o.over ≡ None) → IsGoalLeft g k p c o → (q : SymbolicState) × IsLeft g q o × IsHeavyLeft g s k q
  goal_heavy goals c o plain some asked among over (not_given e is) = absurd (over (none_weighed o.over is.1))
  goal_heavy goals c o plain some asked among over (not_decided q e by left) = (q, left, λ cs h heavy within. goal_weight p goals c q h cs plain some m.meets m.meeting.here.narrowed asked among by heavy within)

  -- ---- a goal

  pub shows_goal : (c : List Literal) (o : Open) → o.over ≡ None → IsGoalLeft g k p c o → ShowsGoal g k p c (clauses_view o.shown.items)
  shows_goal c o none (not_given e is) = subst (ShowsGoal g k p c) (sym is.0) (shows.not_given e)
  shows_goal c o none (not_decided q e by left) =
      shows.not_plain q (clauses_view o.shown.items) by (subst (λ w. IsRightVerdict g q (undecided (clauses_view o.shown.items) w)) (weighed_none left.over o.over left.told none) left.right)

  pub goal_law : (goals : List (List Literal)) (c : List Literal) (o : Open) (r : Implication) → IsPlainState g s → IsSometimes g s → IsAskedIn g k (told_of g k s) p goals → IsSometimes g p.state → AllByRecursion (IsGoalAsked g k p) goals → Contains goals c → o.over ≡ None → IsGoalLeft g k p c o →
      ShowsClauses g s.sort (clauses_view o.shown.items) None r → IsAnswered g used s k r
  goal_law goals c o r plain some asked here each among none left h = record {
    answer = what_is_undecided (unknown_clauses h.0);
    is = open_goal m goals c (clauses_view o.shown.items) h.0 plain some here asked each among (shows_goal c o none left) h.1;
    is_told = clauses_told h.0 r h.2;
  }

-- ---- handed on

pub goal_told : {E : Type 0} (g : KoreSignature) (s : SymbolicState) (k : Consequent) (o : Open) (sort : KoreSort) (cs : List (List Literal)) (r : Result Implication E) → sort ≡ s.sort → cs ≡ clauses_view o.shown.items → o.over ≡ None →
    IfOk r (λ a. (h : Option Weighed) → IsWeighedAs h None → ShowsClauses g sort cs h a) → IfOk r (λ a. (used : List Text) → ConcludesGoal g used s k (IsSometimes g) o a)
goal_told g s k o sort cs (Ok a) e d none h = λ used m goals plain some asked here told.
    goal_law g used s k m goals told.1.0 o a plain some asked here told.0 told.1.1 none told.1.2 (subst (λ z. ShowsClauses g z (clauses_view o.shown.items) None a) e (subst (λ z. ShowsClauses g sort z None a) d (h None tt)))
goal_told g s k o sort cs (Err x) e d none h = tt

pub goal_weighed : {E : Type 0} (g : KoreSignature) (s : SymbolicState) (k : Consequent) (IsPart : SymbolicState → Type 0) (o : Open) (r : Result Implication E) →
    IfOk r (λ a. (used : List Text) (q : SymbolicState) → IsLeft g q o → IsHeavyLeft g s k q → IsAnswered g used s k a) → IfOk r (λ a. ¬ (o.over ≡ None)) → IfOk r (λ a. (used : List Text) → ConcludesGoal g used s k IsPart o a)
goal_weighed g s k IsPart o (Ok a) h over = λ used m goals plain some asked here told.
    let i = goal_heavy g used s k m goals told.1.0 o plain some asked told.1.1 over told.1.2 in
    h used i.0 i.1 i.2
goal_weighed g s k IsPart o (Err x) h over = tt

pub part_weighed : {E : Type 0} (g : KoreSignature) (s : SymbolicState) (k : Consequent) (o goal : Open) (r : Result Implication E) →
    IfOk r (λ a. (used : List Text) (q : SymbolicState) → IsLeft g q o → IsHeavyLeft g s k q → IsAnswered g used s k a) → IfOk r (λ a. (used : List Text) → ConcludesGoal g used s k (λ q. IsLeft g q o) goal a)
part_weighed g s k o goal (Ok a) h = λ used m goals plain some asked left told. h used m.met.part.state left (here_heavy g used s k m plain some)
part_weighed g s k o goal (Err x) h = tt

-- by what is found of the part that is met
pub nothing_carried : {E : Type 0} (g : KoreSignature) (s : SymbolicState) (k : Consequent) (part : SymbolicState) (f : Found) (goal : Option Open) (r : Result Implication E) → (HasSortedClauses g part → TellsState g part f) → f ≡ found.Nothing →
    IfOk r (λ a. (used : List Text) → AnswersCarried g used s k a) → IfOk r (λ a. (used : List Text) → IsPlainState g s → Concludes g used s k part None goal a)
nothing_carried g s k part f goal (Ok a) tells is h = λ used plain m goals same sorted some asked apart told.
    h used m some apart (no_instance (subst (IsNever g) (sym same) (subst (TellsState g part) is (tells sorted))))
nothing_carried g s k part f goal (Err x) tells is h = tt

-- by what is left of the other parts, and of the goals
pub apart_concluded : {E : Type 0} (g : KoreSignature) (s : SymbolicState) (k : Consequent) (part : SymbolicState) (apart : Option Open) (o : Open) (goal : Option Open) (r : Result Implication E) → apart ≡ Some o →
    IfOk r (λ a. (used : List Text) (q : SymbolicState) → IsLeft g q o → IsHeavyLeft g s k q → IsAnswered g used s k a) → IfOk r (λ a. (used : List Text) → IsPlainState g s → Concludes g used s k part apart goal a)
apart_concluded g s k part apart o goal (Ok a) is h = λ used plain m goals same sorted some asked others told.
    let t = subst (λ z. TellsParts g m.apart (searched.Rest z)) is others in
    h used t.0.part.state t.2 (apart_heavy g used s k m t.0 plain some t.1)
apart_concluded g s k part apart o goal (Err x) is h = tt

pub goal_concluded : {E : Type 0} (g : KoreSignature) (s : SymbolicState) (k : Consequent) (part : SymbolicState) (apart goal : Option Open) (o : Open) (r : Result Implication E) → apart ≡ None → goal ≡ Some o →
    IfOk r (λ a. (used : List Text) → IsPlainState g s → Concludes g used s k part None (Some o) a) → IfOk r (λ a. (used : List Text) → IsPlainState g s → Concludes g used s k part apart goal a)
goal_concluded g s k part apart goal o (Ok a) none is h = λ used plain. subst (λ z. Concludes g used s k part z goal a) (sym none) (subst (λ z. Concludes g used s k part None z a) (sym is) (h used plain))
goal_concluded g s k part apart goal o (Err x) none is h = tt

pub all_concluded : {E : Type 0} (g : KoreSignature) (s : SymbolicState) (k : Consequent) (part : SymbolicState) (apart goal : Option Open) (r : Result Implication E) → apart ≡ None → goal ≡ None →
    IfOk r (λ a. (used : List Text) → AnswersCarried g used s k a) → IfOk r (λ a. (used : List Text) → Concludes g used s k part apart goal a)
all_concluded g s k part apart goal (Ok a) none is h = λ used m goals same sorted some asked others told.
    h used m some (subst (λ z. TellsParts g m.apart (searched.Rest z)) none others) (by_goals goals asked (subst (λ z. TellsGoals g k m.met.part goals (searched.Rest z)) is told))
all_concluded g s k part apart goal (Err x) none is h = tt

pub plainly : {E : Type 0} (g : KoreSignature) (s : SymbolicState) (k : Consequent) (part : SymbolicState) (apart goal : Option Open) (r : Result Implication E) →
    IfOk r (λ a. (used : List Text) → Concludes g used s k part apart goal a) → IfOk r (λ a. (used : List Text) → IsPlainState g s → Concludes g used s k part apart goal a)
plainly g s k part apart goal (Ok a) h = λ used plain. h used
plainly g s k part apart goal (Err x) h = tt

-- by the state's own clauses
pub plain_concluded : {E : Type 0} (g : KoreSignature) (s : SymbolicState) (k : Consequent) (part : SymbolicState) (apart goal : Option Open) (r : Result Implication E) → rough_clauses g s ≡ [] →
    IfOk r (λ a. (used : List Text) → IsPlainState g s → Concludes g used s k part apart goal a) → IfOk r (λ a. (used : List Text) → Concludes g used s k part apart goal a)
plain_concluded g s k part apart goal (Ok a) none h = λ used. h used (nothing_rough g s none)
plain_concluded g s k part apart goal (Err x) none h = tt

pub ok_always : {A E P : Type 0} (r : Result A E) → P → IfOk r (λ a. P)
ok_always (Ok a) h = h
ok_always (Err x) h = tt
