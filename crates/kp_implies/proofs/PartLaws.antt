-- What follows from the parts of the antecedent.
use Rattle.std.specs.Prelude.{List, ◌⊎◌, map}
use Rattle.std.specs.List.{AllByRecursion, Contains}
use Rattle.std.proofs.Common.{◌≡◌, refl, sym, ◌∙◌, subst, inl, inr, [], ◌∷◌, ◌++◌}
use Rattle.kp_kore.specs.Syntax.{Text, KorePattern}
use Rattle.kp_kore.specs.Parts.{SortedName}
use Rattle.kp_kore.specs.Signature.{KoreSignature}
use Rattle.kp_kore.specs.Value.{Value, HasSort}
use Rattle.kp_kore.specs.Instance.{Valuation, GivesSorts, IsInstance, IsInstanceOfOne, instance}
use Rattle.kp_kore.specs.Rules.{top_binders, under_binders}
use Rattle.kp_kore.specs.Implied.{DoesImply, HasCounterexample}
use Rattle.kp_kore.proofs.TurnLemmas.{of_member}
use Rattle.kp_kore.proofs.ListLemmas.{all_map}
use Rattle.kp_symbolic.specs.Terms.{term_instance, term_variables}
use Rattle.kp_symbolic.specs.States.{Literal, AreTrue, IsClauseTrue, SymbolicState, IsStateInstance}
use Rattle.kp_symbolic.specs.Sources.{MayMean}
use Rattle.kp_symbolic_laws.proofs.Step.{at_hand_given}
use Rattle.kp_rules.specs.Skeletons.{Admits}
use Rattle.kp_overlap.proofs.TermLemmas.{means_form}
use Rattle.kp_case_laws.specs.Parts.{StatePart, whole, OfEachInstance, IsPartBelow, IsDivided}
use Rattle.kp_case_laws.specs.Cases.{IsApart, left_side}
use Rattle.kp_case_laws.specs.Firing.{HasNoInstance}
use Rattle.kp_case_laws.proofs.PartLemmas.{below_itself}
use Rattle.kp_case_laws.proofs.HandLemmas.{depends_on_hand}
use Rattle.kp_unify.specs.Narrowed.{NumberedPart}
use Rattle.kp_unify.specs.Way.{IsPartOn}
use Rattle.kp_step.proofs.MeetLemmas.{may_mean, instance_means, instance_sort}
use Rattle.kp_goals.specs.Consequents.{Consequent, form_of_term, left_of, beside}
use Rattle.kp_goals.specs.Exact.{HasBody, AreMatched, AreClear, IsRightClause, ClauseDepends, all_variables}
use Rattle.kp_goals.specs.Goals.{IsAskedIn, goals_of}
use Rattle.kp_goals.proofs.Assembled.{body_met, own_value, own_term, goals_are_exact}
use Rattle.kp_goals.proofs.Core.{counterexample, valid_by_part}
use Rattle.kp_goals.proofs.Exact.{all_sorts, bodied}
use Rattle.kp_goals.proofs.Loosened.{loosely}
use Rattle.kp_implies.specs.Open.{IsGoalOpen, IsMetAt}
use Rattle.kp_implies.specs.Steps.{IsSometimes, IsNever, IsMet, IsUnmet, no_value, no_meeting, all_apart, IsGoalFalse, IsGoalTrue, IsGoalAsked, IsCarried, no_instance, by_goals}
use Rattle.kp_implies.specs.Printed.{told_of}
use Rattle.kp_implies.specs.Promises.{IsQuestion}
use Rattle.kp_implies.proofs.GoalLaws.{asked_right, of_hand_right, clause_depends, true_at, refuted_by}
use Rattle.kp_implies.proofs.Matching.{is_clear, is_matched}
use Rattle.kp_implies.proofs.PutLaws.{can_be_put}

all_of_map : {X Y : Type 0} (f : X → Y) (P : Y → Type 0) (xs : List X) → AllByRecursion P (map f xs) → AllByRecursion (λ x. P (f x)) xs
all_of_map f P [] h = tt
all_of_map f P (x ∷ xs) h = (h.0, all_of_map f P xs h.1)

pub map_all : {X Y : Type 0} (f : X → Y) (P : Y → Type 0) (xs : List X) → AllByRecursion (λ x. P (f x)) xs → AllByRecursion P (map f xs)
map_all f P [] h = tt
map_all f P (x ∷ xs) h = (h.0, map_all f P xs h.1)

-- an instance of a state that some values make true
pub here : (g : KoreSignature) (s : SymbolicState) (x : Valuation) → AreTrue g x s.clauses → IsStateInstance g x s (term_instance g x s.term)
here g s x h = record { term = refl; clauses = h }

pub never_has : (g : KoreSignature) (p : StatePart) → IsNever g p.state → HasNoInstance g p
never_has g p never w u sorts met = never (record { valuation = w; sorts = sorts; are_true = met.clauses })

-- ---- an instance of the body is one of the consequent's term

body_admits : (g : KoreSignature) (c : KorePattern) (k : Consequent) (p : StatePart) (m : AreMatched g c k p) (x : Valuation) (u : Value) → GivesSorts g x (all_variables p c) → IsInstance g x (under_binders c) u → Admits g x (form_of_term g k) u
body_admits g c k p m x u sorts body =
    let met = body_met g x c u body in
    let value : u ≡ instance g x m.consequent.pattern = subst (λ ts. IsInstanceOfOne g x ts u) m.consequent.alone met.term in
    let is : u ≡ term_instance g x k.term = value ∙ sym (own_value g c k p m x sorts) in
    (means_form g x k.term u).0 (subst (MayMean g x k.term) (sym is) (may_mean g x p.state.sort k.term (own_term g c k p m).0 (at_hand_given g x (all_variables p c) (term_variables k.term) sorts (own_term g c k p m).1)))

-- no instance of a part that the consequent's term doesn't meet is one of the body
apart_none : (g : KoreSignature) (c : KorePattern) (k : Consequent) (p : StatePart) → AreMatched g c k p → AreClear c p.state.variables → IsApart g (left_side g (left_of g k)) p → (w : Valuation) (u : Value) → GivesSorts g w p.state.variables → IsStateInstance g w p.state u → ¬ HasBody g c w u
apart_none g c k p m clear apart w u sorts met b =
    apart w u sorts met b.0 (loosely g b.0 (form_of_term g k) u (body_admits g c k p m b.0 u (all_sorts g c w b.0 p.state.variables b.1 clear sorts) b.2))

module _ (g : KoreSignature) (used : List Text) (a c : KorePattern) (s : SymbolicState) (k : Consequent) (question : IsQuestion g used a c s k) where
  below_read : (q : StatePart) → IsPartBelow g (whole s) q → IsPartBelow g (whole (beside question.read c)) q
  below_read q below = subst (λ z. IsPartBelow g (whole z) q) question.is below

  -- an instance of a part that isn't one of the body
  not_body : (q : StatePart) (w : Valuation) (u : Value) → IsPartBelow g (whole s) q → GivesSorts g w q.state.variables → IsStateInstance g w q.state u → ¬ HasBody g c w u → HasCounterexample g a c
  not_body q w u below sorts met refused = counterexample g a c question.read q w u question.distinct question.instances (below_read q below) sorts met refused

  -- ---- the whole state

  pub own_matched : AreMatched g c k (whole s)
  own_matched = record {
    consequent = question.consequent;
    part = question.ready.safe;
    one_sort_each = question.one_sort_each;
    term = question.term;
    sort = question.sort;
    predicates = question.predicates;
  }

  unmet_none : IsUnmet g s k → (w : Valuation) (u : Value) → GivesSorts g w s.variables → IsStateInstance g w s u → ¬ HasBody g c w u
  unmet_none (no_value none) w u sorts met b = none (subst (AllByRecursion (λ x. (v : Value) × HasSort g x.sort v)) (sym question.consequent.bound) (all_map (λ x. HasSort g x.sort (b.0 x.name)) (λ x. (v : Value) × HasSort g x.sort v) (top_binders c) (λ x h. (b.0 x.name, h)) b.1.sorts))
  unmet_none (no_meeting none) w u sorts met b = none (record {
    value = u;
    sort = instance_sort g s w u question.ready.safe.sorted sorts met;
    of_state = w;
    is_term = instance_means g s w u question.ready.safe.sorted sorts met;
    of_rule = b.0;
    is_left = body_admits g c k (whole s) own_matched b.0 u (all_sorts g c w b.0 s.variables b.1 question.clear sorts) b.2;
  })
  unmet_none (all_apart apart) w u sorts met b = apart_none g c k (whole s) own_matched question.clear apart w u sorts met b

  pub unmet_law : IsSometimes g s → IsUnmet g s k → HasCounterexample g a c
  unmet_law some unmet =
      let u = term_instance g some.valuation s.term in
      let met = here g s some.valuation some.are_true in
      not_body (whole s) some.valuation u (below_itself g (whole s) question.ready.told) some.sorts met (unmet_none unmet some.valuation u some.sorts met)

  -- ---- parts

  module _ (m : IsMet g used s k) where
    abbrev p : StatePart
    p = m.met.part

    each_below : AllByRecursion (λ (q : NumberedPart). IsPartBelow g (whole s) q.part) m.apart
    each_below = all_of_map (λ (q : NumberedPart). q.part) (IsPartBelow g (whole s)) m.apart m.meeting.cases.divided.below.1

    each_apart : AllByRecursion (λ (q : NumberedPart). IsApart g (left_side g (left_of g k)) q.part) m.apart
    each_apart = all_of_map (λ (q : NumberedPart). q.part) (IsApart g (left_side g (left_of g k))) m.apart m.meeting.cases.are_apart

    pub part_law : (q : NumberedPart) → Contains m.apart q → IsSometimes g q.part.state → HasCounterexample g a c
    part_law q among some =
        let on = of_member (IsPartOn g used (left_of g k) (whole s)) m.apart q m.meeting.others among in
        let u = term_instance g some.valuation q.part.state.term in
        let met = here g q.part.state some.valuation some.are_true in
        not_body q.part some.valuation u (of_member (λ (r : NumberedPart). IsPartBelow g (whole s) r.part) m.apart q each_below among) some.sorts met
        (apart_none g c k q.part (is_matched g used a c s k question (left_of g k) q on) (is_clear g used a c s k question (left_of g k) q on)
        (of_member (λ (r : NumberedPart). IsApart g (left_side g (left_of g k)) r.part) m.apart q each_apart among) some.valuation u some.sorts met)

    abbrev met_on : NumberedPart
    met_on = record { part = p; next = m.next }

    pub matched : AreMatched g c k p
    matched = is_matched g used a c s k question (left_of g k) met_on m.meeting.here

    pub clear : AreClear c p.state.variables
    clear = is_clear g used a c s k question (left_of g k) met_on m.meeting.here

    pub goal_law : (told : List SortedName) (goals : List (List Literal)) (goal : List Literal) → IsAskedIn g k told p goals → Contains goals goal → IsGoalFalse g k p goal → HasCounterexample g a c
    goal_law told goals goal asked among false' =
        let r = refuted_by g c k told p goals goal matched clear (sym question.consequent.bound) asked among false' in
        not_body p r.0 (term_instance g r.0 p.state.term) m.meeting.cases.divided.below.0 r.1 r.2 r.3

    -- ---- goals that are true

    pub goal_right : (told : List SortedName) (goals : List (List Literal)) → IsAskedIn g k told p goals → AllByRecursion (IsRightClause g (p.state.variables ++ k.bound)) goals
    goal_right told goals asked = subst (λ xs. AllByRecursion (IsRightClause g (p.state.variables ++ xs)) goals) (sym question.consequent.bound) (asked_right g c k told p goals matched asked)

    goals_hold : (goals : List (List Literal)) → AllByRecursion (IsRightClause g (p.state.variables ++ k.bound)) goals → AllByRecursion (IsGoalTrue g k p) goals → (w : Valuation) → GivesSorts g w p.state.variables → AreTrue g w p.state.clauses → AreTrue g w goals
    goals_hold [] right h w sorts met = tt
    goals_hold (c' ∷ cs) right h w sorts met = (true_at g k p c' (of_hand_right g p.state.variables k.bound c' h.0.of_hand right.0) h.0 w sorts met, goals_hold cs right.1 h.1 w sorts met)

    pub goals_depend : (goals : List (List Literal)) → AllByRecursion (IsRightClause g (p.state.variables ++ k.bound)) goals → AllByRecursion (IsGoalTrue g k p) goals → AllByRecursion (ClauseDepends g p.state.variables) goals
    goals_depend [] right h = tt
    goals_depend (c' ∷ cs) right h = (clause_depends g p.state.variables c' (of_hand_right g p.state.variables k.bound c' h.0.of_hand right.0), goals_depend cs right.1 h.1)

    carried_bodies : IsCarried g s k p → OfEachInstance g p (λ w u. HasBody g c w u)
    carried_bodies (no_instance never) w u sorts met = absurd (never_has g p never w u sorts met)
    carried_bodies (by_goals goals asked true') w u sorts met =
        let told = told_of g k s in
        let right = goal_right told goals asked in
        let are = goals_of g k p asked.given in
        bodied g c p.state asked.given.put are w u (goals_are_exact g c k p matched told asked.given asked.is_given) (depends_on_hand g p.state matched.part.sorted) clear
        (can_be_put g c k told p matched asked.given asked.is_given question.consequent.bound (subst (AllByRecursion (λ x. (v : Value) × HasSort g x.sort v)) question.consequent.bound m.values))
        (subst (AllByRecursion (ClauseDepends g p.state.variables)) asked.are (goals_depend goals right true')) sorts met
        (subst (AreTrue g w) asked.are (goals_hold goals right true' w sorts met.clauses))

    pub carried_law : AllByRecursion (λ (q : NumberedPart). IsNever g q.part.state) m.apart → IsCarried g s k p → DoesImply g a c
    carried_law empty carried =
        valid_by_part g a c question.read p (map (λ q. q.part) m.apart) question.instances (subst (λ z. IsDivided g (whole z) (p ∷ map (λ q. q.part) m.apart)) question.is m.meeting.cases.divided)
        (map_all (λ (q : NumberedPart). q.part) (HasNoInstance g) m.apart (all_map (λ (q : NumberedPart). IsNever g q.part.state) (λ q. HasNoInstance g q.part) m.apart (λ q n. never_has g q.part n) empty))
        (carried_bodies carried)

    -- ---- goals that are open

    others : (goals : List (List Literal)) → AllByRecursion (IsRightClause g (p.state.variables ++ k.bound)) goals → AllByRecursion (IsGoalAsked g k p) goals → (w : Valuation) → GivesSorts g w p.state.variables → AreTrue g w p.state.clauses → AllByRecursion (λ d. IsGoalOpen g k p d ⊎ IsClauseTrue g w d) goals
    others [] right h w sorts met = tt
    others (d ∷ ds) right h w sorts met = (elim h.0 [ inl t ↦ inr (true_at g k p d (of_hand_right g p.state.variables k.bound d t.of_hand right.0) t w sorts met) | inr o ↦ inl o ], others ds right.1 h.1 w sorts met)

    pub met_law : (told : List SortedName) (goals : List (List Literal)) → IsAskedIn g k told p goals → IsSometimes g p.state → AllByRecursion (IsGoalAsked g k p) goals → IsMetAt g k p goals
    met_law told goals asked some each = record { valuation = some.valuation; sorts = some.sorts; clauses = some.are_true; others = others goals (goal_right told goals asked) each some.valuation some.sorts some.are_true }
