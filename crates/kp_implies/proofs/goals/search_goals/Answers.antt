use Rattle.std.proofs.Common.{arith, ◌∷◌, sym, subst, ◌+◌, ◌++◌, drop, Option}
use Rattle.std.specs.List.{AllByRecursion}
use Rattle.kp_kore.proofs.ListLemmas.{one_left, none_left}
use Rattle.kp_symbolic.specs.View.{clause_view, clauses_view, state_view}
use Rattle.kp_unify.specs.Views.{signature_of}
use Rattle.kp_goals.specs.Exact.{IsRightClause}
use Rattle.kp_goals.specs.View.{consequent_view}
use Rattle.kp_implies.specs.Steps.{TellsGoal}
use Rattle.kp_implies.specs.declared.shown.Open.{Open}
use Rattle.kp_implies.proofs.FoundLemmas.{GoalsAt, GoalsSoFar, goals_at, goals_less, goals_more, goals_end, all_among}
use Rattle.kp_implies.proofs.goals.search_goals.Goals as goal
use Rattle.kp_implies.proofs.goals.search_goals.Goals.{in-Nothing, in-Undecided}

pub loop-goal-init : goal.loop-goal-init
loop-goal-init c p is safe right = let all = clauses_view c.args.goals.now in (right, all_among all, λ h. h, λ h. h)

pub loop-goal-preserved : goal.loop-goal-preserved
loop-goal-preserved c p is safe right =
    let g = signature_of c.args.setting.now in
    let k = consequent_view c.args.consequent.now in
    let goals = c.args.goals.now in
    let all = clauses_view goals in
    let i = c.loop-goal.goal-index in
    let x = c.goal-item.result in
    let rest = clauses_view (drop (i + 1) goals) in
    let at : GoalsAt g k p all (clauses_view (drop i goals)) c.loop-goal.kept =
    let w = c.loop-goal.invariant p is safe right in (subst (λ s. AllByRecursion (IsRightClause g (s.variables ++ k.bound)) (clauses_view (drop i goals))) (sym is) w.0, w.1, w.2, w.3) in
    let was : GoalsAt g k p all (clause_view x ∷ rest) c.loop-goal.kept = subst (λ xs. GoalsAt g k p all (clauses_view xs) c.loop-goal.kept) (one_left goals i x c.loop-goal-test.true c.goal-item.is) at in
    let told : TellsGoal g k p (clause_view x) c.in_ok-asked_of.field-0 = c.in_ok-asked_of.ensures p is safe (subst (λ s. IsRightClause g (s.variables ++ k.bound) (clause_view x)) is was.0.0) in
    let back : (o : Option Open) → GoalsAt g k p all rest o → AllByRecursion (IsRightClause g ((state_view c.args.state.now).variables ++ k.bound)) rest = λ o h. subst (λ s. AllByRecursion (IsRightClause g (s.variables ++ k.bound)) rest) is h.0 in
    elim c.match-branch-2.branch [
      | in-Nothing w ↦ let h = goals_less g k p all rest (clause_view x) c.loop-goal.kept (subst (TellsGoal g k p (clause_view x)) w.in-Nothing.is told) was in
          let k' = subst (GoalsAt g k p all rest) (sym w.kept-is) h in (back _ k', k'.1, k'.2, k'.3)
      | in-Undecided w ↦
          let h = goals_more g k p all rest (clause_view x) c.loop-goal.kept w.in-Undecided.next w.first_open-kept.result (subst (TellsGoal g k p (clause_view x)) w.in-Undecided.is told) w.first_open-kept.ensures was in
          let k' = subst (GoalsAt g k p all rest) (sym w.kept-is) h in (back _ k', k'.1, k'.2, k'.3)
    ]

pub returns-in-Instance : goal.returns-in-Instance
returns-in-Instance c p is safe right =
    let g = signature_of c.args.setting.now in
    let k = consequent_view c.args.consequent.now in
    let s = state_view c.args.state.now in
    let goals = c.args.goals.now in
    let all = clauses_view goals in
    let i = c.loop-goal.goal-index in
    let x = c.goal-item.result in
    let at = goals_at g k p s all (clauses_view (drop i goals)) c.loop-goal.kept is (c.loop-goal.invariant p is safe right) in
    let was : GoalsAt g k p all (clause_view x ∷ clauses_view (drop (i + 1) goals)) c.loop-goal.kept = subst (λ xs. GoalsAt g k p all (clauses_view xs) c.loop-goal.kept) (one_left goals i x c.loop-goal-test.true c.goal-item.is) at in
    let told : TellsGoal g k p (clause_view x) c.in_ok-asked_of.field-0 = c.in_ok-asked_of.ensures p is safe (subst (λ z. IsRightClause g (z.variables ++ k.bound) (clause_view x)) is was.0.0) in
    (clause_view x, was.1.0, subst (TellsGoal g k p (clause_view x)) c.in-Instance.is told)

pub returns : goal.returns
returns c p is safe right =
    let g = signature_of c.args.setting.now in
    let k = consequent_view c.args.consequent.now in
    let goals = c.args.goals.now in
    let all = clauses_view goals in
    let w = c.loop-goal.invariant p is safe right in
    goals_end g k p all c.loop-goal.kept (subst (λ xs. GoalsSoFar g k p all (clauses_view xs) c.loop-goal.kept) (none_left goals c.loop-goal.goal-index (omega (arith, c.loop-goal-test.false))) w.3)
