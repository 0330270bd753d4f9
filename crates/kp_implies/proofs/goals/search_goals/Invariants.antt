use Rattle.std.proofs.Common.{◌≡◌, ◌++◌, drop}
use Rattle.std.specs.List.{AllByRecursion, Contains}
use Rattle.kp_symbolic.specs.View.{clauses_view, state_view}
use Rattle.kp_symbolic_laws.specs.Safe.{IsSafe}
use Rattle.kp_case_laws.specs.Parts.{StatePart}
use Rattle.kp_unify.specs.Views.{signature_of}
use Rattle.kp_goals.specs.Exact.{IsRightClause}
use Rattle.kp_goals.specs.View.{consequent_view}
use Rattle.kp_implies.proofs.FoundLemmas.{GoalsSoFar, AskedSoFar}
use Rattle.kp_implies.proofs.goals.search_goals.Given as goal

-- those that are left are among all; what was found so far
abbrev pub invariant-loop-goal : goal.invariant-loop-goal
invariant-loop-goal l =
    (p : StatePart) → let g = signature_of l.setting in let s = state_view l.state in let k = consequent_view l.consequent in let all = clauses_view l.goals in let rest = clauses_view (drop l.goal-index l.goals) in
    p.state ≡ s → IsSafe g s → AllByRecursion (IsRightClause g (s.variables ++ k.bound)) all →
    AllByRecursion (IsRightClause g (s.variables ++ k.bound)) rest × AllByRecursion (Contains all) rest × AskedSoFar g k p all rest × GoalsSoFar g k p all rest l.kept
