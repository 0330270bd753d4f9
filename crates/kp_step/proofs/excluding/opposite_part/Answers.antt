use Rattle.std.proofs.Common.{rules, ◌≡◌, ◌∙◌, ap, subst, true}
use Rattle.std.specs.List.{AllByRecursion}
use Rattle.kp_symbolic.specs.Clauses.{is_too_large, denied}
use Rattle.kp_symbolic.specs.Solving.{negated}
use Rattle.kp_symbolic_laws.specs.Kept.{CanBeWrittenAt}
use Rattle.kp_symbolic.specs.View.{clauses_view, state_view}
use Rattle.kp_case_laws.specs.Parts.{with_clauses}
use Rattle.kp_unify.specs.Views.{signature_of, part_view}
use Rattle.kp_step.specs.Firings.{clauses_of_firing}
use Rattle.kp_step.proofs.FiringViews.{numbered_as}
use Rattle.kp_step.proofs.excluding.opposite_part.Goals as goal

pub returns-clause-view : goal.returns-clause-view
returns-clause-view c =
    let g = signature_of c.args.setting.now in
    let q = c.args.firing.now.part in
    let sort = (state_view q.state).sort in
    let made : clauses_view c.in_ok-clauses.clauses.items ≡ clauses_of_firing c.args.firing.now = search rules in
    let opposite : clauses_view c.in_ok-others.others.items ≡ negated g sort (clauses_view c.in_ok-clauses.clauses.items) = search rules in
    let view : part_view c.in_ok-constrained.field-0 ≡ with_clauses (part_view q) (clauses_view c.in_ok-others.others.items) = search rules in
    numbered_as c.in_ok-constrained.field-0 (with_clauses (part_view q) (negated g sort (clauses_of_firing c.args.firing.now))) q.next (view ∙ ap (with_clauses (part_view q)) (opposite ∙ ap (negated g sort) made)) c.in_ok-constrained.ensures.next

pub returns-clause-right : goal.returns-clause-right
returns-clause-right c =
    let g = signature_of c.args.setting.now in
    let sort = (state_view c.args.firing.now.part.state).sort in
    let made : clauses_view c.in_ok-clauses.clauses.items ≡ clauses_of_firing c.args.firing.now = search rules in
    let room : is_too_large 0 (denied g (clauses_view c.in_ok-clauses.clauses.items)) ≡ true → AllByRecursion (CanBeWrittenAt g sort) (clauses_view c.in_ok-clauses.clauses.items) = search rules in
    subst (λ cs. is_too_large 0 (denied g cs) ≡ true → AllByRecursion (CanBeWrittenAt g sort) cs) made room
