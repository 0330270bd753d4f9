use Rattle.std.proofs.Common.{rules, ◌≡◌, sym, subst, ◌∙◌, map, true, false, not}
use Rattle.kp_symbolic.specs.Clauses.{is_too_large}
use Rattle.kp_symbolic.specs.Languages.{language_view}
use Rattle.kp_symbolic.specs.View.{clause_view, clauses_view, replaced_view}
use Rattle.kp_formulas.specs.Distribution.{distribution_of}
use Rattle.kp_formulas.specs.DistributionView.{distributed_view}
use Rattle.kp_literals.specs.Equations.{equation_view}
use Rattle.kp_clause_substitution.specs.Replacing.{clause_under}
use Rattle.kp_unify.proofs.OpenedLemmas.{opened_is, unopened_is}
use Rattle.kp_unify.proofs.refined.put_opened.Goals as goal

pub returns-then-is_room : goal.returns-then-is_room
returns-then-is_room c =
    let g = language_view c.args.language.now in
    let by = map replaced_view c.args.by.now in
    let old = clause_view c.args.clause.now in
    let is : distributed_view c.in_ok-opened.opened ≡ distribution_of (clause_under g by old) = search rules in
    let room : true ≡ not (is_too_large 0 (clause_under g by old)) = sym c.if-is_room.true ∙ c.is_room.ensures (clause_under g by old) is in
    c.clauses_of.ensures ∙ opened_is g (equation_view c.args.equation.now) by old (distributed_view c.in_ok-opened.opened) c.requires is room

pub returns : goal.returns
returns c =
    let g = language_view c.args.language.now in
    let by = map replaced_view c.args.by.now in
    let old = clause_view c.args.clause.now in
    let is : distributed_view c.in_ok-opened.opened ≡ distribution_of (clause_under g by old) = search rules in
    let full : false ≡ not (is_too_large 0 (clause_under g by old)) = sym c.if-is_room.false ∙ c.is_room.ensures (clause_under g by old) is in
    subst (λ x. clauses_view c.in_ok-clause_alone.field-0.items ≡ x) (unopened_is g (equation_view c.args.equation.now) by old c.requires full) c.in_ok-clause_alone.ensures
